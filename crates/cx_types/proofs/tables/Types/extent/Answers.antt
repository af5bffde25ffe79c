use Rattle.std.proofs.Common.{sym}
use Rattle.cx_type_defs.specs.Questions.{extent_of}
use Rattle.cx_types.proofs.Rows.{open-asked}
use Rattle.cx_types.proofs.tables.Types.extent.Goals as goal

pub returns-in-None : goal.returns-in-None
returns-in-None c = sym (open-asked extent_of c.args.self.now c.args.id c.in-None.ensures)
