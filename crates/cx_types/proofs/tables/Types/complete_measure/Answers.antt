use Rattle.cx_type_defs.specs.Questions.{extent_of}
use Rattle.cx_types.proofs.Rows.{open-asked}
use Rattle.cx_types.proofs.Closing.{type-told}
use Rattle.cx_types.proofs.tables.Types.complete_measure.Goals as goal

pub returns-in-None : goal.returns-in-None
returns-in-None c = open-asked extent_of c.args.self.now c.args.id c.in-None.ensures

pub returns-in-Some : goal.returns-in-Some
returns-in-Some c = type-told c.args.self.now c.args.id c.in-Some.kept c.args.extent c.in-Some.ensures c.requires.complete
