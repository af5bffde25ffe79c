use Rattle.std.proofs.Common.{sym}
use Rattle.cx_type_defs.specs.Tables.{body_at}
use Rattle.cx_types.proofs.Extents.{class-extent, class-no_extent}
use Rattle.cx_types.proofs.tables.Types.class_extent.Goals as goal

pub returns-in-Some : goal.returns-in-Some
returns-in-Some c = sym (class-extent c.args.self.now c.args.class (body_at c.args.self.now c.args.class) c.in-Some.measure c.in-Some.ensures)

pub returns-in-None : goal.returns-in-None
returns-in-None c = sym (class-no_extent c.args.self.now c.args.class c.in-None.ensures)
