use Rattle.cx_typed.proofs.Types.{int_of_int, int_of_other}
use Rattle.cx_typed.proofs.program.Program.int_type.Goals as goal

pub returns-in-Int : goal.returns-in-Int
returns-in-Int c = rw (← c.self.view_is) (int_of_int c.self.inside.types c.sound.ensures c.args.id c.row.result c.in-Int.ty c.row.ensures c.in-Int.is)

pub returns-in_default : goal.returns-in_default
returns-in_default c = rw (← c.self.view_is) (int_of_other c.self.inside.types c.sound.ensures c.args.id c.row.result c.row.ensures c.in_default.not-Int)
