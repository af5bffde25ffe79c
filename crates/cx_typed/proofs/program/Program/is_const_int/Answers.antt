use Rattle.cx_typed.proofs.Types.{const_int, const_other, const_not}
use Rattle.cx_typed.proofs.program.Program.is_const_int.Goals as goal

pub returns-in-Int : goal.returns-in-Int
returns-in-Int c = rw (← c.self.view_is) (const_int c.self.inside.types c.sound.ensures c.args.id c.row-row.result c.row-row.ensures c.in-Int.field-0 c.if-row.true c.in-Int.is)

pub returns-in_default : goal.returns-in_default
returns-in_default c = rw (← c.self.view_is) (const_other c.self.inside.types c.sound.ensures c.args.id c.row-row.result c.row-row.ensures c.if-row.true c.in_default.not-Int)

pub returns-else-row : goal.returns-else-row
returns-else-row c = rw (← c.self.view_is) (const_not c.self.inside.types c.sound.ensures c.args.id c.row-row.result c.row-row.ensures c.if-row.false)
