use Rattle.cx_typed.proofs.Growth.{program_pushed}
use Rattle.cx_typed.proofs.program.Program.declare.Goals as goal

pub invariant_of-self : goal.invariant_of-self
invariant_of-self c = let q = rw (← c.self.view_is) at c.requires in program_pushed c.push.result c.self.inside.types c.self.inside.variables.items c.push.new.variables.items c.args.variable c.push.ensures.ok c.push.ensures.err c.self.invariant q.known q.integer q.fresh q.few

pub invariant_of-self-2 : goal.invariant_of-self-2
invariant_of-self-2 c = let q = rw (← c.self.view_is) at c.requires in program_pushed c.push.result c.self.inside.types c.self.inside.variables.items c.push.new.variables.items c.args.variable c.push.ensures.ok c.push.ensures.err c.self.invariant q.known q.integer q.fresh q.few
