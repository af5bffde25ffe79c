use Rattle.cx_typed.proofs.Growth.{program_initialized, vars_initialized}
use Rattle.cx_typed.proofs.program.Program.initialize.Goals as goal

pub invariant_of-self : goal.invariant_of-self
invariant_of-self c = let q = rw (← c.self.view_is) at c.requires in rw c.set_init.ensures (program_initialized c.self.inside.types c.self.inside.variables.items c.args.variable c.args.init c.self.invariant q.within q.fresh)

pub returns-clause-initialized : goal.returns-clause-initialized
returns-clause-initialized c = rw (← c.self.view_is, c.set_init.ensures) (vars_initialized c.self.inside.types c.self.inside.variables.items c.args.variable.0 c.args.init)
