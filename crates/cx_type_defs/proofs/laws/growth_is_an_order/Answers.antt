use Rattle.cx_type_defs.proofs.Looking.{Grows-same, Grows-then}
use Rattle.cx_type_defs.proofs.laws.growth_is_an_order.Goals as goal

pub returns-clause-reflexive : goal.returns-clause-reflexive
returns-clause-reflexive c = Grows-same

pub returns-clause-transitive : goal.returns-clause-transitive
returns-clause-transitive c = Grows-then
