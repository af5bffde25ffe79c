use Rattle.cx_state.proofs.PointerLaws.{equal-itself, equal-swap}
use Rattle.cx_state.proofs.laws.pointers.equality_is_symmetric.Goals as goal

pub returns-clause-itself : goal.returns-clause-itself
returns-clause-itself c = equal-itself

pub returns-clause-symmetric : goal.returns-clause-symmetric
returns-clause-symmetric c = equal-swap
