use Rattle.cx_state.proofs.PointerLaws.{less-itself, less-back}
use Rattle.cx_state.proofs.laws.pointers.order_is_strict.Goals as goal

pub returns-clause-itself : goal.returns-clause-itself
returns-clause-itself c = less-itself

pub returns-clause-one_way : goal.returns-clause-one_way
returns-clause-one_way c = less-back
