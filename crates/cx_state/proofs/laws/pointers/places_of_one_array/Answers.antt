use Rattle.cx_state.proofs.PointerLaws.{distance-add, add-order, add-unequal}
use Rattle.cx_state.proofs.laws.pointers.places_of_one_array.Goals as goal

pub returns-clause-forth : goal.returns-clause-forth
returns-clause-forth c = distance-add

pub returns-clause-order : goal.returns-clause-order
returns-clause-order c = add-order

pub returns-clause-unequal : goal.returns-clause-unequal
returns-clause-unequal c = add-unequal
