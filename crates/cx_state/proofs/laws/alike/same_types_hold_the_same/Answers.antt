use Rattle.cx_state.proofs.SameTypes.{alike-pointee, alike-holds, alike-scalar}
use Rattle.cx_state.proofs.laws.alike.same_types_hold_the_same.Goals as goal

pub returns-clause-scalar : goal.returns-clause-scalar
returns-clause-scalar c = alike-scalar

pub returns-clause-value : goal.returns-clause-value
returns-clause-value c = alike-holds

pub returns-clause-pointee : goal.returns-clause-pointee
returns-clause-pointee c = alike-pointee
