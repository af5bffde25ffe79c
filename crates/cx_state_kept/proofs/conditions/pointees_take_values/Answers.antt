use Rattle.cx_state_kept.proofs.Meeting.{pointee_scalar, pointee_takes}
use Rattle.cx_state_kept.proofs.conditions.pointees_take_values.Goals as goal

pub returns-clause-scalar : goal.returns-clause-scalar
returns-clause-scalar c = pointee_scalar

pub returns-clause-takes : goal.returns-clause-takes
returns-clause-takes c = pointee_takes
