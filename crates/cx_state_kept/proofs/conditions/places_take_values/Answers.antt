use Rattle.cx_state_kept.proofs.Meeting.{alike_scalar_at, alike_takes}
use Rattle.cx_state_kept.proofs.conditions.places_take_values.Goals as goal

pub returns-clause-scalar : goal.returns-clause-scalar
returns-clause-scalar c = alike_scalar_at

pub returns-clause-takes : goal.returns-clause-takes
returns-clause-takes c = alike_takes
