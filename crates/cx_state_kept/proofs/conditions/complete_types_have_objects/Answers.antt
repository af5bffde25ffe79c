use Rattle.cx_state_kept.proofs.Meeting.{one_whole, many_whole}
use Rattle.cx_state_kept.proofs.conditions.complete_types_have_objects.Goals as goal

pub returns-clause-one : goal.returns-clause-one
returns-clause-one c = one_whole

pub returns-clause-many : goal.returns-clause-many
returns-clause-many c = many_whole
