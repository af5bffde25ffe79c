use Rattle.cx_state_kept.proofs.Keeping.{changed_or_not}
use Rattle.cx_state_kept.proofs.places.done_or_refused.Goals as goal

pub returns : goal.returns
returns c = changed_or_not
