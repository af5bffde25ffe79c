use Rattle.cx_state_kept.proofs.Holding.{whole_known}
use Rattle.cx_state_kept.proofs.held.whole_places_are_known.Goals as goal

pub returns : goal.returns
returns g c = whole_known
