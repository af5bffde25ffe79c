use Rattle.cx_state.proofs.Elsewhere.{write-stays}
use Rattle.cx_state.proofs.laws.elsewhere.steps_stay_at_their_path.Goals as goal

pub returns : goal.returns
returns c = write-stays
