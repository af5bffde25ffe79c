use Rattle.cx_state.proofs.Elsewhere.{write-before}
use Rattle.cx_state.proofs.laws.elsewhere.objects_from_before_stay.Goals as goal

pub returns : goal.returns
returns c = write-before
