use Rattle.cx_state.proofs.Outside.{write-outside}
use Rattle.cx_state.proofs.laws.reads.rules_outside_stay.Goals as goal

pub returns : goal.returns
returns c = write-outside
