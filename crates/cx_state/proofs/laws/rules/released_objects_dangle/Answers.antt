use Rattle.cx_state.proofs.Rules.{released-dangles}
use Rattle.cx_state.proofs.laws.rules.released_objects_dangle.Goals as goal

pub returns : goal.returns
returns c = released-dangles
