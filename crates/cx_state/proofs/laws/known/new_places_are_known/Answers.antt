use Rattle.cx_state.proofs.Known.{next_place-knows}
use Rattle.cx_state.proofs.laws.known.new_places_are_known.Goals as goal

pub returns : goal.returns
returns c = next_place-knows
