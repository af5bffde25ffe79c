use Rattle.cx_state.proofs.Released.{object-ends}
use Rattle.cx_state.proofs.laws.forms.released_by_type.Goals as goal

pub returns : goal.returns
returns c = record { ended = object-ends }
