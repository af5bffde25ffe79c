use Rattle.cx_layout.proofs.Growing.{are_of_grow}
use Rattle.cx_layout.proofs.laws.descriptors_stay.Goals as goal

pub returns : goal.returns
returns c = are_of_grow
