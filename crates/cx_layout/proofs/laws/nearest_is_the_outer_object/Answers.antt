use Rattle.cx_layout.proofs.Agreeing.{nearest_is_outer}
use Rattle.cx_layout.proofs.laws.nearest_is_the_outer_object.Goals as goal

pub returns : goal.returns
returns c = nearest_is_outer
