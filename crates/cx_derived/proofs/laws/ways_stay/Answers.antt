use Rattle.cx_derived.proofs.Leading.{ways-stay}
use Rattle.cx_derived.proofs.laws.ways_stay.Goals as goal

pub returns : goal.returns
returns c = ways-stay
