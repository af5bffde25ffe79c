use Rattle.cx_type_defs.proofs.Ranges.{values-within}
use Rattle.cx_type_defs.proofs.laws.values_of_the_type.Goals as goal

pub returns : goal.returns
returns c = values-within
