use Rattle.cx_type_defs.proofs.Ranges.{ended-range}
use Rattle.cx_type_defs.proofs.laws.enumerators_in_range.Goals as goal

pub returns : goal.returns
returns c = ended-range
