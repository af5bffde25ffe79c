use Rattle.cx_type_defs.proofs.Forms.{one-number}
use Rattle.cx_type_defs.proofs.laws.one_number_a_type.Goals as goal

pub returns : goal.returns
returns c = one-number
