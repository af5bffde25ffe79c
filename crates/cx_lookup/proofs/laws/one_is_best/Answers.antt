use Rattle.cx_lookup.proofs.Strict.{one-best}
use Rattle.cx_lookup.proofs.laws.one_is_best.Goals as goal

pub returns : goal.returns
returns c = one-best
