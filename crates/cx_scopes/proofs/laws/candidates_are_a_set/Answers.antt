use Rattle.cx_scopes.proofs.United.{united-first, united-from, united-once}
use Rattle.cx_scopes.proofs.laws.candidates_are_a_set.Goals as goal

pub returns : goal.returns
returns c = record { first = λ es fs f. united-first f es fs; from = λ es fs f. united-from f es fs; once = united-once }
