use Rattle.cx_lookup.specs.Ranks.{derived}
use Rattle.cx_lookup.specs.Choice.{viable}
use Rattle.cx_lookup.proofs.Best.{found, chosen, chosen-best, no-match, ambiguous, order}
use Rattle.cx_lookup.proofs.laws.the_best_is_chosen.Goals as goal

pub returns-clause-found : goal.returns-clause-found
returns-clause-found c = found

pub returns-clause-chosen : goal.returns-clause-chosen
returns-clause-chosen c = chosen

pub returns-clause-is_best : goal.returns-clause-is_best
returns-clause-is_best c = λ w ss args. chosen-best (derived w.types) args (viable w args ss)

pub returns-clause-no_match : goal.returns-clause-no_match
returns-clause-no_match c = λ w ss args. no-match (derived w.types) args (viable w args ss)

pub returns-clause-ambiguous : goal.returns-clause-ambiguous
returns-clause-ambiguous c = λ w ss args. ambiguous (derived w.types) args (viable w args ss)

pub returns-clause-order : goal.returns-clause-order
returns-clause-order c = order
