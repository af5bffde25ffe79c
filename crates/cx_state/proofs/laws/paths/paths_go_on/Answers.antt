use Rattle.cx_state.proofs.Paths.{at-within, at-above, put-within}
use Rattle.cx_state.proofs.laws.paths.paths_go_on.Goals as goal

pub returns-clause-found : goal.returns-clause-found
returns-clause-found c = at-within

pub returns-clause-above : goal.returns-clause-above
returns-clause-above c = at-above

pub returns-clause-changed : goal.returns-clause-changed
returns-clause-changed c = put-within
