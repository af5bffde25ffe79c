use Rattle.cx_state.proofs.Elsewhere.{deactivate-none, deactivate-again}
use Rattle.cx_state.proofs.laws.elsewhere.deactivation_is_there.Goals as goal

pub returns-clause-none : goal.returns-clause-none
returns-clause-none c = deactivate-none

pub returns-clause-again : goal.returns-clause-again
returns-clause-again c = deactivate-again
