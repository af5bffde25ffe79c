use Rattle.cx_state.proofs.Elsewhere.{activate-active, activate-new, activate-anew, activate-again}
use Rattle.cx_state.proofs.laws.elsewhere.activation_is_there.Goals as goal

pub returns-clause-active : goal.returns-clause-active
returns-clause-active c = activate-active

pub returns-clause-new_tree : goal.returns-clause-new_tree
returns-clause-new_tree c = activate-new

pub returns-clause-anew : goal.returns-clause-anew
returns-clause-anew c = activate-anew

pub returns-clause-again : goal.returns-clause-again
returns-clause-again c = activate-again
