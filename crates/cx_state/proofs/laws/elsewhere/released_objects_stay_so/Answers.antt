use Rattle.cx_state.proofs.Elsewhere.{release-dangling, written-dangling, release-keeps, settle-keeps, make-keeps}
use Rattle.cx_state.proofs.laws.elsewhere.released_objects_stay_so.Goals as goal

pub returns-clause-released : goal.returns-clause-released
returns-clause-released c = release-dangling

pub returns-clause-written : goal.returns-clause-written
returns-clause-written c = written-dangling

pub returns-clause-release : goal.returns-clause-release
returns-clause-release c = release-keeps

pub returns-clause-settle : goal.returns-clause-settle
returns-clause-settle c = settle-keeps

pub returns-clause-make : goal.returns-clause-make
returns-clause-make c = make-keeps
