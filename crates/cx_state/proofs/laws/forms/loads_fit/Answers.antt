use Rattle.cx_state.proofs.Written.{load-held}
use Rattle.cx_state.proofs.Reached.{load-there}
use Rattle.cx_state.proofs.laws.forms.loads_fit.Goals as goal

pub returns-clause-held : goal.returns-clause-held
returns-clause-held c = load-held

pub returns-clause-there : goal.returns-clause-there
returns-clause-there c = load-there
