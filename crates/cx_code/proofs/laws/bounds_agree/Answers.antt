use Rattle.cx_code.proofs.Stable.{code-same, code-turns}
use Rattle.cx_code.proofs.laws.bounds_agree.Goals as goal

pub returns-clause-same : goal.returns-clause-same
returns-clause-same c = code-same

pub returns-clause-turns : goal.returns-clause-turns
returns-clause-turns c = code-turns
