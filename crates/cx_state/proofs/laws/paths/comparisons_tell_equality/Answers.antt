use Rattle.cx_state.proofs.Paths.{same_step-true, same_step-is, same_steps-true, same_steps-is, same_path-true, same_path-is}
use Rattle.cx_state.proofs.laws.paths.comparisons_tell_equality.Goals as goal

pub returns-clause-step : goal.returns-clause-step
returns-clause-step c = λ s u. (same_step-true s u, same_step-is s u)

pub returns-clause-steps : goal.returns-clause-steps
returns-clause-steps c = λ ss us. (same_steps-true ss us, same_steps-is ss us)

pub returns-clause-path : goal.returns-clause-path
returns-clause-path c = λ p q. (same_path-true p q, same_path-is p q)
