use Rattle.cx_state.proofs.Paths.{not-aside, within-not_aside, aside-either}
use Rattle.cx_state.proofs.laws.paths.paths_lie_aside_or_within.Goals as goal

pub returns-clause-within : goal.returns-clause-within
returns-clause-within c = not-aside

pub returns-clause-not_within : goal.returns-clause-not_within
returns-clause-not_within c = within-not_aside

pub returns-clause-either_way : goal.returns-clause-either_way
returns-clause-either_way c = aside-either
