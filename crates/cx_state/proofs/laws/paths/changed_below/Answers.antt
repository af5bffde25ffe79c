use Rattle.cx_state.proofs.Paths.{below-changed_here, below-changed_aside, changed-swap, changed-twice, changed-same, below-append, changed-append}
use Rattle.cx_state.proofs.laws.paths.changed_below.Goals as goal

pub returns-clause-here : goal.returns-clause-here
returns-clause-here c = below-changed_here

pub returns-clause-aside : goal.returns-clause-aside
returns-clause-aside c = λ f x ss us a b. below-changed_aside f x ss us (record { not_first = a; not_second = b })

pub returns-clause-either_first : goal.returns-clause-either_first
returns-clause-either_first c = λ f g x ss us a b. changed-swap f g x ss us (record { not_first = a; not_second = b })

pub returns-clause-twice : goal.returns-clause-twice
returns-clause-twice c = changed-twice

pub returns-clause-same : goal.returns-clause-same
returns-clause-same c = changed-same

pub returns-clause-further : goal.returns-clause-further
returns-clause-further c = below-append

pub returns-clause-further_change : goal.returns-clause-further_change
returns-clause-further_change c = changed-append
