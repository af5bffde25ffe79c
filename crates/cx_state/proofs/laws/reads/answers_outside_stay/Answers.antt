use Rattle.cx_state.proofs.Outside.{broken-outside, load-outside, active-outside, dynamic-outside}
use Rattle.cx_state.proofs.laws.reads.answers_outside_stay.Goals as goal

pub returns-clause-rule : goal.returns-clause-rule
returns-clause-rule c = broken-outside

pub returns-clause-value : goal.returns-clause-value
returns-clause-value c = load-outside

pub returns-clause-member : goal.returns-clause-member
returns-clause-member c = active-outside

pub returns-clause-class : goal.returns-clause-class
returns-clause-class c = dynamic-outside
