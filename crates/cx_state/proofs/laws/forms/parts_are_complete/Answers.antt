use Rattle.cx_state.proofs.PartsComplete.{member-complete, element-complete, complete-known}
use Rattle.cx_state.proofs.laws.forms.parts_are_complete.Goals as goal

pub returns-clause-member : goal.returns-clause-member
returns-clause-member c = member-complete

pub returns-clause-element : goal.returns-clause-element
returns-clause-element c = element-complete

pub returns-clause-known : goal.returns-clause-known
returns-clause-known c = complete-known
