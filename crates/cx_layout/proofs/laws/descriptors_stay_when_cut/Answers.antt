use Rattle.cx_layout.proofs.Wholes.{of_take, form_left, form_added}
use Rattle.cx_layout.proofs.laws.descriptors_stay_when_cut.Goals as goal

pub returns-clause-cut : goal.returns-clause-cut
returns-clause-cut c = of_take

pub returns-clause-left : goal.returns-clause-left
returns-clause-left c = form_left

pub returns-clause-added : goal.returns-clause-added
returns-clause-added c = form_added
