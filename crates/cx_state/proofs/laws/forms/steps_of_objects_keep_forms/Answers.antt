use Rattle.cx_state.proofs.EndedTrees.{Fit-release, Fit-settle, Fit-cut}
use Rattle.cx_state.proofs.laws.forms.steps_of_objects_keep_forms.Goals as goal

pub returns-clause-release : goal.returns-clause-release
returns-clause-release c = Fit-release

pub returns-clause-settle : goal.returns-clause-settle
returns-clause-settle c = Fit-settle

pub returns-clause-cut : goal.returns-clause-cut
returns-clause-cut c = Fit-cut
