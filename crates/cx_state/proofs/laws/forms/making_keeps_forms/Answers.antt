use Rattle.cx_state.proofs.Making.{Fit-none, Fit-make}
use Rattle.cx_state.proofs.laws.forms.making_keeps_forms.Goals as goal

pub returns-clause-none : goal.returns-clause-none
returns-clause-none c = Fit-none

pub returns-clause-make : goal.returns-clause-make
returns-clause-make c = Fit-make
