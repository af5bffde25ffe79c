use Rattle.cx_state.proofs.Growing.{Fit-grows, row_of-grows, MayHold-grows}
use Rattle.cx_state.proofs.Answering.{Knows-grows}
use Rattle.cx_state.proofs.laws.growth.growth_keeps_forms.Goals as goal

pub returns-clause-fits : goal.returns-clause-fits
returns-clause-fits c = Fit-grows

pub returns-clause-place : goal.returns-clause-place
returns-clause-place c = row_of-grows

pub returns-clause-known : goal.returns-clause-known
returns-clause-known c = Knows-grows

pub returns-clause-held : goal.returns-clause-held
returns-clause-held c = MayHold-grows
