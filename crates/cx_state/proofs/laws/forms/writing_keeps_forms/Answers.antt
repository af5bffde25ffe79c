use Rattle.cx_state.proofs.Stepped.{Fit-write_of}
use Rattle.cx_state.proofs.laws.forms.writing_keeps_forms.Goals as goal

pub returns : goal.returns
returns c = Fit-write_of
