use Rattle.cx_state.proofs.Reached.{touched-there}
use Rattle.cx_state.proofs.laws.forms.touched_parts_are_there.Goals as goal

pub returns : goal.returns
returns c = record { there = touched-there }
