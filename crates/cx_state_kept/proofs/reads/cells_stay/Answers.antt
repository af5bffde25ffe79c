use Rattle.cx_state_kept.proofs.Reading.{cells_stay}
use Rattle.cx_state_kept.proofs.reads.cells_stay.Goals as goal

pub returns : goal.returns
returns c = cells_stay
