use Rattle.cx_slots.proofs.Frames.{path_frame}
use Rattle.cx_slots.proofs.laws.changes_stay_in_their_slots.Goals as goal

pub returns : goal.returns
returns c = path_frame
