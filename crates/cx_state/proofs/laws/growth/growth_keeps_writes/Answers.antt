use Rattle.cx_state.proofs.Answering.{write-stays}
use Rattle.cx_state.proofs.laws.growth.growth_keeps_writes.Goals as goal

pub returns : goal.returns
returns c = write-stays
