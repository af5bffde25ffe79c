use Rattle.cx_state.proofs.CountLaws.{cut-next}
use Rattle.cx_state.proofs.laws.counts.cut_numbers_come_again.Goals as goal

pub returns : goal.returns
returns c = cut-next
