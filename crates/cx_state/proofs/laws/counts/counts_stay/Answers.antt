use Rattle.cx_state.proofs.CountLaws.{write-counts, settle-counts}
use Rattle.cx_state.proofs.laws.counts.counts_stay.Goals as goal

pub returns-clause-write : goal.returns-clause-write
returns-clause-write c = write-counts

pub returns-clause-settle : goal.returns-clause-settle
returns-clause-settle c = settle-counts
