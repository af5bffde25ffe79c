use Rattle.cx_state.proofs.Outside.{stored-read, init-read, stored-elsewhere}
use Rattle.cx_state.proofs.laws.reads.written_is_read.Goals as goal

pub returns-clause-stored : goal.returns-clause-stored
returns-clause-stored c = stored-read

pub returns-clause-initialized : goal.returns-clause-initialized
returns-clause-initialized c = init-read

pub returns-clause-others : goal.returns-clause-others
returns-clause-others c = stored-elsewhere
