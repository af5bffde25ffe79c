use Rattle.cx_state.proofs.Known.{load-knows}
use Rattle.cx_state_kept.proofs.Reading.{read_holds}
use Rattle.cx_state_kept.proofs.reads.reads_fit.Goals as goal

pub returns-clause-known : goal.returns-clause-known
returns-clause-known c = load-knows

pub returns-clause-holds : goal.returns-clause-holds
returns-clause-holds c = read_holds
