use Rattle.cx_state.proofs.Lasting.{call-dead, call-ended}
use Rattle.cx_state.proofs.laws.finished.calls_tell_what_has_ended.Goals as goal

pub returns-clause-dead : goal.returns-clause-dead
returns-clause-dead c = call-dead

pub returns-clause-ended : goal.returns-clause-ended
returns-clause-ended c = call-ended
