use Rattle.cx_state.proofs.Paths.{at-put, put-object, put-length}
use Rattle.cx_state.proofs.laws.paths.put_is_there.Goals as goal

pub returns-clause-here : goal.returns-clause-here
returns-clause-here c = at-put

pub returns-clause-record_stays : goal.returns-clause-record_stays
returns-clause-record_stays c = put-object

pub returns-clause-as_many : goal.returns-clause-as_many
returns-clause-as_many c = put-length
