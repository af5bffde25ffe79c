use Rattle.cx_state.proofs.Known.{may_hold-knows, load-knows}
use Rattle.cx_state.proofs.laws.known.held_places_are_known.Goals as goal

pub returns-clause-may_hold : goal.returns-clause-may_hold
returns-clause-may_hold c = may_hold-knows

pub returns-clause-load : goal.returns-clause-load
returns-clause-load c = load-knows
