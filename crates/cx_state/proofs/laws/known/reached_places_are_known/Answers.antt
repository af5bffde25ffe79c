use Rattle.cx_state.proofs.Known.{add-knows, outer-knows, dynamic_class-knows}
use Rattle.cx_state.proofs.laws.known.reached_places_are_known.Goals as goal

pub returns-clause-add : goal.returns-clause-add
returns-clause-add c = add-knows

pub returns-clause-outer : goal.returns-clause-outer
returns-clause-outer c = outer-knows

pub returns-clause-dynamic : goal.returns-clause-dynamic
returns-clause-dynamic c = dynamic_class-knows
