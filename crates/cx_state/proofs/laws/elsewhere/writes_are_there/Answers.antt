use Rattle.cx_state.proofs.Elsewhere.{write-there, advance-phase, advance-parts}
use Rattle.cx_state.proofs.laws.elsewhere.writes_are_there.Goals as goal

pub returns-clause-written : goal.returns-clause-written
returns-clause-written c = write-there

pub returns-clause-next_phase : goal.returns-clause-next_phase
returns-clause-next_phase c = advance-phase

pub returns-clause-parts_stay : goal.returns-clause-parts_stay
returns-clause-parts_stay c = advance-parts
