use Rattle.cx_state.proofs.Ways.{way-told, way-tells, sealed-told, sealed-tells}
use Rattle.cx_state.proofs.laws.rules.ways_are_fronts.Goals as goal

pub returns-clause-on_way : goal.returns-clause-on_way
returns-clause-on_way c = way-told

pub returns-clause-so_on_way : goal.returns-clause-so_on_way
returns-clause-so_on_way c = way-tells

pub returns-clause-sealed : goal.returns-clause-sealed
returns-clause-sealed c = sealed-told

pub returns-clause-so_sealed : goal.returns-clause-so_sealed
returns-clause-so_sealed c = sealed-tells
