use Rattle.cx_state.proofs.CountLaws.{limit_objects-exactly, limit_cells-exactly, limits-alone}
use Rattle.cx_state.proofs.laws.counts.limits_come_exactly.Goals as goal

pub returns-clause-objects : goal.returns-clause-objects
returns-clause-objects c = limit_objects-exactly

pub returns-clause-cells : goal.returns-clause-cells
returns-clause-cells c = limit_cells-exactly

pub returns-clause-no_other : goal.returns-clause-no_other
returns-clause-no_other c = limits-alone
