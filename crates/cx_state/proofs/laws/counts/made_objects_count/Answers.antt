use Rattle.cx_state.proofs.CountLaws.{make-number, make-within, make-cells, make-cells_within}
use Rattle.cx_state.proofs.laws.counts.made_objects_count.Goals as goal

pub returns-clause-number : goal.returns-clause-number
returns-clause-number c = make-number

pub returns-clause-number_within : goal.returns-clause-number_within
returns-clause-number_within c = make-within

pub returns-clause-cells : goal.returns-clause-cells
returns-clause-cells c = make-cells

pub returns-clause-cells_within : goal.returns-clause-cells_within
returns-clause-cells_within c = make-cells_within
