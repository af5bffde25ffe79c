use Rattle.cx_state.proofs.CountLaws.{release-cells, release-number}
use Rattle.cx_state.proofs.laws.counts.released_objects_count.Goals as goal

pub returns-clause-cells : goal.returns-clause-cells
returns-clause-cells c = release-cells

pub returns-clause-number : goal.returns-clause-number
returns-clause-number c = release-number
