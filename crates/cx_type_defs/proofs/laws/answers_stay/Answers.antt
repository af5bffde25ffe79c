use Rattle.cx_type_defs.specs.Questions.{depth_of, cells_of, nodes_of, literal_of, extent_of}
use Rattle.cx_type_defs.proofs.Looking.{asked-keeps}
use Rattle.cx_type_defs.proofs.laws.answers_stay.Goals as goal

pub returns-clause-depth : goal.returns-clause-depth
returns-clause-depth c = asked-keeps depth_of

pub returns-clause-cells : goal.returns-clause-cells
returns-clause-cells c = asked-keeps cells_of

pub returns-clause-nodes : goal.returns-clause-nodes
returns-clause-nodes c = asked-keeps nodes_of

pub returns-clause-literal : goal.returns-clause-literal
returns-clause-literal c = asked-keeps literal_of

pub returns-clause-extent : goal.returns-clause-extent
returns-clause-extent c = asked-keeps extent_of
