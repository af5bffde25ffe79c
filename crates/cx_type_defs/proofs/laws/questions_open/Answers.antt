use Rattle.cx_type_defs.specs.Questions.{depth_of, cells_of, nodes_of, literal_of, extent_of}
use Rattle.cx_type_defs.proofs.Asked.{asked-opens, asked-by_parts, cells-told}
use Rattle.cx_type_defs.proofs.laws.questions_open.Goals as goal

pub returns-clause-depth : goal.returns-clause-depth
returns-clause-depth c = asked-by_parts depth_of

pub returns-clause-cells : goal.returns-clause-cells
returns-clause-cells c = asked-by_parts cells_of

pub returns-clause-nodes : goal.returns-clause-nodes
returns-clause-nodes c = asked-by_parts nodes_of

pub returns-clause-literal : goal.returns-clause-literal
returns-clause-literal c = asked-by_parts literal_of

pub returns-clause-extent : goal.returns-clause-extent
returns-clause-extent c = asked-by_parts extent_of

pub returns-clause-cells_known : goal.returns-clause-cells_known
returns-clause-cells_known c = cells-told

pub returns-clause-cells_or_none : goal.returns-clause-cells_or_none
returns-clause-cells_or_none c = asked-opens cells_of

pub returns-clause-literal_or_none : goal.returns-clause-literal_or_none
returns-clause-literal_or_none c = asked-opens literal_of

pub returns-clause-extent_or_none : goal.returns-clause-extent_or_none
returns-clause-extent_or_none c = asked-opens extent_of
