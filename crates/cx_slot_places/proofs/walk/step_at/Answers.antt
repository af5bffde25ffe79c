use Rattle.std.proofs.Common.{◌∙◌, sym, arith}
use Rattle.cx_layout.specs.Described.{columns_form}
use Rattle.cx_layout.proofs.Pathing.{place_there, parent_there, few_before, before_end, end_in, here_in}
use Rattle.cx_slot_places.proofs.Ends.{here_step, end_step, before_step}
use Rattle.cx_slot_places.proofs.walk.step_at.Goals as goal

pub node-row-requires : goal.node-row-requires
node-row-requires c = place_there c.args.columns.now.nodes.items c.args.columns.now.parts.items (columns_form c.args.columns.now) c.args.at c.requires.table c.requires.place

pub node-requires : goal.node-requires
node-requires c = parent_there c.args.columns.now.nodes.items c.args.columns.now.parts.items (columns_form c.args.columns.now) c.args.at c.requires.table c.requires.place c.node-row.result c.node-row.ensures (sym c.is_past_elements.ensures ∙ c.if-is_past_elements.true)

pub overflow_mul-count : goal.overflow_mul-count
overflow_mul-count c = let few = few_before c.args.columns.now.nodes.items c.args.columns.now.parts.items (columns_form c.args.columns.now) c.args.at c.requires.table c.requires.place c.node-row.result c.node-row.ensures (sym c.is_past_elements.ensures ∙ c.if-is_past_elements.true) c.node.result c.node.ensures c.count_of-count.result c.count_of-count.ensures in omega arith

pub overflow_sub-at : goal.overflow_sub-at
overflow_sub-at c = before_end c.args.columns.now.nodes.items c.args.columns.now.parts.items (columns_form c.args.columns.now) c.args.at c.requires.table c.requires.place c.node-row.result c.node-row.ensures (sym c.is_past_elements.ensures ∙ c.if-is_past_elements.true) c.node.result c.node.ensures c.count_of-count.result c.count_of-count.ensures

pub trail_to-array-requires : goal.trail_to-array-requires
trail_to-array-requires c = end_in c.args.columns.now.nodes.items c.args.columns.now.parts.items (columns_form c.args.columns.now) c.args.at c.requires.table c.requires.place c.node-row.result c.node-row.ensures (sym c.is_past_elements.ensures ∙ c.if-is_past_elements.true) c.node.result c.node.ensures c.count_of-count.result c.count_of-count.ensures

pub returns-then-array-k : goal.returns-then-array-k
returns-then-array-k c ss l =
    end_step c.args.columns.now.nodes.items c.args.columns.now.parts.items (columns_form c.args.columns.now) c.args.at c.requires.table ss l c.node-row.result c.node-row.ensures (sym c.is_past_elements.ensures ∙ c.if-is_past_elements.true)
    c.node.result c.node.ensures c.count_of-count.result c.count_of-count.ensures c.args.k c.trail_to-array.result c.trail_to-array.ensures c.if-array-k.true

pub returns-then-is_past_elements : goal.returns-then-is_past_elements
returns-then-is_past_elements c ss l =
    before_step c.args.columns.now.nodes.items c.args.columns.now.parts.items (columns_form c.args.columns.now) c.args.at c.requires.table ss l c.node-row.result c.node-row.ensures (sym c.is_past_elements.ensures ∙ c.if-is_past_elements.true)
    c.node.result c.node.ensures c.count_of-count.result c.count_of-count.ensures c.args.k c.trail_to-array.result c.trail_to-array.ensures c.if-array-k.false

pub trail_to-requires : goal.trail_to-requires
trail_to-requires c = here_in c.args.columns.now.nodes.items c.args.columns.now.parts.items (columns_form c.args.columns.now) c.args.at c.requires.table c.requires.place c.node-row.result c.node-row.ensures (sym c.is_past_elements.ensures ∙ c.if-is_past_elements.false)

pub returns : goal.returns
returns c ss l = here_step c.args.columns.now.nodes.items c.args.columns.now.parts.items (columns_form c.args.columns.now) c.args.at c.requires.table ss l c.node-row.result c.node-row.ensures c.args.k c.trail_to.result (sym c.is_past_elements.ensures ∙ c.if-is_past_elements.false) c.trail_to.ensures
