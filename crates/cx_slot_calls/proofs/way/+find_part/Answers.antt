use Rattle.std.proofs.Common.{◌≤◌, arith, subst, sym}
use Rattle.cx_layout.specs.Described.{columns_form}
use Rattle.cx_layout.proofs.Walking.{in_there, in_parent, parent_before}
use Rattle.cx_slot_calls.specs.Walks.{Walked}
use Rattle.cx_slot_calls.proofs.Walking.{walked_first, walked_next, step_can}
use Rattle.cx_slot_calls.proofs.way.+find_part.Goals as goal

pub node-row-requires : goal.node-row-requires
node-row-requires t c = in_there c.args.columns.now.nodes.items c.args.columns.now.parts.items (columns_form c.args.columns.now) c.args.node c.args.slot c.requires.place

pub find_part-outer-requires : goal.find_part-outer-requires
find_part-outer-requires t c =
    let p : 1 ≤ c.args.node = omega arith in
    let l = parent_before c.args.columns.now.nodes.items c.args.columns.now.parts.items (columns_form c.args.columns.now) c.args.node c.args.slot c.requires.place p c.node-row.result c.node-row.ensures in
    (omega arith, (in_parent c.args.columns.now.nodes.items c.args.columns.now.parts.items (columns_form c.args.columns.now) c.args.node c.args.slot c.requires.place p c.node-row.result c.node-row.ensures, c.requires.slots))

pub node-above-requires : goal.node-above-requires
node-above-requires t c =
    let p : 1 ≤ c.args.node = omega arith in
    in_there c.args.columns.now.nodes.items c.args.columns.now.parts.items (columns_form c.args.columns.now) c.node-row.result.under.parent c.args.slot
    (in_parent c.args.columns.now.nodes.items c.args.columns.now.parts.items (columns_form c.args.columns.now) c.args.node c.args.slot c.requires.place p c.node-row.result c.node-row.ensures)

pub step_down-requires : goal.step_down-requires
step_down-requires t c =
    let p : 1 ≤ c.args.node = omega arith in
    step_can c.args.columns.now.nodes.items c.args.columns.now.parts.items (columns_form c.args.columns.now) c.args.node c.args.slot c.args.slots.now p c.node-row.result c.node-above.result c.node-row.ensures c.node-above.ensures c.find_part-outer.result c.find_part-outer.ensures c.requires.place c.requires.slots

pub returns-then-node-eq0 : goal.returns-then-node-eq0
returns-then-node-eq0 t c = walked_first (columns_form c.args.columns.now) c.args.slots.now c.args.node c.args.slot c.if-node-eq0.true

pub returns : goal.returns
returns t c =
    let p : 1 ≤ c.args.node = omega arith in
    subst (Walked (columns_form c.args.columns.now) c.args.slots.now c.args.node c.args.slot) (sym c.step_down.ensures)
    (walked_next c.args.columns.now.nodes.items c.args.columns.now.parts.items (columns_form c.args.columns.now) c.args.node c.args.slot c.args.slots.now p c.node-row.result c.node-above.result c.node-row.ensures c.node-above.ensures c.find_part-outer.result c.find_part-outer.ensures c.requires.place)
