use Rattle.std.proofs.Common.{◌≡◌, ◌+◌, ◌-◌, ◌*◌, ◌≤◌, ◌<◌, length, None, Some, refl, sym, ap, subst, ◌∙◌, arith}
use Rattle.cx_slots.specs.Slots.{slot_seen}
use Rattle.cx_layout.proofs.Filling.{get_within}
use Rattle.cx_slot_calls.proofs.Filling.{laid_there, part_room, laid_of}
use Rattle.cx_blocks.specs.News.{NewAt, PartsNewAt}
use Rattle.cx_blocks.proofs.News.{behind, leaf_shows, in_nodes, element, element_new, row_shows, union_new, bases_new, members_new, header_new, base_shows, member_shows, none_before, one_more, kth_new, kth_from, kth_shows, none_left}
use Rattle.cx_blocks.proofs.fresh.+fresh.Goals as goal

pub fresh_part-loop-k-init : goal.fresh_part-loop-k-init
fresh_part-loop-k-init t c = none_before c.args.columns.now.nodes.items c.args.columns.now.parts.items c.args.parent c.args.from c.args.count c.args.i

pub fresh_part-listed-node-requires : goal.fresh_part-listed-node-requires
fresh_part-listed-node-requires t c =
    let r = part_room c.args.columns.now.nodes.items c.args.columns.now.parts.items 1073741824 1073741824 c.args.parent c.args.from c.args.count 0 c.loop-k.k c.requires.0 c.loop-k-test.true refl in
    get_within c.args.columns.now.parts.items (c.args.from + c.loop-k.k) r.node r.is_listed

pub fresh_part-node-row-requires : goal.fresh_part-node-row-requires
fresh_part-node-row-requires t c =
    let r = part_room c.args.columns.now.nodes.items c.args.columns.now.parts.items 1073741824 1073741824 c.args.parent c.args.from c.args.count 0 c.loop-k.k c.requires.0 c.loop-k-test.true refl in
    laid_of c.args.columns.now.nodes.items c.args.columns.now.parts.items 1073741824 c.args.parent c.args.from 0 c.loop-k.k c.listed-node.result r c.listed-node.ensures

pub fresh_part-overflow_add-row : goal.fresh_part-overflow_add-row
fresh_part-overflow_add-row t c = let w = (kth_new c.args.columns.now.nodes.items c.args.columns.now.parts.items c.args.parent c.args.from c.args.count c.args.i c.loop-k.k c.listed-node.result c.node-row.result c.loop-k-test.true c.listed-node.ensures c.node-row.ensures c.requires).1 in omega arith

pub fresh_part-overflow_sub-i : goal.fresh_part-overflow_sub-i
fresh_part-overflow_sub-i t c = kth_from c.args.columns.now.nodes.items c.args.columns.now.parts.items c.args.parent c.args.from c.args.count c.args.i c.loop-k.k c.listed-node.result c.node-row.result c.loop-k-test.true c.listed-node.ensures c.node-row.ensures c.requires c.loop-k.invariant

pub fresh_part-fresh_slot-requires : goal.fresh_part-fresh_slot-requires
fresh_part-fresh_slot-requires t c =
    let w = kth_new c.args.columns.now.nodes.items c.args.columns.now.parts.items c.args.parent c.args.from c.args.count c.args.i c.loop-k.k c.listed-node.result c.node-row.result c.loop-k-test.true c.listed-node.ensures c.node-row.ensures c.requires in
    let a = w.0 in
    let b = c.requires.0.is_node in
    (omega arith, w.2)

pub fresh_part-returns-then-i-row : goal.fresh_part-returns-then-i-row
fresh_part-returns-then-i-row t c = kth_shows c.args.columns.now.nodes.items c.args.columns.now.parts.items c.args.parent c.args.from c.args.count c.args.i c.loop-k.k c.listed-node.result c.node-row.result c.loop-k-test.true c.listed-node.ensures c.node-row.ensures c.args.phase c.fresh_slot.result c.loop-k.invariant c.if-i-row.true c.fresh_slot.ensures

pub fresh_part-loop-k-preserved : goal.fresh_part-loop-k-preserved
fresh_part-loop-k-preserved t c =
    let l : c.node-row.result.under.offset + c.node-row.result.cells ≤ c.args.i = omega arith in
    one_more c.args.columns.now.nodes.items c.args.columns.now.parts.items c.args.parent c.args.from c.args.count c.args.i c.loop-k.k c.listed-node.result c.node-row.result c.loop-k-test.true c.listed-node.ensures c.node-row.ensures (c.loop-k.k + 1) refl c.loop-k.invariant l

pub fresh_part-returns : goal.fresh_part-returns
fresh_part-returns t c =
    let k : c.loop-k.k ≡ c.args.count = omega arith in
    none_left c.args.columns.now.nodes.items c.args.columns.now.parts.items c.args.parent c.args.from c.args.count c.args.i c.args.phase c.loop-k.k k c.loop-k.invariant

pub fresh_slot-node-row-requires : goal.fresh_slot-node-row-requires
fresh_slot-node-row-requires t c = laid_there c.args.columns.now.nodes.items c.args.columns.now.parts.items c.args.node c.requires.form c.requires.laid

pub fresh_slot-returns-then-i-row : goal.fresh_slot-returns-then-i-row
fresh_slot-returns-then-i-row t c = behind c.args.columns.now.nodes.items c.args.columns.now.parts.items c.args.node c.node-row.result c.node-row.ensures c.args.phase c.args.i (omega arith)

pub fresh_slot-overflow_add-node : goal.fresh_slot-overflow_add-node
fresh_slot-overflow_add-node t c = let w = (element c.args.columns.now.nodes.items c.args.columns.now.parts.items c.args.node c.node-row.result c.node-row.ensures c.in-Array.count c.in-Array.is c.requires).0 in omega arith

pub fresh_slot-node-element-requires : goal.fresh_slot-node-element-requires
fresh_slot-node-element-requires t c = (element c.args.columns.now.nodes.items c.args.columns.now.parts.items c.args.node c.node-row.result c.node-row.ensures c.in-Array.count c.in-Array.is c.requires).1

pub fresh_slot-overflow_add-node-in-Array : goal.fresh_slot-overflow_add-node-in-Array
fresh_slot-overflow_add-node-in-Array t c = let w = (element c.args.columns.now.nodes.items c.args.columns.now.parts.items c.args.node c.node-row.result c.node-row.ensures c.in-Array.count c.in-Array.is c.requires).0 in omega arith

pub fresh_slot-nonzero_rem-i : goal.fresh_slot-nonzero_rem-i
fresh_slot-nonzero_rem-i t c = (element_new c.args.columns.now.nodes.items c.args.columns.now.parts.items c.args.node c.node-row.result c.node-row.ensures c.in-Array.count c.args.i c.in-Array.is c.if-i-row.false c.node-element.result c.node-element.ensures c.requires).0

pub fresh_slot-fresh_slot-requires : goal.fresh_slot-fresh_slot-requires
fresh_slot-fresh_slot-requires t c =
    let a = in_nodes c.args.columns.now.nodes.items c.args.columns.now.parts.items c.args.node c.node-row.result c.node-row.ensures in
    (omega arith, (element_new c.args.columns.now.nodes.items c.args.columns.now.parts.items c.args.node c.node-row.result c.node-row.ensures c.in-Array.count c.args.i c.in-Array.is c.if-i-row.false c.node-element.result c.node-element.ensures c.requires).1)

pub fresh_slot-returns-then-parts : goal.fresh_slot-returns-then-parts
fresh_slot-returns-then-parts t c f laid path =
    ap (λ v. Some (slot_seen path v)) c.union_slot.ensures
    ∙ union_new c.args.columns.now.nodes.items c.args.columns.now.parts.items c.args.node c.node-row.result c.node-row.ensures c.in-Class.parts c.in-Class.is c.args.phase c.args.i c.if-i-row.false c.if-parts.true f laid path

pub fresh_slot-fresh_part-requires : goal.fresh_slot-fresh_part-requires
fresh_slot-fresh_part-requires t c =
    let a = in_nodes c.args.columns.now.nodes.items c.args.columns.now.parts.items c.args.node c.node-row.result c.node-row.ensures in
    let p : 1 ≤ c.args.i = omega arith in
    (omega arith, bases_new c.args.columns.now.nodes.items c.args.columns.now.parts.items c.args.node c.node-row.result c.node-row.ensures c.in-Class.parts c.in-Class.is c.if-parts.false c.args.i p c.requires)

pub fresh_slot-fresh_part-requires-in-None : goal.fresh_slot-fresh_part-requires-in-None
fresh_slot-fresh_part-requires-in-None t c =
    let a = in_nodes c.args.columns.now.nodes.items c.args.columns.now.parts.items c.args.node c.node-row.result c.node-row.ensures in
    let p : 1 ≤ c.args.i = omega arith in
    let none : PartsNewAt c.args.columns.now.nodes.items c.args.columns.now.parts.items c.args.phase c.args.node c.node-row.result.bases_from c.in-Class.parts.bases c.args.i None = subst (PartsNewAt c.args.columns.now.nodes.items c.args.columns.now.parts.items c.args.phase c.args.node c.node-row.result.bases_from c.in-Class.parts.bases c.args.i) c.in-None.is c.fresh_part.ensures in
    (omega arith, members_new c.args.columns.now.nodes.items c.args.columns.now.parts.items c.args.node c.node-row.result c.node-row.ensures c.in-Class.parts c.in-Class.is c.if-parts.false c.args.phase c.args.i p none c.requires)

pub fresh_slot-returns-in-Array : goal.fresh_slot-returns-in-Array
fresh_slot-returns-in-Array t c = row_shows c.args.columns.now.nodes.items c.args.columns.now.parts.items c.args.node c.node-row.result c.node-row.ensures c.in-Array.count c.args.i c.in-Array.is c.if-i-row.false c.node-element.result c.node-element.ensures c.args.phase c.fresh_slot.result c.fresh_slot.ensures

pub fresh_slot-returns-in-Some : goal.fresh_slot-returns-in-Some
fresh_slot-returns-in-Some t c f laid path =
    let p : 1 ≤ c.args.i = omega arith in
    base_shows c.args.columns.now.nodes.items c.args.columns.now.parts.items c.args.node c.node-row.result c.node-row.ensures c.in-Class.parts c.in-Class.is c.if-parts.false c.args.phase c.args.i p f laid path c.in-Some.slot (subst (PartsNewAt c.args.columns.now.nodes.items c.args.columns.now.parts.items c.args.phase c.args.node c.node-row.result.bases_from c.in-Class.parts.bases c.args.i) c.in-Some.is c.fresh_part.ensures)

pub fresh_slot-returns-in-None : goal.fresh_slot-returns-in-None
fresh_slot-returns-in-None t c f laid path =
    let p : 1 ≤ c.args.i = omega arith in
    member_shows c.args.columns.now.nodes.items c.args.columns.now.parts.items c.args.node c.node-row.result c.node-row.ensures c.in-Class.parts c.in-Class.is c.if-parts.false c.args.phase c.args.i p f laid path c.fresh_part-in-None.result (subst (PartsNewAt c.args.columns.now.nodes.items c.args.columns.now.parts.items c.args.phase c.args.node c.node-row.result.bases_from c.in-Class.parts.bases c.args.i) c.in-None.is c.fresh_part.ensures) c.fresh_part-in-None.ensures
