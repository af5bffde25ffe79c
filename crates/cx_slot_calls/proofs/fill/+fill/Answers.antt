use Rattle.std.proofs.Common.{◌≡◌, ◌+◌, length, arith, refl, ap, ◌∙◌, slice_set, None}
use Rattle.std.proofs.lemmas.List.{length-set}
use Rattle.cx_state.specs.Objects.{copies}
use Rattle.cx_layout.proofs.Filling.{get_within}
use Rattle.cx_slots.specs.declared.slot.SlotView.TheVariants as view
use Rattle.cx_slots.specs.Slots.{slots_seen}
use Rattle.cx_slots.specs.Flat.{flat, flat_each}
use Rattle.cx_slots.specs.Fresh.{fresh, over}
use Rattle.cx_slot_calls.proofs.Filling.{laid_there, row_first, row_next, row_room, parts_first, parts_next, parts_last, part_room, room_of, laid_of}
use Rattle.cx_slot_calls.proofs.Filled.{in_nodes, leaf_within, leaf_filled, row_more, row_filled, class_within, bases_room, members_room, class_filled, union_filled}
use Rattle.cx_slot_calls.proofs.fill.+fill.Goals as goal

pub fill-node-row-requires : goal.fill-node-row-requires
fill-node-row-requires t c = laid_there c.args.columns.now.nodes.items c.args.columns.now.parts.items c.args.node c.requires.form c.requires.laid

pub fill-bounds-slots-slot : goal.fill-bounds-slots-slot
fill-bounds-slots-slot t c = leaf_within c.args.columns.now.nodes.items c.args.columns.now.parts.items c.args.node c.node-row.result c.node-row.ensures c.args.phase c.args.slots.now c.args.slot c.in-Scalar.is c.requires

pub fill-overflow_add-node : goal.fill-overflow_add-node
fill-overflow_add-node t c = let w = row_more c.args.columns.now.nodes.items c.args.columns.now.parts.items c.args.node c.node-row.result c.node-row.ensures c.args.phase c.args.slots.now c.args.slot c.in-Array.count c.in-Array.is c.requires in let a = w.0 in omega arith

pub fill-fill_row-requires : goal.fill-fill_row-requires
fill-fill_row-requires t c = let w = row_more c.args.columns.now.nodes.items c.args.columns.now.parts.items c.args.node c.node-row.result c.node-row.ensures c.args.phase c.args.slots.now c.args.slot c.in-Array.count c.in-Array.is c.requires in let a = w.1 in (omega arith, w.2)

pub fill-bounds-slots-slot-then-parts : goal.fill-bounds-slots-slot-then-parts
fill-bounds-slots-slot-then-parts t c = (class_within c.args.columns.now.nodes.items c.args.columns.now.parts.items c.args.node c.node-row.result c.node-row.ensures c.args.phase c.args.slots.now c.args.slot c.in-Class.parts c.in-Class.is c.requires).0

pub fill-overflow_add-slot : goal.fill-overflow_add-slot
fill-overflow_add-slot t c = let w = class_within c.args.columns.now.nodes.items c.args.columns.now.parts.items c.args.node c.node-row.result c.node-row.ensures c.args.phase c.args.slots.now c.args.slot c.in-Class.parts c.in-Class.is c.requires in let a = w.2 in let b = w.3 in omega arith

pub fill-overflow_add-slot-then-parts : goal.fill-overflow_add-slot-then-parts
fill-overflow_add-slot-then-parts t c = let w = class_within c.args.columns.now.nodes.items c.args.columns.now.parts.items c.args.node c.node-row.result c.node-row.ensures c.args.phase c.args.slots.now c.args.slot c.in-Class.parts c.in-Class.is c.requires in let a = w.2 in omega arith

pub fill-blank-requires : goal.fill-blank-requires
fill-blank-requires t c =
    let w = class_within c.args.columns.now.nodes.items c.args.columns.now.parts.items c.args.node c.node-row.result c.node-row.ensures c.args.phase c.args.slots.now c.args.slot c.in-Class.parts c.in-Class.is c.requires in
    let a = w.1 in
    let d = w.3 in
    let b = length-set c.args.slots.now c.args.slot (view.Active None) in
    (omega arith, omega arith)

pub fill-bounds-slots-slot-else-parts : goal.fill-bounds-slots-slot-else-parts
fill-bounds-slots-slot-else-parts t c = (class_within c.args.columns.now.nodes.items c.args.columns.now.parts.items c.args.node c.node-row.result c.node-row.ensures c.args.phase c.args.slots.now c.args.slot c.in-Class.parts c.in-Class.is c.requires).0

pub fill-fill_parts-requires : goal.fill-fill_parts-requires
fill-fill_parts-requires t c =
    let a = in_nodes c.args.columns.now.nodes.items c.args.columns.now.parts.items c.args.node c.node-row.result c.node-row.ensures in
    (omega arith, bases_room c.args.columns.now.nodes.items c.args.columns.now.parts.items c.args.node c.node-row.result c.node-row.ensures c.args.phase c.args.slots.now c.args.slot c.in-Class.parts c.in-Class.is c.if-parts.false (length (slice_set c.args.slots.now c.args.slot (view.Phase c.args.phase))) c.requires (length-set c.args.slots.now c.args.slot (view.Phase c.args.phase)))

pub fill-fill_parts-requires-else-parts : goal.fill-fill_parts-requires-else-parts
fill-fill_parts-requires-else-parts t c =
    let a = in_nodes c.args.columns.now.nodes.items c.args.columns.now.parts.items c.args.node c.node-row.result c.node-row.ensures in
    let l : length c.fill_parts.new.slots ≡ length c.args.slots.now = c.fill_parts.auto.slots ∙ length-set c.args.slots.now c.args.slot (view.Phase c.args.phase) in
    (omega arith, members_room c.args.columns.now.nodes.items c.args.columns.now.parts.items c.args.node c.node-row.result c.node-row.ensures c.args.phase c.args.slots.now c.args.slot c.in-Class.parts c.in-Class.is c.if-parts.false (length c.fill_parts.new.slots) c.requires l)

pub fill-returns-in-Scalar : goal.fill-returns-in-Scalar
fill-returns-in-Scalar t c = leaf_filled c.args.columns.now.nodes.items c.args.columns.now.parts.items c.args.node c.node-row.result c.node-row.ensures c.args.phase c.args.slots.now c.args.slot c.in-Scalar.is

pub fill-returns-in-Array : goal.fill-returns-in-Array
fill-returns-in-Array t c = row_filled c.args.columns.now.nodes.items c.args.columns.now.parts.items c.args.node c.node-row.result c.node-row.ensures c.args.phase c.args.slots.now c.args.slot c.in-Array.count c.fill_row.new.slots c.in-Array.is c.fill_row.ensures

pub fill-returns-then-parts : goal.fill-returns-then-parts
fill-returns-then-parts t c = union_filled c.args.columns.now.nodes.items c.args.columns.now.parts.items c.args.node c.node-row.result c.node-row.ensures c.args.phase c.args.slots.now c.args.slot c.in-Class.parts c.in-Class.is c.blank.new.slots c.if-parts.true c.blank.ensures

pub fill-returns-else-parts : goal.fill-returns-else-parts
fill-returns-else-parts t c = class_filled c.args.columns.now.nodes.items c.args.columns.now.parts.items c.args.node c.node-row.result c.node-row.ensures c.args.phase c.args.slots.now c.args.slot c.in-Class.parts c.in-Class.is c.if-parts.false c.fill_parts.new.slots c.fill_parts-else-parts.new.slots c.fill_parts.ensures c.fill_parts-else-parts.ensures

pub fill_parts-loop-i-init : goal.fill_parts-loop-i-init
fill_parts-loop-i-init t c path fs s n o listed laid all = parts_first c.args.columns.now.nodes.items c.args.columns.now.parts.items (slots_seen path c.args.slots.now) (c.args.slot + o)

pub fill_parts-listed-node-requires : goal.fill_parts-listed-node-requires
fill_parts-listed-node-requires t c =
    let r = part_room c.args.columns.now.nodes.items c.args.columns.now.parts.items (length c.args.slots.now) (length c.loop-i.slots) c.args.parent c.args.from c.args.count c.args.slot c.loop-i.i c.requires c.loop-i-test.true c.loop-i.auto.slots in
    get_within c.args.columns.now.parts.items (c.args.from + c.loop-i.i) r.node r.is_listed

pub fill_parts-node-row-requires : goal.fill_parts-node-row-requires
fill_parts-node-row-requires t c =
    let r = part_room c.args.columns.now.nodes.items c.args.columns.now.parts.items (length c.args.slots.now) (length c.loop-i.slots) c.args.parent c.args.from c.args.count c.args.slot c.loop-i.i c.requires c.loop-i-test.true c.loop-i.auto.slots in
    laid_of c.args.columns.now.nodes.items c.args.columns.now.parts.items (length c.loop-i.slots) c.args.parent c.args.from c.args.slot c.loop-i.i c.listed-node.result r c.listed-node.ensures

pub fill_parts-overflow_add-slot : goal.fill_parts-overflow_add-slot
fill_parts-overflow_add-slot t c =
    let r = room_of c.args.columns.now.nodes.items c.args.columns.now.parts.items (length c.loop-i.slots) c.args.parent c.args.from c.args.slot c.loop-i.i c.listed-node.result c.node-row.result (part_room c.args.columns.now.nodes.items c.args.columns.now.parts.items (length c.args.slots.now) (length c.loop-i.slots) c.args.parent c.args.from c.args.count c.args.slot c.loop-i.i c.requires c.loop-i-test.true c.loop-i.auto.slots) c.listed-node.ensures c.node-row.ensures in
    let f = r.1 in
    omega arith

pub fill_parts-fill-requires : goal.fill_parts-fill-requires
fill_parts-fill-requires t c =
    let r = room_of c.args.columns.now.nodes.items c.args.columns.now.parts.items (length c.loop-i.slots) c.args.parent c.args.from c.args.slot c.loop-i.i c.listed-node.result c.node-row.result (part_room c.args.columns.now.nodes.items c.args.columns.now.parts.items (length c.args.slots.now) (length c.loop-i.slots) c.args.parent c.args.from c.args.count c.args.slot c.loop-i.i c.requires c.loop-i-test.true c.loop-i.auto.slots) c.listed-node.ensures c.node-row.ensures in
    let f = r.0 in
    let g = c.requires.is_node in
    (omega arith, r.2)

pub fill_parts-loop-i-preserved : goal.fill_parts-loop-i-preserved
fill_parts-loop-i-preserved t c path = parts_next c.args.columns.now.nodes.items c.args.columns.now.parts.items path c.args.phase c.args.slots.now c.loop-i.slots c.fill.new.slots c.args.parent c.args.from c.args.count c.args.slot c.loop-i.i (c.loop-i.i + 1) c.listed-node.result c.node-row.result c.loop-i-test.true c.listed-node.ensures c.node-row.ensures refl (c.loop-i.invariant path) c.fill.ensures

pub fill_parts-returns : goal.fill_parts-returns
fill_parts-returns t c =
    let k : c.loop-i.i ≡ c.args.count = omega arith in
    parts_last c.args.columns.now.nodes.items c.args.columns.now.parts.items c.args.phase c.args.slots.now c.loop-i.slots c.args.parent c.args.from c.args.count c.args.slot c.loop-i.i k c.loop-i.invariant

pub fill_row-node-row-requires : goal.fill_row-node-row-requires
fill_row-node-row-requires t c = laid_there c.args.columns.now.nodes.items c.args.columns.now.parts.items c.args.node c.requires.form c.requires.laid

pub fill_row-loop-i-init : goal.fill_row-loop-i-init
fill_row-loop-i-init t c path f laid = row_first c.args.columns.now.nodes.items c.args.columns.now.parts.items path c.args.phase c.args.slots.now c.args.node c.args.slot f

pub fill_row-overflow_mul-i : goal.fill_row-overflow_mul-i
fill_row-overflow_mul-i t c =
    let w = row_room c.args.columns.now.nodes.items c.args.columns.now.parts.items (length c.args.slots.now) (length c.loop-i.slots) c.args.node c.args.count c.args.slot c.loop-i.i c.node-row.result c.requires c.node-row.ensures c.loop-i-test.true c.loop-i.auto.slots in
    let a = w.0 in
    omega arith

pub fill_row-overflow_add-slot : goal.fill_row-overflow_add-slot
fill_row-overflow_add-slot t c =
    let w = row_room c.args.columns.now.nodes.items c.args.columns.now.parts.items (length c.args.slots.now) (length c.loop-i.slots) c.args.node c.args.count c.args.slot c.loop-i.i c.node-row.result c.requires c.node-row.ensures c.loop-i-test.true c.loop-i.auto.slots in
    let a = w.0 in
    omega arith

pub fill_row-fill-requires : goal.fill_row-fill-requires
fill_row-fill-requires t c =
    let w = row_room c.args.columns.now.nodes.items c.args.columns.now.parts.items (length c.args.slots.now) (length c.loop-i.slots) c.args.node c.args.count c.args.slot c.loop-i.i c.node-row.result c.requires c.node-row.ensures c.loop-i-test.true c.loop-i.auto.slots in
    (omega arith, w.1)

pub fill_row-loop-i-preserved : goal.fill_row-loop-i-preserved
fill_row-loop-i-preserved t c path = row_next c.args.columns.now.nodes.items c.args.columns.now.parts.items path c.args.phase c.args.slots.now c.loop-i.slots c.fill.new.slots c.args.node c.args.slot c.loop-i.i (c.loop-i.i + 1) c.node-row.result c.node-row.ensures refl (c.loop-i.invariant path) c.fill.ensures

pub fill_row-returns : goal.fill_row-returns
fill_row-returns t c path f laid =
    let k : c.loop-i.i ≡ c.args.count = omega arith in
    c.loop-i.invariant path f laid ∙ ap (λ n. over (slots_seen path c.args.slots.now) c.args.slot (flat_each (flat f) (copies n (fresh c.args.phase f)))) k
