use Rattle.std.proofs.Common.{◌≤◌, ◌&&◌, true, refl, sym, ap, subst, ◌∙◌, arith}
use Rattle.cx_layout.specs.Described.{columns_form}
use Rattle.cx_layout.proofs.Walking.{in_there, in_parent, parent_before}
use Rattle.cx_slot_calls.specs.Walks.{slot_at}
use Rattle.cx_slot_places.specs.Walks.{stepped}
use Rattle.cx_slot_places.specs.Standings.{Stands, holds_fast, opens, stood}
use Rattle.cx_slot_places.proofs.Standing.{whole_stands, may_stand, part_row_there, above_header, part_header, stands_next}
use Rattle.cx_slot_places.proofs.seal.+stand_at.Goals as goal

pub node-part-requires : goal.node-part-requires
node-part-requires t c = in_there c.args.columns.now.nodes.items c.args.columns.now.parts.items (columns_form c.args.columns.now) c.args.node c.args.slot c.requires.place

pub returns-then-whole : goal.returns-then-whole
returns-then-whole t c =
    subst (λ b. Stands c.args.types.now c.args.whole (columns_form c.args.columns.now) c.args.slots.now c.args.node c.args.slot (record { start = 0; row = c.args.whole; there = true; sealed = b }))
    (ap (λ b. b && holds_fast c.node-part.result.kind (slot_at c.args.slots.now 0)) c.if-whole.true ∙ sym c.holds_fast-fast.ensures)
    (whole_stands c.args.columns.now.nodes.items c.args.columns.now.parts.items (columns_form c.args.columns.now) c.requires.place.described c.args.node c.args.slot c.if-node-eq0.true c.args.slots.now c.node-part.result c.node-part.ensures c.args.types.now c.args.whole)

pub returns-else-whole : goal.returns-else-whole
returns-else-whole t c =
    subst (λ b. Stands c.args.types.now c.args.whole (columns_form c.args.columns.now) c.args.slots.now c.args.node c.args.slot (record { start = 0; row = c.args.whole; there = true; sealed = b }))
    (ap (λ b. b && holds_fast c.node-part.result.kind (slot_at c.args.slots.now 0)) c.if-whole.false ∙ sym c.if-whole.false)
    (whole_stands c.args.columns.now.nodes.items c.args.columns.now.parts.items (columns_form c.args.columns.now) c.requires.place.described c.args.node c.args.slot c.if-node-eq0.true c.args.slots.now c.node-part.result c.node-part.ensures c.args.types.now c.args.whole)

pub stand_at-outer-requires : goal.stand_at-outer-requires
stand_at-outer-requires t c =
    let l : 1 ≤ c.args.node = omega arith in
    let b = parent_before c.args.columns.now.nodes.items c.args.columns.now.parts.items (columns_form c.args.columns.now) c.args.node c.args.slot c.requires.place l c.node-part.result c.node-part.ensures in
    (omega arith, (in_parent c.args.columns.now.nodes.items c.args.columns.now.parts.items (columns_form c.args.columns.now) c.args.node c.args.slot c.requires.place l c.node-part.result c.node-part.ensures, (c.requires.slots, c.requires.form)))

pub node-above-requires : goal.node-above-requires
node-above-requires t c =
    let l : 1 ≤ c.args.node = omega arith in
    in_there c.args.columns.now.nodes.items c.args.columns.now.parts.items (columns_form c.args.columns.now) c.node-part.result.under.parent c.args.slot
    (in_parent c.args.columns.now.nodes.items c.args.columns.now.parts.items (columns_form c.args.columns.now) c.args.node c.args.slot c.requires.place l c.node-part.result c.node-part.ensures)

pub step_on-next-requires : goal.step_on-next-requires
step_on-next-requires t c =
    let l : 1 ≤ c.args.node = omega arith in
    may_stand c.args.columns.now.nodes.items c.args.columns.now.parts.items (columns_form c.args.columns.now) c.args.node c.args.slot c.requires.place l c.node-part.result c.node-part.ensures c.node-above.result c.node-above.ensures c.args.types.now c.sound.ensures c.args.whole c.requires.form c.args.slots.now c.stand_at-outer.result c.stand_at-outer.ensures (stepped c.node-part.result c.stand_at-outer.result.start c.args.slot) refl

pub opens-is_open-requires : goal.opens-is_open-requires
opens-is_open-requires t c =
    let l : 1 ≤ c.args.node = omega arith in
    above_header c.args.columns.now.nodes.items c.args.columns.now.parts.items (columns_form c.args.columns.now) c.args.node c.args.slot c.requires.place l c.node-part.result c.node-part.ensures c.node-above.result c.node-above.ensures c.args.types.now c.sound.ensures c.args.whole c.requires.form c.args.slots.now c.stand_at-outer.result c.stand_at-outer.ensures c.step_on-next.result c.step_on-next.ensures c.requires.slots

pub part_row-row-requires : goal.part_row-row-requires
part_row-row-requires t c =
    let l : 1 ≤ c.args.node = omega arith in
    part_row_there c.args.columns.now.nodes.items c.args.columns.now.parts.items (columns_form c.args.columns.now) c.args.node c.args.slot c.requires.place l c.node-part.result c.node-part.ensures c.node-above.result c.node-above.ensures c.args.types.now c.sound.ensures c.args.whole c.requires.form c.args.slots.now c.stand_at-outer.result c.stand_at-outer.ensures c.step_on-next.result c.step_on-next.ensures

pub holds_fast-fast-requires-2 : goal.holds_fast-fast-requires-2
holds_fast-fast-requires-2 t c =
    let l : 1 ≤ c.args.node = omega arith in
    part_header c.args.columns.now.nodes.items c.args.columns.now.parts.items (columns_form c.args.columns.now) c.args.node c.args.slot c.requires.place l c.node-part.result c.node-part.ensures c.node-above.result c.node-above.ensures c.args.types.now c.sound.ensures c.args.whole c.requires.form c.args.slots.now c.stand_at-outer.result c.stand_at-outer.ensures c.step_on-next.result c.step_on-next.ensures c.requires.slots

pub returns : goal.returns
returns t c =
    let l : 1 ≤ c.args.node = omega arith in
    subst (Stands c.args.types.now c.args.whole (columns_form c.args.columns.now) c.args.slots.now c.args.node c.args.slot)
    (sym (c.stood.ensures ∙ ap (λ b. stood c.stand_at-outer.result c.step_on-next.result.start c.part_row-row.result b c.holds_fast-fast-2.result) c.opens-is_open.ensures
    ∙ ap (stood c.stand_at-outer.result c.step_on-next.result.start c.part_row-row.result (opens c.node-above.result.kind (slot_at c.args.slots.now c.stand_at-outer.result.start) c.step_on-next.result.step)) c.holds_fast-fast-2.ensures))
    (stands_next c.args.columns.now.nodes.items c.args.columns.now.parts.items (columns_form c.args.columns.now) c.args.node c.args.slot c.requires.place l c.node-part.result c.node-part.ensures c.node-above.result c.node-above.ensures c.args.types.now c.sound.ensures c.args.whole c.requires.form c.args.slots.now c.stand_at-outer.result c.stand_at-outer.ensures c.step_on-next.result c.step_on-next.ensures c.part_row-row.result c.part_row-row.ensures)
