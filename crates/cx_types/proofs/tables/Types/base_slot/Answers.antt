use Rattle.std.proofs.Common.{◌≡◌, Some, sym, subst, map, sum, ◌<◌, List, arith}
use Rattle.cx_type_defs.specs.declared.ids.ClassId.{ClassId}
use Rattle.cx_type_defs.specs.Slots.{slot_count}
use Rattle.cx_types.proofs.Slots.{bases-within, within-class}
use Rattle.cx_types.proofs.tables.Types.base_slot.Goals as goal

pub slot_among-requires : goal.slot_among-requires
slot_among-requires c =
    let stands : c.slotted.result.now.body ≡ Some c.in_ok-body.body.now = sym c.in_ok-body.ensures.value in
    let w = bases-within c.args.self.now c.slotted.result.now.body c.in_ok-body.body.now c.slotted.ensures.fits stands in
    let few = w.0 in
    let less = w.1 in
    subst (λ (l : List ClassId). sum (map (slot_count c.args.self.now) l) < 4294967296) (sym c.as_slice.ensures) (omega arith)

pub returns-clause-below : goal.returns-clause-below
returns-clause-below c =
    let stands : c.slotted.result.now.body ≡ Some c.in_ok-body.body.now = sym c.in_ok-body.ensures.value in
    within-class c.args.self.now c.args.class c.slotted.result.now c.in_ok-body.body.now c.as_slice.result.now c.args.base c.args.slot c.slot_among.result c.slotted.ensures.stands c.slotted.ensures.fits stands c.as_slice.ensures c.slot_among.ensures
