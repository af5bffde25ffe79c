use Rattle.std.proofs.Common.{◌≡◌, drop, length, ap, sym, subst, List, arith}
use Rattle.cx_state.specs.declared.kind.Phase.TheVariants as phase
use Rattle.cx_slots.specs.declared.slot.SlotView.{SlotView}
use Rattle.cx_slots.specs.Fresh.{fresh}
use Rattle.cx_layout.specs.Described.{columns_form}
use Rattle.cx_slot_calls.specs.Rules.{Show}
use Rattle.cx_blocks.proofs.Lists.{take_front}
use Rattle.cx_blocks.proofs.make.new_slots.Goals as goal

pub returns-in-Ok : goal.returns-in-Ok
returns-in-Ok c = λ e path.
    let a = c.renew.auto.slots in
    let v = ap length c.as_mut_slice.ensures.value in
    let same : c.in-Ok.slots.len ≡ length c.renew.new.slots = omega arith in
    let f = columns_form c.args.columns.now in
    subst (λ (l : List SlotView). Show path l f (fresh phase.Unborn f)) (sym (take_front c.renew.new.slots (drop (length c.renew.new.slots) c.in-Ok.slots.items) c.in-Ok.slots.len same)) (c.renew.ensures path)
