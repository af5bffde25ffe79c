use Rattle.std.proofs.Common.{◌≡◌, ◌-◌, arith, refl, ap, ◌∙◌}
use Rattle.cx_slots.specs.Slots.{slots_seen}
use Rattle.cx_slots.specs.Flat.{blanks}
use Rattle.cx_slots.specs.Fresh.{over}
use Rattle.cx_slot_calls.proofs.Filling.{blank_first, blank_next}
use Rattle.cx_slot_calls.proofs.fill.blank.Goals as goal

pub loop-i-init : goal.loop-i-init
loop-i-init c path = blank_first (slots_seen path c.args.slots.now) c.args.from

pub loop-i-preserved : goal.loop-i-preserved
loop-i-preserved c path = blank_next path c.args.slots.now c.loop-i.slots c.args.from c.loop-i.i _ c.loop-i.auto.i refl (c.loop-i.invariant path)

pub returns : goal.returns
returns c path =
    let k : c.loop-i.i ≡ c.args.to = omega arith in
    c.loop-i.invariant path ∙ ap (λ n. over (slots_seen path c.args.slots.now) c.args.from (blanks (n - c.args.from))) k
