use Rattle.std.proofs.Common.{◌≡◌, ◌-◌}
use Rattle.cx_state.specs.Objects.{Path}
use Rattle.cx_layout.specs.declared.place.Place.{Place}
use Rattle.cx_slots.specs.Slots.{slots_seen}
use Rattle.cx_slots.specs.Flat.{blanks}
use Rattle.cx_slots.specs.Fresh.{over}
use Rattle.cx_slot_calls.proofs.fill.blank.Given as goal

abbrev pub invariant-loop-i : goal.invariant-loop-i
invariant-loop-i l = (path : Place → Path) → slots_seen path l.slots ≡ over (slots_seen path l.initial.slots) l.from (blanks (l.i - l.from))
