-- What slots hold, with each place seen as its path.
use Rattle.std.specs.Prelude.{ℕ, List, map, Option}
use Rattle.cx_state.specs.declared.kind.Phase.{Phase}
use Rattle.cx_state.specs.declared.kind.Scalar.{Scalar}
use Rattle.cx_state.specs.Objects.{Path}
use Rattle.cx_store.specs.Stores.{seen}
use Rattle.cx_layout.specs.declared.place.Place.{Place}
use Rattle.cx_slots.specs.declared.slot.SlotView.{SlotView}
use Rattle.cx_slots.specs.declared.slot.SlotView.TheVariants as view

-- the value of a scalar or reference, the phase of a class, or the active member of a union
pub data Slot : Type 0 where
  Value : Scalar Path → Slot
  Header : Phase → Slot
  Active : Option ℕ → Slot

abbrev pub slot_seen : (Place → Path) → SlotView → Slot
slot_seen path (view.Value v) = Value (seen path v)
slot_seen path (view.Phase p) = Header p
slot_seen path (view.Active m) = Active m

abbrev pub slots_seen : (Place → Path) → List SlotView → List Slot
slots_seen path l = map (slot_seen path) l
