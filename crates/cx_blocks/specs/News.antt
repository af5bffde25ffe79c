-- What a new tree shows at a cell, read off columns. No contract of a public call cites this.
use Rattle.std.specs.Prelude.{◌≡◌, ℕ, zero, suc, ◌-◌, ◌≤◌, false, List, Option, None, slice_get, option_map}
use Rattle.cx_type_defs.specs.declared.ids.Step.{Step}
use Rattle.cx_state.specs.declared.kind.Phase.{Phase}
use Rattle.cx_state.specs.declared.kind.Scalar.TheVariants as scalar
use Rattle.cx_state.specs.Objects.{Path}
use Rattle.cx_layout.specs.declared.columns.Node.{Node}
use Rattle.cx_layout.specs.declared.place.Place.{Place}
use Rattle.cx_layout.specs.Forms.{Form, Forms, count}
use Rattle.cx_layout.specs.Laid.{Listed, Laid, PartsLaid}
use Rattle.cx_slots.specs.declared.slot.SlotView.{SlotView}
use Rattle.cx_slots.specs.declared.slot.SlotView.TheVariants as view
use Rattle.cx_slots.specs.Slots.{Slot, slot_seen}
use Rattle.cx_slots.specs.Fresh.{new_slots, all_new}
use Rattle.cx_slot_calls.specs.Fills.{Room, PartsRoom}

-- the slot that is shown, however places are seen
abbrev pub Shows : Option SlotView → Option Slot → Type 0
Shows o s = (path : Place → Path) → option_map (slot_seen path) o ≡ s

-- a node, and the bases or members of one from a cell that isn't behind `i` on, that have few enough cells
abbrev pub IsNew : List Node → List ℕ → ℕ → Type 0
IsNew ns ks node = Room ns ks 1073741824 node 0

abbrev pub AreNew : List Node → List ℕ → ℕ → ℕ → ℕ → ℕ → Type 0
AreNew ns ks parent from times i = (h : PartsRoom ns ks 1073741824 parent from times 0) × (h.offset ≤ i)

-- what they show
abbrev pub NewAt : List Node → List ℕ → Phase → ℕ → ℕ → Option SlotView → Type 0
NewAt ns ks p node i o = (f : Form) → Laid ns ks node f → Shows o (slice_get (new_slots p f) i)

abbrev pub PartsNewAt : List Node → List ℕ → Phase → ℕ → ℕ → ℕ → ℕ → Option SlotView → Type 0
PartsNewAt ns ks p parent from times i r = (fs : Forms) (s : ℕ → Step) (n o : ℕ) → Listed ks from n fs → PartsLaid ns ks parent s false 0 n o fs → count fs ≡ times → o ≤ i → Shows r (slice_get (all_new p fs) (i - o))

-- a union without active member
abbrev pub union_at : ℕ → SlotView
union_at zero = view.Active None
union_at (suc i) = view.Value scalar.Indeterminate
