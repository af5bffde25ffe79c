-- That new trees are written. No contract of a public call but `renew` and the calls on unions cites this.
use Rattle.std.specs.Prelude.{◌≡◌, ℕ, ◌+◌, ◌*◌, ◌^◌, ◌<◌, ◌≤◌, false, List, length}
use Rattle.cx_type_defs.specs.declared.ids.Step.{Step}
use Rattle.cx_state.specs.declared.kind.Phase.{Phase}
use Rattle.cx_state.specs.Objects.{Path, copies}
use Rattle.cx_layout.specs.declared.columns.Node.{Node}
use Rattle.cx_layout.specs.declared.place.Place.{Place}
use Rattle.cx_layout.specs.Forms.{Form, Forms, count, cells, cells_in}
use Rattle.cx_layout.specs.Laid.{Listed, Laid, PartsLaid}
use Rattle.cx_slots.specs.declared.slot.SlotView.{SlotView}
use Rattle.cx_slots.specs.Slots.{slots_seen}
use Rattle.cx_slots.specs.Flat.{blanks, flat, flat_each}
use Rattle.cx_slots.specs.Fresh.{fresh, new_slots, all_new, over}

-- among so many slots there are those of a tree of the node's form
pub record Room (ns : List Node) (ks : List ℕ) (many node slot : ℕ) : Type 0 where
  pub form : Form
  pub laid : Laid ns ks node form
  pub within : slot + cells form ≤ many
  pub small : many < 2 ^ 32
  pub few : length ns < 2 ^ 32

-- and those of so many elements, or of the bases or the members that are listed
pub record RowRoom (ns : List Node) (ks : List ℕ) (many node times slot : ℕ) : Type 0 where
  pub form : Form
  pub laid : Laid ns ks node form
  pub within : slot + times * cells form ≤ many
  pub small : many < 2 ^ 32
  pub few : length ns < 2 ^ 32

pub record PartsRoom (ns : List Node) (ks : List ℕ) (many parent from times slot : ℕ) : Type 0 where
  pub forms : Forms
  pub step : ℕ → Step
  pub node : ℕ
  pub offset : ℕ
  pub listed : Listed ks from node forms
  pub laid : PartsLaid ns ks parent step false 0 node offset forms
  pub all : count forms ≡ times
  pub later : parent < node
  pub is_node : parent < length ns
  pub within : slot + offset + cells_in false forms ≤ many
  pub small : many < 2 ^ 32
  pub few : length ns < 2 ^ 32

abbrev pub Blanked : ℕ → ℕ → List SlotView → List SlotView → Type 0
Blanked from times old new = (path : Place → Path) → slots_seen path new ≡ over (slots_seen path old) from (blanks times)

abbrev pub Filled : List Node → List ℕ → Phase → ℕ → ℕ → List SlotView → List SlotView → Type 0
Filled ns ks p node slot old new = (path : Place → Path) (f : Form) → Laid ns ks node f → slots_seen path new ≡ over (slots_seen path old) slot (new_slots p f)

abbrev pub RowFilled : List Node → List ℕ → Phase → ℕ → ℕ → ℕ → List SlotView → List SlotView → Type 0
RowFilled ns ks p node times slot old new = (path : Place → Path) (f : Form) → Laid ns ks node f → slots_seen path new ≡ over (slots_seen path old) slot (flat_each (flat f) (copies times (fresh p f)))

abbrev pub PartsFilled : List Node → List ℕ → Phase → ℕ → ℕ → ℕ → ℕ → List SlotView → List SlotView → Type 0
PartsFilled ns ks p parent from times slot old new =
    (path : Place → Path) (fs : Forms) (s : ℕ → Step) (n o : ℕ) → Listed ks from n fs → PartsLaid ns ks parent s false 0 n o fs → count fs ≡ times → slots_seen path new ≡ over (slots_seen path old) (slot + o) (all_new p fs)
