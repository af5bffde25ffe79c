-- What slots show of parts. No contract of a public call cites this.
use Rattle.std.specs.Prelude.{◌≡◌, ℕ, ◌-◌, ◌==◌, Bool, true, false, ◌&&◌, ◌||◌, List, Option, None, Some, Result, Ok, Err, is_some, if◌then◌else◌}
use Rattle.std.specs.List.{find}
use Rattle.cx_base.specs.declared.rule.Rule.{Rule}
use Rattle.cx_base.specs.declared.rule.Rule.TheVariants as rule
use Rattle.cx_type_defs.specs.declared.ids.Step.{Step}
use Rattle.cx_type_defs.specs.declared.ids.Step.TheVariants as step
use Rattle.cx_type_defs.specs.declared.ids.ClassId.{ClassId}
use Rattle.cx_type_defs.specs.declared.kind.TypeRow.{TypeRow}
use Rattle.cx_type_defs.specs.Tables.{Tables}
use Rattle.cx_state.specs.declared.kind.Phase.TheVariants as phase
use Rattle.cx_state.specs.declared.kind.Scalar.TheVariants as scalar
use Rattle.cx_state.specs.Objects.{Path, Tree, below}
use Rattle.cx_state.specs.Places.{row_below}
use Rattle.cx_state.specs.Conditions.{is_deciding_phase, enclosing, sealed}
use Rattle.cx_layout.specs.declared.columns.Kind.{Kind}
use Rattle.cx_layout.specs.declared.columns.Kind.TheVariants as kind
use Rattle.cx_layout.specs.declared.columns.Node.{Node}
use Rattle.cx_layout.specs.declared.place.Place.{Place}
use Rattle.cx_layout.specs.Forms.{Form, Forms, Class, Part}
use Rattle.cx_layout.specs.Places.{Leads, class_at}
use Rattle.cx_slots.specs.declared.slot.SlotView.{SlotView}
use Rattle.cx_slots.specs.declared.slot.SlotView.TheVariants as view
use Rattle.cx_slot_calls.specs.Rules.{IsAt, Show}
use Rattle.cx_slot_calls.specs.Walks.{lets}
use Rattle.cx_slot_places.specs.Lives.{decides}
use Rattle.cx_slot_places.specs.Walks.{Within}
use Rattle.cx_slot_places.specs.declared.seal.Standing.{Standing}
use Rattle.cx_slot_places.specs.declared.life.Decider.{Decider}

-- what slots show of a part

abbrev pub opens : Kind → SlotView → Step → Bool
opens (kind.Class c) v s = lets c.is_union v s
opens k v s = true

abbrev pub has_header : Kind → Bool
has_header (kind.Array n) = false
has_header k = true

-- a class that is alive, or a scalar with a value
abbrev pub fast_phase : SlotView → Bool
fast_phase (view.Phase phase.Alive) = true
fast_phase v = false

abbrev pub fast_value : SlotView → Bool
fast_value (view.Value scalar.Indeterminate) = false
fast_value (view.Value v) = true
fast_value v = false

abbrev pub holds_fast : Kind → SlotView → Bool
holds_fast kind.Scalar v = fast_value v
holds_fast (kind.Array n) v = false
holds_fast (kind.Class c) v = fast_phase v

-- one step on from there
abbrev pub stood : Standing → ℕ → TypeRow → Bool → Bool → Standing
stood outer start row is_open fast = record { start = start; row = row; there = outer.there && is_open; sealed = outer.sealed || (outer.there && is_open) && row.konst && fast }

-- a part's first slot and type, whether it is there, and whether it or a part on the way to it is sealed
pub record IsStanding (t : Tables) (r : TypeRow) (x : Tree) (ss : List Step) (w : Standing) : Type 0 where
  pub there : w.there ≡ is_some (below x ss)
  pub sealed_is : w.sealed ≡ sealed t r x ss

abbrev pub Stands : Tables → TypeRow → Form → List SlotView → ℕ → ℕ → Standing → Type 0
Stands t r f l node slot w = (ss : List Step) (p : Part) → Within f node slot ss p
    → (w.start ≡ p.slot) × (row_below t r ss ≡ Some w.row) × ((path : Place → Path) (x : Tree) → Show path l f x → IsStanding t r x ss w)

abbrev pub shows_active : SlotView → Option ℕ
shows_active (view.Active m) = m
shows_active v = None

-- the place is that of a class, which may be a union
pub record IsClassPlace (f : Form) (at : Place) : Type 0 where
  pub steps : List Step
  pub class : ClassId
  pub in_union : Bool
  pub bases : Forms
  pub members : Forms
  pub is_at : IsAt f steps at (Class class in_union bases members)

-- the object that it is a base of

abbrev pub base_under : Step → Node → Place → Option Place
base_under (step.Base i) row at = Some (record { block = at.block; slot = at.slot - row.under.offset; node = row.under.parent; past = false })
base_under s row at = None

abbrev pub derived : Node → Place → Option Place
derived row at = if at.node == 0 then None else base_under row.under.step row at

-- the class that decides

abbrev pub shows_deciding : SlotView → Bool
shows_deciding (view.Phase p) = is_deciding_phase p
shows_deciding v = false

abbrev pub IsDecider : Form → ℕ → Option (List Step) → Option Decider → Type 0
IsDecider f block None None = Unit {0}
IsDecider f block (Some us) (Some d) = (class_at f us ≡ Some d.class) × Leads f us d.place × (d.place.past ≡ false) × (d.place.block ≡ block)
IsDecider f block us d = ⊥

-- what the slots show, where they are asked
abbrev pub Seen : Bool → List SlotView → Form → Tree → List Step → Type 0
Seen opaque l f x ss = opaque ≡ false → (path : Place → Path) × Show path l f x × (is_some (below x ss) ≡ true)

abbrev pub DecidesAt : Form → Bool → List SlotView → Place → Option Decider → Type 0
DecidesAt f opaque l at d = (x : Tree) (ss : List Step) → Leads f ss at → Seen opaque l f x ss → IsDecider f at.block (find (decides opaque x) (enclosing ss)) d

abbrev pub deciding_here : Kind → Bool → SlotView → Place → Option Decider
deciding_here (kind.Class c) opaque v at = if opaque || shows_deciding v then Some (record { class = c.class; place = at }) else None
deciding_here k opaque v at = None

abbrev pub decided : Option Decider → Result (ClassId × Place) Rule
decided None = Err rule.OutOfLifetime
decided (Some d) = Ok (d.class, d.place)
