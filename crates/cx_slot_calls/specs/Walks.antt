-- What a walk to a part finds. No contract of a public call but `find_part` cites this.
use Rattle.std.specs.Prelude.{◌≡◌, ℕ, suc, ◌+◌, ◌*◌, ◌-◌, ◌/◌, ◌^◌, ◌<◌, ◌≤◌, ◌==◌, Bool, true, false, ◌&&◌, ◌||◌, not, List, length, Some, Result, Ok, Err, is_some, get_or}
use Rattle.cx_base.specs.declared.rule.Rule.{Rule}
use Rattle.cx_base.specs.declared.rule.Rule.TheVariants as rule
use Rattle.cx_type_defs.specs.declared.ids.Step.{Step}
use Rattle.cx_type_defs.specs.declared.ids.Step.TheVariants as step
use Rattle.cx_state.specs.declared.kind.Phase.{Phase}
use Rattle.cx_state.specs.declared.kind.Phase.TheVariants as phase
use Rattle.cx_state.specs.declared.kind.Scalar.{Scalar}
use Rattle.cx_state.specs.declared.kind.Scalar.TheVariants as scalar
use Rattle.cx_state.specs.Objects.{Path, Tree, below}
use Rattle.cx_state.specs.Conditions.{is_dead_phase, phase_number}
use Rattle.cx_layout.specs.declared.columns.Kind.{Kind}
use Rattle.cx_layout.specs.declared.columns.Kind.TheVariants as kind
use Rattle.cx_layout.specs.declared.columns.Node.{Node}
use Rattle.cx_layout.specs.declared.place.Place.{Place}
use Rattle.cx_layout.specs.Forms.{Form, Part, cells, below_of}
use Rattle.cx_slots.specs.declared.slot.SlotView.{SlotView}
use Rattle.cx_slots.specs.declared.slot.SlotView.TheVariants as view
use Rattle.cx_slot_calls.specs.declared.way.Found.{Found}
use Rattle.cx_slot_calls.specs.Rules.{Show, dead_on}

abbrev pub slot_at : List SlotView → ℕ → SlotView
slot_at l n = get_or l n (view.Value scalar.Indeterminate)

abbrev pub shows : SlotView → Step → Bool
shows (view.Active (Some m)) (step.Field i) = m == i
shows _ _ = false

abbrev pub lets : Bool → SlotView → Step → Bool
lets is_union v s = not is_union || shows v s

abbrev pub shows_dead : SlotView → Bool
shows_dead (view.Phase p) = is_dead_phase p
shows_dead _ = false

abbrev pub stepped_by : Kind → List SlotView → Node → Found → ℕ → Found
stepped_by kind.Scalar l row w n = w
stepped_by (kind.Array _) l row w n = record { start = w.start + (n - w.start) / row.cells * row.cells; there = w.there; dead = w.dead }
stepped_by (kind.Class c) l row w n = record { start = w.start + row.under.offset; there = w.there && lets c.is_union (slot_at l w.start) row.under.step; dead = w.dead || shows_dead (slot_at l w.start) }

abbrev pub stepped : List SlotView → Node → Node → Found → ℕ → Found
stepped l above row w n = stepped_by above.kind l row w n

-- that step can be taken
abbrev pub CanStepBy : Kind → List SlotView → Node → Found → ℕ → Type 0
CanStepBy kind.Scalar l row w n = Unit {0}
CanStepBy (kind.Array _) l row w n = (w.start ≤ n) × (1 ≤ row.cells)
CanStepBy (kind.Class _) l row w n = (w.start + row.under.offset < 2 ^ 32) × (w.start < length l)

abbrev pub CanStep : List SlotView → Node → Node → Found → ℕ → Type 0
CanStep l above row w n = CanStepBy above.kind l row w n

-- what is found of a tree: whether the part is there, and then whether a class on the way is dead
pub record Finds (x : Tree) (ss : List Step) (w : Found) : Type 0 where
  pub there : w.there ≡ is_some (below x ss)
  pub dead : w.there ≡ true → w.dead ≡ dead_on x ss

-- the part's first slot is found, and what is so of the tree that the slots show
abbrev pub Walked : Form → List SlotView → ℕ → ℕ → Found → Type 0
Walked f l node n w = (ss : List Step) (p : Part) → below_of f ss ≡ Some p → p.node ≡ node → p.slot ≤ n → (1 ≤ node → n < p.slot + cells p.form)
    → (w.start ≡ p.slot) × ((path : Place → Path) (x : Tree) → Show path l f x → Finds x ss w)

abbrev pub value_of : SlotView → Result (Scalar Place) Rule
value_of (view.Value scalar.Indeterminate) = Err rule.Indeterminate
value_of (view.Value v) = Ok v
value_of _ = Err rule.Indeterminate

abbrev pub shows_member : SlotView → ℕ → Bool
shows_member (view.Active (Some k)) m = k == m
shows_member _ m = false

abbrev pub is_class_kind : Kind → Bool
is_class_kind (kind.Class _) = true
is_class_kind _ = false

abbrev pub is_ended_phase : Phase → Bool
is_ended_phase phase.Ended = true
is_ended_phase _ = false

abbrev pub shows_ended : SlotView → Bool
shows_ended (view.Phase p) = is_ended_phase p
shows_ended _ = false

-- a union with these first slots, its own and its member's, keeps the member when that is activated
abbrev pub keeps : SlotView → ℕ → Kind → SlotView → Bool
keeps header m k first = shows_member header m && not (is_class_kind k && shows_ended first)

-- a class with this header is in the phase just before that one
abbrev pub shows_before : Phase → SlotView → Bool
shows_before to (view.Phase p) = suc (phase_number p) == phase_number to
shows_before to _ = false
