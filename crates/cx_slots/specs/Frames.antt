-- The slots of a part stand together, and those around them don't change with it.
use Rattle.std.specs.Prelude.{◌≡◌, ℕ, List, ◌++◌, length, Some}
use Rattle.cx_type_defs.specs.declared.ids.Step.{Step}
use Rattle.cx_state.specs.Objects.{Tree, changed}
use Rattle.cx_layout.specs.Forms.{Form, Part, below_of}
use Rattle.cx_slots.specs.Slots.{Slot}
use Rattle.cx_slots.specs.Flat.{Fits, flat}

-- A tree y of a form u has its slots from slot n on among those of the whole, with the same slots in front of them and
-- behind them whatever y is changed to.
pub record Frame (n : ℕ) (u : Form) (y : Tree) (whole : List Slot) (new : (Tree → Tree) → List Slot) (fit : (Tree → Tree) → Type 0) : Type 0 where
  pub front : List Slot
  pub back : List Slot
  pub from : length front ≡ n
  pub there : Fits u y
  pub as_was : whole ≡ front ++ (flat u y ++ back)
  pub as_new : (g : Tree → Tree) → new g ≡ front ++ (flat u (g y) ++ back)
  pub fits : (g : Tree → Tree) → Fits u (g y) → fit g

-- the part at the end of steps stands so
abbrev pub Framed : Form → Tree → List Step → Part → Tree → Type 0
Framed f x ss p y = Frame p.slot p.form y (flat f x) (λ g. flat f (changed g x ss)) (λ g. Fits f (changed g x ss))

abbrev pub PathFrame : Form → Tree → List Step → Tree → Type 0
PathFrame f x ss y = (p : Part) × (below_of f ss ≡ Some p) × Framed f x ss p y
