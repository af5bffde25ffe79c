-- New trees of a form, and slots written over others.
use Rattle.std.specs.Prelude.{ℕ, zero, suc, true, false, List, [], ◌∷◌}
use Rattle.cx_state.specs.declared.kind.Phase.{Phase}
use Rattle.cx_state.specs.Objects.{Tree, Trees, copies}
use Rattle.cx_state.specs.Objects as tree
use Rattle.cx_state.specs.Steps.{blank}
use Rattle.cx_layout.specs.Forms.{Form, Forms, Leaf, Row, Class, End, More}
use Rattle.cx_slots.specs.Slots.{Slot}
use Rattle.cx_slots.specs.Flat.{flat, flat_all}

-- its scalars are indeterminate, its classes in one phase, its unions without active member
abbrev mutual
  pub fresh : Phase → Form → Tree
  fresh p Leaf = blank
  fresh p (Row n f) = tree.Row (copies n (fresh p f))
  fresh p (Class c false bs ms) = tree.Class p (all_fresh p bs) (all_fresh p ms)
  fresh p (Class c true bs ms) = tree.Union

  pub all_fresh : Phase → Forms → Trees
  all_fresh p End = tree.End
  all_fresh p (More f fs) = tree.More (fresh p f) (all_fresh p fs)

abbrev pub new_slots : Phase → Form → List Slot
new_slots p f = flat f (fresh p f)

abbrev pub all_new : Phase → Forms → List Slot
all_new p fs = flat_all fs (all_fresh p fs)

-- the first of some forms
abbrev pub first : ℕ → Forms → Forms
first zero fs = End
first (suc n) End = End
first (suc n) (More f fs) = More f (first n fs)

-- one list written over another, from its head and from a place on; nothing grows
abbrev pub cover : {A : Type 0} → List A → List A → List A
cover l [] = l
cover [] (y ∷ m) = []
cover (x ∷ l) (y ∷ m) = y ∷ cover l m

abbrev pub over : {A : Type 0} → List A → ℕ → List A → List A
over l zero m = cover l m
over [] (suc a) m = []
over (x ∷ l) (suc a) m = x ∷ over l a m
