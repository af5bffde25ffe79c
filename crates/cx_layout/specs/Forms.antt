-- The forms of objects: how many nodes and cells they have, and at which node and cell each part stands ([intro.object],
-- [class.mem], [class.union]).
use Rattle.std.specs.Prelude.{ℕ, zero, suc, ◌+◌, ◌*◌, ◌≤◌, nat_lt, max, Bool, false, List, [], ◌∷◌, Option, None, Some, option_map, option_and_then, if◌then◌else◌}
use Rattle.cx_type_defs.specs.declared.ids.Step.{Step}
use Rattle.cx_type_defs.specs.declared.ids.Step.TheVariants as step
use Rattle.cx_type_defs.specs.declared.ids.ClassId.{ClassId}

-- A scalar or reference, so many elements, or a class with its bases and its members. The mark says that it is a union,
-- whose members share their cells.
mutual
  pub data Form : Type 0 where
    Leaf : Form
    Row : ℕ → Form → Form
    Class : ClassId → Bool → Forms → Forms → Form

  pub data Forms : Type 0 where
    End : Forms
    More : Form → Forms → Forms

abbrev pub count : Forms → ℕ
count End = 0
count (More f fs) = suc (count fs)

-- How many nodes there are in it, counted in pre-order: itself, then those of its bases, then those of its members. An
-- array has one part for all its elements.
abbrev mutual
  pub nodes : Form → ℕ
  nodes Leaf = 1
  nodes (Row n f) = suc (nodes f)
  nodes (Class c u bs ms) = suc (nodes_in bs + nodes_in ms)

  pub nodes_in : Forms → ℕ
  nodes_in End = 0
  nodes_in (More f fs) = nodes f + nodes_in fs

-- parts that share their cells have together those of the widest, others the sum
abbrev pub together : Bool → ℕ → ℕ → ℕ
together shared a b = if shared then max a b else a + b

-- How many cells: a scalar has one, an array those of its elements; a class has a header, and then its bases and its
-- members.
abbrev mutual
  pub cells : Form → ℕ
  cells Leaf = 1
  cells (Row n f) = n * cells f
  cells (Class c u bs ms) = suc (cells_in false bs + cells_in u ms)

  pub cells_in : Bool → Forms → ℕ
  cells_in u End = 0
  cells_in u (More f fs) = together u (cells f) (cells_in u fs)

-- a part: its node and its first cell, counted from those of the whole, and its form
pub record Part : Type 0 where
  pub node : ℕ
  pub slot : ℕ
  pub form : Form

abbrev pub further : ℕ → ℕ → Part → Part
further n s p = record { node = n + p.node; slot = s + p.slot; form = p.form }

abbrev pub whole : Form → Part
whole f = record { node = 0; slot = 0; form = f }

-- how far behind a part the next one begins
abbrev pub stride : Bool → Form → ℕ
stride shared f = if shared then 0 else cells f

-- an item of a list of parts
abbrev pub item : Bool → Forms → ℕ → Option Part
item u End i = None
item u (More f fs) zero = Some (whole f)
item u (More f fs) (suc i) = option_map (further (nodes f) (stride u f)) (item u fs i)

-- the part that a step leads to; each member of a union is one
abbrev pub part_of : Form → Step → Option Part
part_of (Row n f) (step.Elem i) = if nat_lt i n then Some (record { node = 1; slot = i * cells f; form = f }) else None
part_of (Class c u bs ms) (step.Base i) = option_map (further 1 1) (item false bs i)
part_of (Class c u bs ms) (step.Field i) = option_map (further (suc (nodes_in bs)) (suc (cells_in false bs))) (item u ms i)
part_of _ _ = None

-- the part at the end of steps
abbrev pub below_of : Form → List Step → Option Part
below_of f [] = Some (whole f)
below_of f (s ∷ ss) = option_and_then (λ (p : Part). option_map (further p.node p.slot) (below_of p.form ss)) (part_of f s)

-- no array in it is empty
abbrev mutual
  pub Full : Form → Type 0
  Full Leaf = Unit {0}
  Full (Row n f) = (1 ≤ n) × Full f
  Full (Class c u bs ms) = AllFull bs × AllFull ms

  pub AllFull : Forms → Type 0
  AllFull End = Unit {0}
  AllFull (More f fs) = Full f × AllFull fs

-- nor in any part of it; the whole itself may be an array of no elements ([expr.new])
abbrev pub PartsFull : Form → Type 0
PartsFull (Row n f) = Full f
PartsFull f = Full f
