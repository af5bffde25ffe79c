-- What an object holds, by the numbers of its parts: the tree that it is ([intro.object], [class.union]).
use Rattle.std.specs.Prelude.{ℕ, zero, suc, ◌+◌, ◌==◌, Bool, true, false, ◌&&◌, ◌||◌, List, [], ◌∷◌, Option, None, Some, option_map, unwrap_or, if◌then◌else◌}
use Rattle.cx_type_defs.specs.declared.ids.Step.{Step}
use Rattle.cx_type_defs.specs.declared.ids.Step.TheVariants as step
use Rattle.cx_state.specs.declared.kind.Phase.{Phase}
use Rattle.cx_state.specs.declared.kind.Scalar.{Scalar}
use Rattle.cx_state.specs.declared.kind.Scalar.TheVariants as scalar
use Rattle.cx_state.specs.Conditions.{is_dead_phase}
use Rattle.cx_state.specs.Objects as tree
use Rattle.cx_shapes.specs.Forms.{Form, Forms, Leaf, Row, Class, Union, End, More, size, sizes, Part, part_of}

-- what stands at a number: a scalar's value, a class's phase, and a union's active member; only one of them is looked at
pub record Cell : Type 0 where
  pub value : Scalar tree.Path
  pub phase : Phase
  pub member : Option ℕ

abbrev pub Cells : Type 0
Cells = ℕ → Cell

-- no value, no active member, and each class in one phase
abbrev pub fresh : Phase → Cell
fresh p = record { value = scalar.Indeterminate; phase = p; member = None }

abbrev pub active_tree : ℕ → Option tree.Tree → tree.Tree
active_tree m None = tree.Union
active_tree m (Some x) = tree.Active m x

abbrev pub union_tree : Option ℕ → tree.Trees → tree.Tree
union_tree None xs = tree.Union
union_tree (Some m) xs = active_tree m (tree.tree_at xs m)

-- so many trees, numbered by the size of one
abbrev pub row_trees : ℕ → (ℕ → tree.Tree) → ℕ → ℕ → tree.Trees
row_trees zero t k b = tree.End
row_trees (suc n) t k b = tree.More (t b) (row_trees n t k (b + k))

-- the tree of the part with that number
abbrev mutual
  pub tree_of : Form → Cells → ℕ → tree.Tree
  tree_of Leaf c b = tree.Leaf (c b).value
  tree_of (Row n f) c b = tree.Row (row_trees n (tree_of f c) (size f) (b + 1))
  tree_of (Class bs ms) c b = tree.Class (c b).phase (trees_of bs c (b + 1)) (trees_of ms c (b + suc (sizes bs)))
  tree_of (Union ms) c b = union_tree (c b).member (trees_of ms c (b + 1))

  pub trees_of : Forms → Cells → ℕ → tree.Trees
  trees_of End c b = tree.End
  trees_of (More f fs) c b = tree.More (tree_of f c b) (trees_of fs c (b + size f))

-- the part is there: of a union's members only the active one is
abbrev pub is_member : ℕ → Option ℕ → Bool
is_member i None = false
is_member i (Some m) = m == i

abbrev pub is_open : Form → Cell → Step → Bool
is_open (Union ms) c (step.Field i) = is_member i c.member
is_open f c s = true

abbrev pub opens : Form → Cells → ℕ → List Step → Bool
opens f c b [] = true
opens f c b (s ∷ ss) = is_open f (c b) s && unwrap_or (option_map (λ (p : Part). opens p.1 c (b + p.0) ss) (part_of f s)) false

-- a class on the way that isn't alive, as far as the way is open
abbrev pub is_dead_class : Form → Cell → Bool
is_dead_class (Class bs ms) c = is_dead_phase c.phase
is_dead_class f c = false

abbrev pub dies : Form → Cells → ℕ → List Step → Bool
dies f c b [] = false
dies f c b (s ∷ ss) = is_dead_class f (c b) || (is_open f (c b) s && unwrap_or (option_map (λ (p : Part). dies p.1 c (b + p.0) ss) (part_of f s)) false)

-- the cells with one changed
abbrev pub with_cell : ℕ → Cell → Cells → Cells
with_cell n x c k = if k == n then x else c k
