-- Cells in parts, the steps to them, and what encloses them. No contract of a public call cites this.
use Rattle.std.specs.Prelude.{◌≡◌, ℕ, ◌+◌, ◌<◌, ◌≤◌, ◌==◌, nat_lt, Bool, true, false, ◌&&◌, List, ◌++◌, Option, Some, option_and_then}
use Rattle.cx_type_defs.specs.declared.ids.Step.{Step}
use Rattle.cx_type_defs.specs.declared.ids.Step.TheVariants as step
use Rattle.cx_type_defs.specs.declared.ids.ClassId.{ClassId}
use Rattle.cx_layout.specs.declared.columns.Kind.{Kind}
use Rattle.cx_layout.specs.declared.columns.Kind.TheVariants as kind
use Rattle.cx_layout.specs.declared.columns.Node.{Node}
use Rattle.cx_layout.specs.declared.place.Place.{Place}
use Rattle.cx_layout.specs.Forms.{Form, Part, cells, below_of}
use Rattle.cx_layout.specs.Places.{Leads, nearest, place_of}
use Rattle.cx_layout.specs.Described.{Described}

-- a cell lies in the part of a node
pub record IsIn (ns : List Node) (ks : List ℕ) (f : Form) (node slot : ℕ) : Type 0 where
  pub described : Described ns ks f
  pub steps : List Step
  pub part : Part
  pub leads : below_of f steps ≡ Some part
  pub node_is : part.node ≡ node
  pub from : part.slot ≤ slot
  pub before : 1 ≤ node → slot < part.slot + cells part.form

-- the steps to that part were written, and this is its first cell
abbrev pub Walks : Form → ℕ → ℕ → ℕ → List Step → List Step → Type 0
Walks f node slot start old new = (ss : List Step) (p : Part) → below_of f ss ≡ Some p → p.node ≡ node → p.slot ≤ slot → (1 ≤ node → slot < p.slot + cells p.form) → (start ≡ p.slot) × (new ≡ old ++ ss)

-- a node of that class
abbrev pub kind_is : ClassId → Kind → Bool
kind_is c (kind.Class p) = p.class.0 == c.0
kind_is c k = false

-- a step to an element
abbrev pub is_element : Step → Bool
is_element (step.Elem i) = true
is_element s = false

-- a place past the last element of an array, at the node of the elements
abbrev pub is_past_elements : Node → Place → Bool
is_past_elements row at = (at.past && nat_lt 0 at.node) && is_element row.under.step

-- how many elements
abbrev pub count_of : Kind → ℕ
count_of (kind.Array n) = n
count_of k = 0

-- the place of the nearest object of the class that encloses it through bases
abbrev pub Encloses : Form → Place → ClassId → Option Place → Type 0
Encloses f at c o = (ss : List Step) → Leads f ss at → o ≡ option_and_then (place_of f at.block) (nearest f c ss)
