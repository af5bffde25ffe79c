-- One step in the columns. No contract of a public call cites this.
use Rattle.std.specs.Prelude.{◌≡◌, ℕ, ◌+◌, ◌*◌, ◌^◌, ◌<◌, ◌==◌, nat_lt, nat_le, Bool, false, List, [], ◌∷◌, ◌++◌, Some, slice_get}
use Rattle.cx_type_defs.specs.declared.ids.Step.{Step}
use Rattle.cx_type_defs.specs.declared.ids.Step.TheVariants as step
use Rattle.cx_layout.specs.declared.columns.Kind.{Kind}
use Rattle.cx_layout.specs.declared.columns.Kind.TheVariants as kind
use Rattle.cx_layout.specs.declared.columns.Node.{Node}
use Rattle.cx_layout.specs.declared.place.Place.{Place}
use Rattle.cx_layout.specs.Forms.{Form}
use Rattle.cx_layout.specs.Places.{Leads, place_of}

-- a part is listed there, and its cell is small enough for the numbers of the code
pub record PartRoom (ns : List Node) (ks : List ℕ) (at : Place) (from index : ℕ) : Type 0 where
  pub node : ℕ
  pub is_listed : slice_get ks (from + index) ≡ Some node
  pub row : Node
  pub is_row : slice_get ns node ≡ Some row
  pub few_cells : at.slot + row.under.offset < 2 ^ 32

abbrev pub IsPartAt : List Node → List ℕ → Place → ℕ → ℕ → Place → Type 0
IsPartAt ns ks at from index to = (n : ℕ) (row : Node) → slice_get ks (from + index) ≡ Some n → slice_get ns n ≡ Some row → to ≡ record { block = at.block; slot = at.slot + row.under.offset; node = n; past = false }

pub record ElementRoom (ns : List Node) (at : Place) (index : ℕ) : Type 0 where
  pub few_nodes : at.node + 1 < 2 ^ 32
  pub row : Node
  pub is_row : slice_get ns (at.node + 1) ≡ Some row
  pub few_cells : at.slot + index * row.cells < 2 ^ 32

abbrev pub is_end : Kind → ℕ → Bool
is_end (kind.Array n) i = i == n
is_end k i = false

abbrev pub IsElementAt : List Node → Place → Kind → ℕ → Place → Type 0
IsElementAt ns at k index to = (row : Node) → slice_get ns (at.node + 1) ≡ Some row → to ≡ record { block = at.block; slot = at.slot + index * row.cells; node = at.node + 1; past = is_end k index }

-- the step leads on from the place, whatever steps lead to it
abbrev pub LeadsOn : Form → Place → Step → Place → Type 0
LeadsOn f at s to = (ss : List Step) → Leads f ss at → place_of f at.block (ss ++ s ∷ []) ≡ Some to

-- one can step so from a node of that kind; the place past the last element of an array is among them
abbrev pub has_step : Kind → Step → Bool
has_step (kind.Array n) (step.Elem i) = nat_le i n
has_step (kind.Class c) (step.Base i) = nat_lt i c.bases
has_step (kind.Class c) (step.Field i) = nat_lt i c.members
has_step k s = false
