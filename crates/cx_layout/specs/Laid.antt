-- That columns describe a form from a node on.
use Rattle.std.specs.Prelude.{◌≡◌, ℕ, zero, suc, ◌+◌, Bool, false, List, length, Option, None, Some, slice_get, get_or}
use Rattle.cx_type_defs.specs.declared.ids.Step.{Step}
use Rattle.cx_type_defs.specs.declared.ids.Step.TheVariants as step
use Rattle.cx_type_defs.specs.declared.ids.ClassId.{ClassId}
use Rattle.cx_layout.specs.declared.columns.Kind.{Kind}
use Rattle.cx_layout.specs.declared.columns.Kind.TheVariants as kind
use Rattle.cx_layout.specs.declared.columns.ClassParts.{ClassParts}
use Rattle.cx_layout.specs.declared.columns.Under.{Under}
use Rattle.cx_layout.specs.declared.columns.Node.{Node}
use Rattle.cx_layout.specs.Forms.{Form, Forms, Leaf, Row, Class, End, More, count, nodes, nodes_in, cells, cells_in, stride}

abbrev pub class_parts : ClassId → Bool → Forms → Forms → ClassParts
class_parts c u bs ms = record { class = c; is_union = u; bases = count bs; members = count ms }

abbrev pub kind_of : Form → Kind
kind_of Leaf = kind.Scalar
kind_of (Row n f) = kind.Array n
kind_of (Class c u bs ms) = kind.Class (class_parts c u bs ms)

abbrev pub under : ℕ → Step → ℕ → Under
under parent s offset = record { parent = parent; step = s; offset = offset }

-- a node of that form
pub record IsNode (ns : List Node) (n : ℕ) (f : Form) : Type 0 where
  pub row : Node
  pub is_row : slice_get ns n ≡ Some row
  pub kind : row.kind ≡ kind_of f
  pub cells : row.cells ≡ cells f

-- a node that is a part of another
pub record IsUnder (ns : List Node) (n : ℕ) (u : Under) : Type 0 where
  pub row : Node
  pub is_row : slice_get ns n ≡ Some row
  pub under_is : row.under ≡ u

-- from entry k on, the nodes of the parts are listed, the first of which is n
abbrev pub Listed : List ℕ → ℕ → ℕ → Forms → Type 0
Listed ks k n End = Unit {0}
Listed ks k n (More f fs) = (slice_get ks k ≡ Some n) × Listed ks (suc k) (n + nodes f) fs

abbrev mutual
  pub Laid : List Node → List ℕ → ℕ → Form → Type 0
  Laid ns ks n Leaf = IsNode ns n Leaf
  Laid ns ks n (Row m f) = IsNode ns n (Row m f) × IsUnder ns (suc n) (under n (step.Elem 0) 0) × Laid ns ks (suc n) f
  Laid ns ks n (Class c u bs ms) = (a : IsNode ns n (Class c u bs ms))
      × Listed ks a.row.bases_from (suc n) bs
      × Listed ks a.row.members_from (n + suc (nodes_in bs)) ms
      × PartsLaid ns ks n step.Base false 0 (suc n) 1 bs
      × PartsLaid ns ks n step.Field u 0 (n + suc (nodes_in bs)) (suc (cells_in false bs)) ms

  -- parts of a node, from number i, node n and offset o on
  pub PartsLaid : List Node → List ℕ → ℕ → (ℕ → Step) → Bool → ℕ → ℕ → ℕ → Forms → Type 0
  PartsLaid ns ks parent s u i n o End = Unit {0}
  PartsLaid ns ks parent s u i n o (More f fs) = IsUnder ns n (under parent (s i) o) × Laid ns ks n f × PartsLaid ns ks parent s u (suc i) (n + nodes f) (o + stride u f) fs

-- the form that columns describe

-- so many parts, listed from there on
abbrev pub read_parts : (ℕ → Form) → List ℕ → ℕ → ℕ → Forms
read_parts r ks k zero = End
read_parts r ks k (suc c) = More (r (get_or ks k 0)) (read_parts r ks (suc k) c)

abbrev pub read_kind : (ℕ → Form) → List ℕ → ℕ → ℕ → ℕ → Kind → Form
read_kind r ks n bases_from members_from kind.Scalar = Leaf
read_kind r ks n bases_from members_from (kind.Array m) = Row m (r (suc n))
read_kind r ks n bases_from members_from (kind.Class c) = Class c.class c.is_union (read_parts r ks bases_from c.bases) (read_parts r ks members_from c.members)

abbrev pub read_node : (ℕ → Form) → List ℕ → ℕ → Option Node → Form
read_node r ks n None = Leaf
read_node r ks n (Some row) = read_kind r ks n row.bases_from row.members_from row.kind

-- the form at a node, as far as so many levels tell
abbrev pub form_in : ℕ → List Node → List ℕ → ℕ → Form
form_in zero ns ks n = Leaf
form_in (suc k) ns ks n = read_node (form_in k ns ks) ks n (slice_get ns n)

unfoldable pub form_of : List Node → List ℕ → Form
form_of ns ks = form_in (length ns) ns ks 0
