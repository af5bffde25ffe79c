-- What laying a part into columns does. No contract of a public call cites this.
use Rattle.std.specs.Prelude.{◌≡◌, ℕ, zero, suc, ◌+◌, ◌≤◌, Bool, List, [], ◌∷◌, ◌++◌, length, Option, None, Some, slice_get, option_map, option_and_then, if◌then◌else◌}
use Rattle.cx_type_defs.specs.declared.ids.Step.{Step}
use Rattle.cx_type_defs.specs.declared.ids.Step.TheVariants as step
use Rattle.cx_type_defs.specs.declared.ids.ClassId.{ClassId}
use Rattle.cx_type_defs.specs.declared.decl.ClassBody.{ClassBody}
use Rattle.cx_type_defs.specs.declared.decl.ClassDecl.{ClassDecl}
use Rattle.cx_type_defs.specs.Tables.{Tables}
use Rattle.cx_type_defs.specs.Questions.{Part, OfType, OfClass}
use Rattle.cx_layout.specs.declared.columns.ClassParts.{ClassParts}
use Rattle.cx_layout.specs.declared.columns.Under.{Under}
use Rattle.cx_layout.specs.declared.columns.Node.{Node}
use Rattle.cx_layout.specs.declared.lay.Piece.{Piece}
use Rattle.cx_layout.specs.declared.lay.Piece.TheVariants as piece
use Rattle.cx_layout.specs.declared.lay.Group.{Group}
use Rattle.cx_layout.specs.Forms.{Form, Forms, Row, End, More, count, nodes, nodes_in, cells, cells_in, AllFull, PartsFull}
use Rattle.cx_layout.specs.TypeForms.{each_form, is_union, base_parts, member_parts, form_in}
use Rattle.cx_layout.specs.Laid.{IsUnder, Laid, PartsLaid}

abbrev pub piece_part : Piece → Part
piece_part (piece.Type ty) = OfType ty
piece_part (piece.Class c) = OfClass c

-- what stands stays
abbrev pub Stays : {A : Type 0} → List A → List A → Type 0
Stays {A} xs ys = (i : ℕ) (x : A) → slice_get xs i ≡ Some x → slice_get ys i ≡ Some x

-- the cells of an element
abbrev pub element_cells : Form → ℕ
element_cells (Row n f) = cells f
element_cells f = 0

-- the form is small enough for the numbers of the code
pub record Room (ns : List Node) (ks : List ℕ) (offset : ℕ) (f : Form) : Type 0 where
  pub few_nodes : length ns + nodes f ≤ 1048577
  pub few_parts : length ks ≤ length ns
  pub few_cells : offset + cells f ≤ 1073741824
  pub few_element_cells : element_cells f ≤ 1073741824
  pub full : PartsFull f

abbrev pub HasRoom : List Node → List ℕ → ℕ → Option Form → Type 0
HasRoom ns ks offset None = ⊥
HasRoom ns ks offset (Some f) = Room ns ks offset f

-- the form is described behind what stood there before
pub record Lays (ns : List Node) (ks : List ℕ) (new_ns : List Node) (new_ks : List ℕ) (u : Under) (f : Form) (c : ℕ) : Type 0 where
  pub rows_stay : Stays ns new_ns
  pub lists_stay : Stays ks new_ks
  pub is_under : IsUnder new_ns (length ns) u
  pub laid : Laid new_ns new_ks (length ns) f
  pub as_many : length new_ns ≡ length ns + nodes f
  pub few_parts : length new_ks + 1 ≤ length ks + nodes f
  pub cells_are : c ≡ cells f

abbrev pub LaysForm : List Node → List ℕ → List Node → List ℕ → Under → Option Form → ℕ → Type 0
LaysForm ns ks new_ns new_ks u None c = Unit {0}
LaysForm ns ks new_ns new_ks u (Some f) c = Lays ns ks new_ns new_ks u f c

-- the bases or the members of a class

abbrev pub parts_in : Bool → ClassDecl → ClassBody → List Part
parts_in of_bases d b = if of_bases then base_parts d.key b else member_parts b

abbrev pub group_parts : Tables → ClassId → Bool → Option (List Part)
group_parts t c of_bases = option_and_then (λ (d : ClassDecl). option_map (parts_in of_bases d) d.body) (slice_get t.classes c.0)

abbrev pub group_forms : Tables → ℕ → ClassId → Bool → Option Forms
group_forms t levels c of_bases = option_and_then (each_form (form_in t levels)) (group_parts t c of_bases)

abbrev pub step_by : Bool → ℕ → Step
step_by of_bases i = if of_bases then step.Base i else step.Field i

-- how part i stands in the class, with so many cells of the group before it
abbrev pub under_in : Group → ℕ → ℕ → Under
under_in g i before = record { parent = g.node; step = step_by g.of_bases i; offset = if g.shared then g.offset else g.offset + before }

-- what is known of a complete class
abbrev pub parts_seen : Tables → ClassId → Option ClassParts
parts_seen t c = option_and_then (λ (d : ClassDecl). option_map (λ (b : ClassBody). record { class = c; is_union = is_union d.key; bases = length (base_parts d.key b); members = length (member_parts b) }) d.body) (slice_get t.classes c.0)

pub record GroupRoom (ns : List Node) (ks : List ℕ) (g : Group) (fs : Forms) : Type 0 where
  pub few_nodes : length ns + nodes_in fs ≤ 1048577
  pub few_parts : length ks ≤ length ns
  pub few_cells : g.offset + cells_in g.shared fs ≤ 1073741824
  pub full : AllFull fs
  pub count_is : g.count ≡ count fs

abbrev pub GroupHasRoom : List Node → List ℕ → Group → Option Forms → Type 0
GroupHasRoom ns ks g None = ⊥
GroupHasRoom ns ks g (Some fs) = GroupRoom ns ks g fs

-- the nodes of parts that follow one another
abbrev pub starts : Forms → ℕ → List ℕ
starts End n = []
starts (More f fs) n = n ∷ starts fs (n + nodes f)

pub record LaysAll (ns : List Node) (ks js : List ℕ) (new_ns : List Node) (new_ks new_js : List ℕ) (g : Group) (fs : Forms) (c : ℕ) : Type 0 where
  pub rows_stay : Stays ns new_ns
  pub lists_stay : Stays ks new_ks
  pub laid : PartsLaid new_ns new_ks g.node (step_by g.of_bases) g.shared 0 (length ns) g.offset fs
  pub as_many : length new_ns ≡ length ns + nodes_in fs
  pub few_parts : length new_ks + count fs ≤ length ks + nodes_in fs
  pub starts_are : new_js ≡ js ++ starts fs (length ns)
  pub cells_are : c ≡ cells_in g.shared fs

abbrev pub first : ℕ → Forms → Forms
first zero fs = End
first (suc n) End = End
first (suc n) (More f fs) = More f (first n fs)

-- the first i of them are laid
abbrev pub LaysFirst : ℕ → List Node → List ℕ → List ℕ → List Node → List ℕ → List ℕ → Group → Option Forms → ℕ → Type 0
LaysFirst i ns ks js new_ns new_ks new_js g None c = Unit {0}
LaysFirst i ns ks js new_ns new_ks new_js g (Some fs) c = LaysAll ns ks js new_ns new_ks new_js g (first i fs) c

abbrev pub LaysGroup : List Node → List ℕ → List ℕ → List Node → List ℕ → List ℕ → Group → Option Forms → ℕ → Type 0
LaysGroup ns ks js new_ns new_ks new_js g None c = Unit {0}
LaysGroup ns ks js new_ns new_ks new_js g (Some fs) c = LaysAll ns ks js new_ns new_ks new_js g fs c
