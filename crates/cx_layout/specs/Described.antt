-- What the descriptors of types say.
use Rattle.std.specs.Prelude.{◌≡◌, ℕ, suc, ◌==◌, ◌≤◌, Bool, true, false, ◌&&◌, List, [], ◌∷◌, ◌++◌, length, Option, None, Some, slice_get, option_map, unwrap_or, if◌then◌else◌}
use Rattle.cx_type_defs.specs.declared.ids.TypeId.{TypeId}
use Rattle.cx_type_defs.specs.Tables.{Tables}
use Rattle.cx_layout.specs.declared.columns.Node.{Node}
use Rattle.cx_layout.specs.declared.columns.Columns.{Columns}
use Rattle.cx_layout.specs.declared.columns.Descriptor.{Descriptor}
use Rattle.cx_layout.specs.Forms.{Form, Leaf, cells, nodes, PartsFull}
use Rattle.cx_layout.specs.TypeForms.{object_form}
use Rattle.cx_layout.specs.Laid.{Laid, form_of}

abbrev pub columns_form : Columns → Form
columns_form c = form_of c.nodes.items c.parts.items

abbrev pub descriptor_form : Descriptor → Form
descriptor_form d = columns_form d.columns

-- the form of the descriptor with a number
abbrev pub form_at : List Descriptor → ℕ → Form
form_at ds n = unwrap_or (option_map descriptor_form (slice_get ds n)) Leaf

-- the descriptor is that of its type, or of the array of so many of it
abbrev pub IsOf : Tables → Descriptor → Type 0
IsOf t d = object_form t d.ty d.length ≡ Some (descriptor_form d)

-- each is
abbrev pub AreOf : Tables → List Descriptor → Type 0
AreOf t [] = Unit {0}
AreOf t (d ∷ ds) = IsOf t d × AreOf t ds

-- the columns describe a form that is small enough for the numbers of the code, and no part of it is an empty array
pub record Described (ns : List Node) (ks : List ℕ) (f : Form) : Type 0 where
  pub laid : Laid ns ks 0 f
  pub full : PartsFull f
  pub few_cells : cells f ≤ 1073741824
  pub few_nodes : nodes f ≤ 1048577
  pub few_rows : length ns ≡ nodes f

abbrev pub IsTable : Columns → Type 0
IsTable c = Described c.nodes.items c.parts.items (columns_form c)

abbrev pub IsDescribed : Descriptor → Type 0
IsDescribed d = IsTable d.columns

abbrev pub AllDescribed : List Descriptor → Type 0
AllDescribed [] = Unit {0}
AllDescribed (d ∷ ds) = IsDescribed d × AllDescribed ds

-- numbers

abbrev pub same_length : Option ℕ → Option ℕ → Bool
same_length None None = true
same_length (Some n) (Some m) = n == m
same_length _ _ = false

abbrev pub is_for : TypeId → Option ℕ → Descriptor → Bool
is_for ty length d = (d.ty.0 == ty.0) && same_length d.length length

-- the number of the descriptor of a type and length, where it stands
abbrev pub number_in : List Descriptor → TypeId → Option ℕ → Option ℕ
number_in [] ty length = None
number_in (d ∷ ds) ty length = if is_for ty length d then Some 0 else option_map suc (number_in ds ty length)

-- one more descriptor, that of this type and length
pub record IsAdded (t : Tables) (of : TypeId) (count : Option ℕ) (old new : List Descriptor) (number : ℕ) : Type 0 where
  pub added : Descriptor
  pub behind : new ≡ old ++ added ∷ []
  pub number_is : number ≡ length old
  pub ty : added.ty ≡ of
  pub length : added.length ≡ count
  pub is_of : IsOf t added

-- the number of the same type and length where it stands, and else the next number
abbrev pub Numbered : Tables → TypeId → Option ℕ → List Descriptor → List Descriptor → ℕ → Option ℕ → Type 0
Numbered t ty length old new number None = IsAdded t ty length old new number
Numbered t ty length old new number (Some k) = (number ≡ k) × (new ≡ old)
