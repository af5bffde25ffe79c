-- When two types are the same ([basic.type.qualifier], [basic.compound], [conv.qual]): what is said of them from top to
-- bottom is the same, whatever numbers they and their parts have.
use Rattle.std.specs.Prelude.{◌≡◌, ℕ, zero, suc, ◌+◌, Bool, true, false, not, ◌&&◌, List, Option, None, Some, slice_get, if◌then◌else◌}
use Rattle.cx_base.specs.declared.int_type.IntType.{IntType}
use Rattle.cx_type_defs.specs.declared.ids.TypeId.{TypeId}
use Rattle.cx_type_defs.specs.declared.ids.ClassId.{ClassId}
use Rattle.cx_type_defs.specs.declared.ids.EnumId.{EnumId}
use Rattle.cx_type_defs.specs.declared.kind.TypeRow.{TypeRow}
use Rattle.cx_type_defs.specs.declared.kind.TypeKind.{TypeKind}
use Rattle.cx_type_defs.specs.declared.kind.TypeKind.TheVariants as kind
use Rattle.cx_type_defs.specs.Tables.{Tables}

-- what is said of a type
pub data Form : Type 0 where
  Void : Form
  Nullptr : Form
  Int : IntType → Form
  Enum : EnumId → Form
  Pointer : Form → Form
  Reference : Form → Form
  Array : Form → ℕ → Form
  Class : ClassId → Form
  Const : Form → Form
  Unknown : Form  -- no type of the tables

abbrev pub kind_form : (TypeId → Form) → TypeKind → Form
kind_form form kind.Void = Void
kind_form form kind.Nullptr = Nullptr
kind_form form (kind.Int ty) = Int ty
kind_form form (kind.Enum e) = Enum e
kind_form form (kind.Pointer to) = Pointer (form to)
kind_form form (kind.Reference to) = Reference (form to)
kind_form form (kind.Array of n) = Array (form of) n
kind_form form (kind.Class c) = Class c

-- the type made const: of an array its elements are, a reference never is, and what is const stays so
abbrev pub made_const : Form → Form
made_const (Array f n) = Array (made_const f) n
made_const (Reference f) = Reference f
made_const (Const f) = Const f
made_const f = Const f

-- by the forms of the parts; with const at every level, or without
abbrev pub row_form : Bool → (TypeId → Form) → Option TypeRow → Form
row_form with_const form None = Unknown
row_form with_const form (Some r) = if with_const && r.konst then made_const (kind_form form r.kind) else kind_form form r.kind

unfoldable pub form_within : Bool → Tables → ℕ → TypeId → Form
form_within with_const t zero id = Unknown
form_within with_const t (suc n) id = row_form with_const (form_within with_const t n) (slice_get t.rows id.0)

-- what a type leads to or consists of stands before it, so there are no more levels than types up to it
unfoldable pub form_of : Bool → Tables → TypeId → Form
form_of with_const t id = form_within with_const t (id.0 + 1) id

-- the same type
abbrev pub SameType : Tables → TypeId → TypeId → Type 0
SameType t a b = form_of true t a ≡ form_of true t b

-- the same type, const aside at every level
abbrev pub SameAside : Tables → TypeKind → TypeKind → Type 0
SameAside t a b = kind_form (form_of false t) a ≡ kind_form (form_of false t) b

-- How a type is written in the tables ([dcl.ptr], [dcl.ref], [dcl.array]): const of an array stands at its elements, a
-- reference is never const, nothing points or refers to a reference, and nothing refers to void.

abbrev pub may_be_pointed_to : TypeKind → Bool
may_be_pointed_to (kind.Reference to) = false
may_be_pointed_to _ = true

abbrev pub may_be_referred_to : TypeKind → Bool
may_be_referred_to kind.Void = false
may_be_referred_to (kind.Reference to) = false
may_be_referred_to _ = true

abbrev pub row_passes : (TypeKind → Bool) → Option TypeRow → Bool
row_passes test None = false
row_passes test (Some r) = test r.kind

abbrev pub is_normal_kind : List TypeRow → Bool → TypeKind → Bool
is_normal_kind rows konst (kind.Pointer to) = row_passes may_be_pointed_to (slice_get rows to.0)
is_normal_kind rows konst (kind.Reference to) = not konst && row_passes may_be_referred_to (slice_get rows to.0)
is_normal_kind rows konst (kind.Array of n) = not konst
is_normal_kind rows konst _ = true

abbrev pub is_normal : Tables → TypeRow → Bool
is_normal t r = is_normal_kind t.rows r.konst r.kind

-- all types are written so
abbrev pub AreNormal : Tables → Type 0
AreNormal t = (i : ℕ) (r : TypeRow) → slice_get t.rows i ≡ Some r → is_normal t r ≡ true
