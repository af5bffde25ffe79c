-- What a write asks of its place: that it may hold the value that it is given, and that the class there has the member
-- that is activated ([conv.qual], [class.union]).
use Rattle.std.specs.Prelude.{◌≡◌, ℕ, Some}
use Rattle.cx_type_defs.specs.declared.ids.ClassId.{ClassId}
use Rattle.cx_type_defs.specs.declared.kind.TypeRow.{TypeRow}
use Rattle.cx_type_defs.specs.declared.kind.TypeKind.TheVariants as kind
use Rattle.cx_type_defs.specs.declared.decl.Field.{Field}
use Rattle.cx_type_defs.specs.Tables.{Tables, field_of}
use Rattle.cx_state.specs.declared.kind.Scalar.{Scalar}
use Rattle.cx_state.specs.Objects.{Path, Objects}
use Rattle.cx_state.specs.Places.{row_of}
use Rattle.cx_state.specs.Steps.{Write, Init, Store, Activate}
use Rattle.cx_state.specs.Forms.{HoldsValue, MayHold}

-- the place is one of a scalar or reference, which may hold the value
pub record TakesValue (t : Tables) (os : Objects) (p : Path) (v : Scalar Path) : Type 0 where
  pub row : TypeRow
  pub is_row : row_of t os p ≡ Some row
  pub is_scalar : HoldsValue row.kind
  pub may_hold : MayHold t os row.kind v

-- the place is one of a class, which has the member
pub record HasMember (t : Tables) (os : Objects) (p : Path) (m : ℕ) : Type 0 where
  pub row : TypeRow
  pub is_row : row_of t os p ≡ Some row
  pub class : ClassId
  pub is_class : row.kind ≡ kind.Class class
  pub field : Field
  pub is_field : field_of t class m ≡ Some field

abbrev pub GivesValue : Tables → Objects → Path → Write → Type 0
GivesValue t os p (Init v) = TakesValue t os p v
GivesValue t os p (Store v) = TakesValue t os p v
GivesValue t os p _ = Unit {0}

abbrev pub NamesMember : Tables → Objects → Path → Write → Type 0
NamesMember t os p (Activate m alive) = HasMember t os p m
NamesMember t os p _ = Unit {0}
