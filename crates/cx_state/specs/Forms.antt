-- That objects have the forms of their types, and what keeps a place ([basic.types], [basic.life], [conv.qual]).
use Rattle.std.specs.Prelude.{◌≡◌, ◌⊎◌, ℕ, ◌<◌, true, List, [], ◌∷◌, length, Option, None, Some, slice_get}
use Rattle.cx_ints.specs.Ranges as ranges
use Rattle.cx_type_defs.specs.declared.ids.Step.{Step}
use Rattle.cx_type_defs.specs.declared.ids.TypeId.{TypeId}
use Rattle.cx_type_defs.specs.declared.kind.TypeRow.{TypeRow}
use Rattle.cx_type_defs.specs.declared.kind.TypeKind.{TypeKind}
use Rattle.cx_type_defs.specs.declared.kind.TypeKind.TheVariants as kind
use Rattle.cx_type_defs.specs.declared.decl.Field.{Field}
use Rattle.cx_type_defs.specs.declared.decl.ClassBody.{ClassBody}
use Rattle.cx_type_defs.specs.declared.decl.ClassDecl.{ClassDecl}
use Rattle.cx_type_defs.specs.declared.decl.ClassKey.{ClassKey}
use Rattle.cx_type_defs.specs.declared.decl.ClassKey.TheVariants as key
use Rattle.cx_type_defs.specs.Tables.{Tables, under_at}
use Rattle.cx_type_defs.specs.Questions.{is_complete}
use Rattle.cx_state.specs.declared.kind.Scalar.{Scalar}
use Rattle.cx_state.specs.declared.kind.Scalar.TheVariants as scalar
use Rattle.cx_state.specs.Objects.{Path, Tree, Leaf, Row, Class, Union, Active, size, below, Object, Objects}
use Rattle.cx_state.specs.Places.{row_below, root_row, row_of, is_place}
use Rattle.cx_state.specs.Alike.{Alike}

-- what a pointer or reference to a type may designate: a pointer to void anything
abbrev pub IsPointee : Tables → TypeKind → TypeKind → Type 0
IsPointee t to k = (to ≡ kind.Void) ⊎ Alike t to k

-- the place is one of the objects, and what is there is of that type
pub record Designates (t : Tables) (os : Objects) (to : TypeId) (p : Path) : Type 0 where
  pub asked : TypeRow
  pub is_asked : slice_get t.rows to.0 ≡ Some asked
  pub found : TypeRow
  pub is_found : row_of t os p ≡ Some found
  pub alike : IsPointee t asked.kind found.kind

-- what a scalar or reference of a type may hold
abbrev pub MayHold : Tables → Objects → TypeKind → Scalar Path → Type 0
MayHold t os k scalar.Indeterminate = Unit {0}
MayHold t os (kind.Int ty) (scalar.Int i) = (i.ty ≡ ty) × ranges.Fits i.ty i.value
MayHold t os (kind.Enum e) (scalar.Int i) = (under_at t e ≡ Some i.ty) × ranges.Fits i.ty i.value
MayHold t os kind.Nullptr scalar.Null = Unit {0}
MayHold t os (kind.Pointer to) scalar.Null = Unit {0}
MayHold t os (kind.Pointer to) (scalar.Place p) = Designates t os to p
MayHold t os (kind.Reference to) (scalar.Place p) = Designates t os to p
MayHold t os _ _ = ⊥

-- scalar types and references: what is of them is one value
abbrev pub HoldsValue : TypeKind → Type 0
HoldsValue kind.Void = ⊥
HoldsValue (kind.Array of n) = ⊥
HoldsValue (kind.Class c) = ⊥
HoldsValue _ = Unit {0}

-- one part has the form of its type; its own parts are asked by themselves

abbrev pub AllKnown : Tables → List Field → Type 0
AllKnown t [] = Unit {0}
AllKnown t (f ∷ fs) = (f.ty.0 < length t.rows) × AllKnown t fs

abbrev pub ClassForm : ClassKey → ClassBody → Tree → Type 0
ClassForm key.Union b Union = Unit {0}
ClassForm key.Union b (Active m x) = m < length b.fields
ClassForm key.Union b _ = ⊥
ClassForm k b (Class p bases members) = (size bases ≡ length b.bases) × (size members ≡ length b.fields)
ClassForm k b _ = ⊥

-- a complete class, all of whose members have types of the tables
pub record IsComplete (t : Tables) (d : ClassDecl) (x : Tree) : Type 0 where
  pub body : ClassBody
  pub is_body : d.body ≡ Some body
  pub known : AllKnown t body.fields
  pub form : ClassForm d.key body x

abbrev pub DeclForm : Tables → Option ClassDecl → Tree → Type 0
DeclForm t None x = ⊥
DeclForm t (Some d) x = IsComplete t d x

abbrev pub ScalarForm : Tables → Objects → TypeKind → Tree → Type 0
ScalarForm t os k (Leaf v) = MayHold t os k v
ScalarForm t os k _ = ⊥

abbrev pub RowForm : Tables → TypeId → ℕ → Tree → Type 0
RowForm t of n (Row xs) = (size xs ≡ n) × (of.0 < length t.rows)
RowForm t of n _ = ⊥

abbrev pub Form : Tables → Objects → TypeKind → Tree → Type 0
Form t os kind.Void x = ⊥
Form t os (kind.Array of n) x = RowForm t of n x
Form t os (kind.Class c) x = DeclForm t (slice_get t.classes c.0) x
Form t os k x = ScalarForm t os k x

-- a tree and each part of it have the forms of their types
abbrev pub TreeFits : Tables → Objects → TypeRow → Tree → Type 0
TreeFits t os row x = (ss : List Step) (r : TypeRow) (y : Tree) → row_below t row ss ≡ Some r → below x ss ≡ Some y → Form t os r.kind y

-- an object has a complete type and the form of it
pub record ObjectFits (t : Tables) (os : Objects) (o : Object) : Type 0 where
  pub complete : is_complete t o.ty ≡ true
  pub row : TypeRow
  pub is_row : root_row t o ≡ Some row
  pub parts : TreeFits t os row o.tree

-- all objects do
abbrev pub Fit : Tables → Objects → Type 0
Fit t os = (n : ℕ) (o : Object) → slice_get os n ≡ Some o → ObjectFits t os o

-- there is such a place
abbrev pub Knows : Tables → Objects → Path → Type 0
Knows t os p = is_place t os p ≡ true

-- what a scalar holds, if it is a place, is known
abbrev pub KnowsIn : Tables → Objects → Scalar Path → Type 0
KnowsIn t os (scalar.Place p) = Knows t os p
KnowsIn t os _ = Unit {0}

-- no scalar of an object that stays holds a place in one that goes
pub record HoldsBelow (os : Objects) (mark : ℕ) : Type 0 where
  pub holds_below : (n : ℕ) (o : Object) (ss : List Step) (p : Path) → n < mark → slice_get os n ≡ Some o → below o.tree ss ≡ Some (Leaf (scalar.Place p)) → p.object < mark
