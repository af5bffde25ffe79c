-- What is known of the places that a case has names for, and of what its objects hold.
use Rattle.std.specs.Prelude.{◌≡◌, ℕ, ◌<◌, ◌≤◌, ◌⊎◌, List, Option, None, Some, slice_get}
use Rattle.cx_type_defs.specs.declared.ids.Step.{Step}
use Rattle.cx_type_defs.specs.declared.ids.TypeId.{TypeId}
use Rattle.cx_type_defs.specs.declared.ids.ClassId.{ClassId}
use Rattle.cx_type_defs.specs.declared.kind.TypeRow.{TypeRow}
use Rattle.cx_type_defs.specs.declared.kind.TypeKind.{TypeKind}
use Rattle.cx_type_defs.specs.declared.kind.TypeKind.TheVariants as kind
use Rattle.cx_type_defs.specs.declared.decl.ClassBody.{ClassBody}
use Rattle.cx_type_defs.specs.Tables.{Tables, body_at}
use Rattle.cx_state.specs.declared.kind.Scalar.{Scalar}
use Rattle.cx_state.specs.declared.kind.Scalar.TheVariants as scalar
use Rattle.cx_state.specs.Objects.{Path, Leaf, Object, Objects, below}
use Rattle.cx_state.specs.Places.{row_part, row_of, whole_kind}
use Rattle.cx_store_cases.specs.declared.seat.Seat.{Seat}
use Rattle.cx_store_cases.specs.declared.seat.Desk.{Desk}

-- the form of the type there is told so, where it is told
abbrev pub IsTold : Option TypeKind → TypeKind → Type 0
IsTold None k = Unit {0}
IsTold (Some told) k = k ≡ told

-- there is such a place, and what is there is of the type that is told
pub record IsSeat {P : Type 0} (t : Tables) (os : Objects) (path : P → Path) (s : Seat P) : Type 0 where
  pub row : TypeRow
  pub is_row : row_of t os (path s.place) ≡ Some row
  pub is_told : IsTold s.kind row.kind

pub record AreSeats {P : Type 0} (t : Tables) (os : Objects) (path : P → Path) (ss : List (Seat P)) : Type 0 where
  pub each : (i : ℕ) (s : Seat P) → slice_get ss i ≡ Some s → IsSeat t os path s

-- a place that an object holds is in one with a number below the mark
pub record HeldBelow (os : Objects) (mark : ℕ) : Type 0 where
  pub held : (n : ℕ) (o : Object) (ss : List Step) (p : Path) → slice_get os n ≡ Some o → below o.tree ss ≡ Some (Leaf (scalar.Place p)) → p.object < mark

-- what a case has at hand stands: the store fits, its places are known, and its objects hold places as the mark says
pub record Stands {P : Type 0} (fit : Type 0) (t : Tables) (os : Objects) (path : P → Path) (d : Desk P) : Type 0 where
  pub fits : fit
  pub seats : AreSeats t os path d.seats.items
  pub held : HeldBelow os d.safe

-- they are known places in objects with numbers below the mark
pub record AreKept {P : Type 0} (t : Tables) (os : Objects) (path : P → Path) (mark : ℕ) (ss : List (Seat P)) : Type 0 where
  pub seats : AreSeats t os path ss
  pub low : (i : ℕ) (s : Seat P) → slice_get ss i ≡ Some s → (path s.place).object < mark

-- the form of a whole object of that type and count
pub record IsWholeKind (t : Tables) (ty : TypeId) (count : Option ℕ) (k : TypeKind) : Type 0 where
  pub row : TypeRow
  pub is_row : slice_get t.rows ty.0 ≡ Some row
  pub is_kind : k ≡ whole_kind count ty row.kind

-- there is a class, complete
pub record IsClassSeat (t : Tables) (k : Option TypeKind) (c : ClassId) : Type 0 where
  pub is_class : k ≡ Some (kind.Class c)
  pub body : ClassBody
  pub is_body : body_at t c ≡ Some body

-- what is there has such a part, of this form
pub record HasPart {P : Type 0} (t : Tables) (os : Objects) (path : P → Path) (s : Seat P) (at : Step) (k : TypeKind) : Type 0 where
  pub row : TypeRow
  pub is_row : row_of t os (path s.place) ≡ Some row
  pub part : TypeRow
  pub is_part : row_part t row at ≡ Some part
  pub is_kind : part.kind ≡ k

-- there is an array of at least so many elements of this form
pub record HasElems {P : Type 0} (t : Tables) (os : Objects) (path : P → Path) (s : Seat P) (count : ℕ) (k : TypeKind) : Type 0 where
  pub row : TypeRow
  pub is_row : row_of t os (path s.place) ≡ Some row
  pub of : TypeId
  pub number : ℕ
  pub is_array : row.kind ≡ kind.Array of number
  pub few : count ≤ number
  pub element : TypeRow
  pub is_element : slice_get t.rows of.0 ≡ Some element
  pub is_kind : element.kind ≡ k

-- a pointer or reference to this form
pub record IsLed (t : Tables) (told : Option TypeKind) (k : TypeKind) : Type 0 where
  pub to : TypeId
  pub leads : (told ≡ Some (kind.Pointer to)) ⊎ (told ≡ Some (kind.Reference to))
  pub row : TypeRow
  pub is_row : slice_get t.rows to.0 ≡ Some row
  pub is_kind : row.kind ≡ k

-- a form that no type is like but that of the same form
abbrev pub IsOwn : TypeKind → Type 0
IsOwn (kind.Int ty) = Unit {0}
IsOwn (kind.Class c) = Unit {0}
IsOwn _ = ⊥

abbrev pub IsExact : TypeKind → Option TypeKind → Type 0
IsExact k None = Unit {0}
IsExact k (Some l) = (l ≡ k) × IsOwn k

-- a pointer to void leads anywhere, one to an integer or class to that alone
abbrev pub MayLead : TypeKind → TypeKind → Type 0
MayLead kind.Void k = Unit {0}
MayLead (kind.Int ty) k = k ≡ kind.Int ty
MayLead (kind.Class c) k = k ≡ kind.Class c
MayLead _ k = ⊥

-- a place that a scalar holds is in an object with a number below the mark
abbrev pub IsBelow : ℕ → Scalar Path → Type 0
IsBelow mark (scalar.Place p) = p.object < mark
IsBelow mark _ = Unit {0}
