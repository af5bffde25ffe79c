-- What the functions give, by the steps on objects.
use Rattle.std.specs.Prelude.{◌≡◌, ℕ, Bool, true, false, Option, None, Some, slice_get, Result, Ok, Err}
use Rattle.cx_base.specs.declared.rule.Rule.{Rule}
use Rattle.cx_ints.specs.declared.int.Int.{Int}
use Rattle.cx_ints.specs.declared.operators.BinOp.TheVariants as op
use Rattle.cx_ints.specs.Operations as operations
use Rattle.cx_state.specs.declared.kind.Scalar.{Scalar}
use Rattle.cx_state.specs.declared.kind.Scalar.TheVariants as scalar
use Rattle.cx_type_defs.specs.declared.ids.Step.TheVariants as step
use Rattle.cx_type_defs.specs.declared.ids.TypeId.{TypeId}
use Rattle.cx_type_defs.specs.declared.kind.TypeRow.{TypeRow}
use Rattle.cx_type_defs.specs.declared.kind.TypeKind.TheVariants as kind
use Rattle.cx_type_defs.specs.Tables.{Tables}
use Rattle.cx_ints.specs.Ranges as ranges
use Rattle.cx_state.specs.Places.{row_of}
use Rattle.cx_state.specs.Objects.{Path, Objects}
use Rattle.cx_state.specs.Steps.{deeper, to_field, store}
use Rattle.cx_state.specs.Alike.{Alike}
use Rattle.cx_state.specs.Forms.{HoldsValue}
use Rattle.cx_store.specs.Stores.{HasField, IsScalarAt, MayTake}

abbrev pub integer : {P : Type 0} → Scalar P → Option Int
integer (scalar.Int i) = Some i
integer _ = None

abbrev pub some_of : Result Int Rule → Result (Option Int) Rule
some_of (Ok i) = Ok (Some i)
some_of (Err r) = Err r

abbrev pub both : Option Int → Option Int → Result (Option Int) Rule
both (Some a) (Some b) = some_of (operations.operation op.Add a b)
both _ _ = Ok None

-- the left operand is loaded first, and its rule comes first
abbrev pub sum : {P Q : Type 0} → Result (Scalar P) Rule → Result (Scalar Q) Rule → Result (Option Int) Rule
sum (Ok a) (Ok b) = both (integer a) (integer b)
sum (Err r) b = Err r
sum (Ok a) (Err r) = Err r

-- where the pointer leads, there is such a member, which may hold the value
abbrev pub Leads : Tables → Objects → ℕ → Int → Result (Scalar Path) Rule → Type 0
Leads t os m i (Ok (scalar.Place p)) = HasField t os p m × IsScalarAt t os (deeper p (step.Field m) false) × MayTake t os (deeper p (step.Field m) false) (scalar.Int i)
Leads t os m i _ = Unit {0}

abbrev pub IsDone : Result Objects Rule → Objects → Objects → Result Bool Rule → Type 0
IsDone (Ok os) old new result = (result ≡ Ok true) × (new ≡ os)
IsDone (Err r) old new result = (result ≡ Err r) × (new ≡ old)

abbrev pub WritesAt : Tables → Objects → Objects → Int → Result Path Rule → Result Bool Rule → Type 0
WritesAt t old new i (Ok p) result = IsDone (store t old p (scalar.Int i)) old new result
WritesAt t old new i (Err r) result = (result ≡ Err r) × (new ≡ old)

abbrev pub Writes : Tables → Objects → Objects → ℕ → Int → Result (Scalar Path) Rule → Result Bool Rule → Type 0
Writes t old new m i (Ok (scalar.Place p)) result = WritesAt t old new i (to_field t old p m) result
Writes t old new m i (Ok v) result = (result ≡ Ok false) × (new ≡ old)
Writes t old new m i (Err r) result = (result ≡ Err r) × (new ≡ old)

-- At `to` is a pointer to a scalar type, and at `from` a scalar of that type, const at any level aside ([expr.ass]).
pub record PointsToSame (t : Tables) (os : Objects) (to from : Path) : Type 0 where
  pub pointer : TypeRow
  pub is_at_to : row_of t os to ≡ Some pointer
  pub part : TypeId
  pub is_pointer : pointer.kind ≡ kind.Pointer part
  pub led : TypeRow
  pub is_led : slice_get t.rows part.0 ≡ Some led
  pub given : TypeRow
  pub is_at_from : row_of t os from ≡ Some given
  pub is_scalar : HoldsValue given.kind
  pub same : Alike t given.kind led.kind

abbrev pub AssignsAt : Tables → Objects → Objects → Scalar Path → Result (Scalar Path) Rule → Result Bool Rule → Type 0
AssignsAt t old new v (Ok (scalar.Place p)) result = IsDone (store t old p v) old new result
AssignsAt t old new v (Ok w) result = (result ≡ Ok false) × (new ≡ old)
AssignsAt t old new v (Err r) result = (result ≡ Err r) × (new ≡ old)

-- what is given is loaded first, and then where it goes
abbrev pub Assigns : Tables → Objects → Objects → Result (Scalar Path) Rule → Result (Scalar Path) Rule → Result Bool Rule → Type 0
Assigns t old new (Ok v) to result = AssignsAt t old new v to result
Assigns t old new (Err r) to result = (result ≡ Err r) × (new ≡ old)

-- an integer type, and a value of it
pub record IsOfInts (t : Tables) (of : TypeId) (i : Int) : Type 0 where
  pub row : TypeRow
  pub is_row : slice_get t.rows of.0 ≡ Some row
  pub is_int : row.kind ≡ kind.Int i.ty
  pub fits : ranges.Fits i.ty i.value

-- there is an array of so many of the type
pub record IsArray (t : Tables) (os : Objects) (p : Path) (of : TypeId) (count : ℕ) : Type 0 where
  pub row : TypeRow
  pub is_row : row_of t os p ≡ Some row
  pub is_array : row.kind ≡ kind.Array of count
