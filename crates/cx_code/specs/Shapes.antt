-- What an instruction takes and gives, by the kinds of the operands and of the locals, and when it fits the types.
use Rattle.std.specs.Prelude.{◌≡◌, ℕ, ◌≤◌, List, [], ◌∷◌, ◌++◌, map, reverse, Option, None, Some, slice_get, option_map}
use Rattle.std.specs.List.{find}
use Rattle.cx_base.specs.declared.int_type.IntType.{IntType}
use Rattle.cx_base.specs.declared.int_type.IntType.TheVariants as type
use Rattle.cx_type_defs.specs.declared.ids.TypeId.{TypeId}
use Rattle.cx_type_defs.specs.declared.ids.ClassId.{ClassId}
use Rattle.cx_type_defs.specs.declared.ids.FuncId.{FuncId}
use Rattle.cx_type_defs.specs.declared.kind.TypeRow.{TypeRow}
use Rattle.cx_type_defs.specs.declared.kind.TypeKind.{TypeKind}
use Rattle.cx_type_defs.specs.declared.kind.TypeKind.TheVariants as kind
use Rattle.cx_type_defs.specs.declared.decl.Field.{Field}
use Rattle.cx_type_defs.specs.Tables.{Tables, IsKnown, under_at, base_of, field_of, overrider}
use Rattle.cx_type_defs.specs.Questions.{OfType, asked, cells_of}
use Rattle.cx_state.specs.declared.root.Root.{Root}
use Rattle.cx_state.specs.States.{same_root}
use Rattle.cx_state.specs.Alike.{Alike}
use Rattle.cx_ops.specs.Strict.{given_type}
use Rattle.cx_code.specs.declared.code.CellKind.{CellKind}
use Rattle.cx_code.specs.declared.code.CellKind.TheVariants as cell
use Rattle.cx_code.specs.declared.instr.Constant.{Constant}
use Rattle.cx_code.specs.declared.instr.Constant.TheVariants as constant
use Rattle.cx_code.specs.declared.instr.Shuffle.{Shuffle}
use Rattle.cx_code.specs.declared.instr.Shuffle.TheVariants as shuffle
use Rattle.cx_code.specs.declared.instr.Name.{Name}
use Rattle.cx_code.specs.declared.instr.Name.TheVariants as name
use Rattle.cx_code.specs.declared.instr.Making.{Making}
use Rattle.cx_code.specs.declared.instr.Making.TheVariants as making
use Rattle.cx_code.specs.declared.instr.Part.{Part}
use Rattle.cx_code.specs.declared.instr.Part.TheVariants as part
use Rattle.cx_code.specs.declared.instr.Access.{Access}
use Rattle.cx_code.specs.declared.instr.Access.TheVariants as access
use Rattle.cx_code.specs.declared.instr.Pointing.{Pointing}
use Rattle.cx_code.specs.declared.instr.Pointing.TheVariants as pointing
use Rattle.cx_code.specs.declared.instr.Called.{Called}
use Rattle.cx_code.specs.declared.instr.Called.TheVariants as called
use Rattle.cx_code.specs.declared.instr.Instr.{Instr}
use Rattle.cx_code.specs.declared.instr.Instr.TheVariants as i

-- the kinds of the operands, the one on top first, and the names and kinds of the call's locals, newest first
pub record Shape : Type 0 where
  pub kinds : List CellKind
  pub locals : List (Root × CellKind)

-- operands of these kinds are taken, and of those are given
pub record Trades (taken given : List CellKind) (x y : Shape) : Type 0 where
  pub rest : List CellKind
  pub is_taken : x.kinds ≡ taken ++ rest
  pub is_given : y.kinds ≡ given ++ rest
  pub same_locals : y.locals ≡ x.locals

abbrev pub number_kind : IntType → CellKind
number_kind ty = cell.Value (kind.Int ty)

abbrev pub class_place : ClassId → CellKind
class_place c = cell.Place (kind.Class c)

abbrev pub pointer_to : TypeId → CellKind
pointer_to ty = cell.Value (kind.Pointer ty)

abbrev pub kinds_of : Option CellKind → List CellKind
kinds_of None = []
kinds_of (Some k) = k ∷ []

abbrev pub local_kind : List (Root × CellKind) → Root → Option CellKind
local_kind ls r = option_map (λ l. l.1) (find (λ (l : Root × CellKind). same_root l.0 r) ls)

-- what a value may be of, references aside ([basic.types.general])
abbrev pub IsScalar : TypeKind → Type 0
IsScalar kind.Nullptr = Unit {0}
IsScalar (kind.Int ty) = Unit {0}
IsScalar (kind.Enum e) = Unit {0}
IsScalar (kind.Pointer to) = Unit {0}
IsScalar _ = ⊥

-- what has a null value
abbrev pub IsNullable : TypeKind → Type 0
IsNullable kind.Nullptr = Unit {0}
IsNullable (kind.Pointer to) = Unit {0}
IsNullable _ = ⊥

abbrev pub IsPlace : CellKind → Type 0
IsPlace (cell.Value k) = ⊥
IsPlace _ = Unit {0}

-- the type has this kind
abbrev pub HasKind : Tables → TypeId → TypeKind → Type 0
HasKind t ty k = (row : TypeRow) × (slice_get t.rows ty.0 ≡ Some row) × (row.kind ≡ k)

-- the type is complete, so that an object of it may be made
pub record MayMake (t : Tables) (ty : TypeId) : Type 0 where
  pub cells : ℕ
  pub is_complete : asked cells_of t (OfType ty) ≡ Some cells

-- an array of elements of the type, that has an element at that index, or ends there
abbrev pub HasElement : CellKind → ℕ → TypeId → Type 0
HasElement (cell.Place (kind.Array of n)) at ty = (of ≡ ty) × (at ≤ n)
HasElement (cell.Array of) at ty = (of ≡ ty) × (at ≡ 0)
HasElement _ at ty = ⊥

-- a value of the first is one of the second
pub data Retypes (t : Tables) : TypeKind → TypeKind → Type 0 where
  Qualified : (a b : TypeKind) → Alike t a b → Retypes t a b
  ToVoid : (from to : TypeId) → HasKind t to kind.Void → Retypes t (kind.Pointer from) (kind.Pointer to)
  OfNull : (to : TypeId) → Retypes t kind.Nullptr (kind.Pointer to)

abbrev pub Pushes : Tables → Constant → Shape → Shape → Type 0
Pushes t (constant.Number a) x y = Trades [] (number_kind a.ty ∷ []) x y
Pushes t (constant.Null k) x y = IsNullable k × IsKnown t k × Trades [] (cell.Value k ∷ []) x y
Pushes t constant.Evaluated x y = Trades [] (number_kind type.Bool ∷ []) x y

abbrev pub Shuffles : Shuffle → Shape → Shape → Type 0
Shuffles shuffle.Pop x y = (k : CellKind) × Trades (k ∷ []) [] x y
Shuffles (shuffle.Copy n) x y = (k : CellKind) × (slice_get x.kinds n ≡ Some k) × Trades [] (k ∷ []) x y
Shuffles shuffle.Swap x y = (k : CellKind) × (l : CellKind) × Trades (k ∷ l ∷ []) (l ∷ k ∷ []) x y

abbrev pub Names : Tables → Name → Shape → Shape → Type 0
Names t (name.Local r) x y = (k : CellKind) × (local_kind x.locals r ≡ Some k) × Trades [] (k ∷ []) x y
Names t (name.Outside r k) x y = IsKnown t k × Trades [] (cell.Place k ∷ []) x y
Names t (name.Result k) x y = IsKnown t k × Trades [] (cell.Place k ∷ []) x y
Names t (name.Bind r) x y = (k : CellKind) × IsPlace k × (x.kinds ≡ k ∷ y.kinds) × (y.locals ≡ (r, k) ∷ x.locals)
Names t (name.End r) x y = (k : CellKind) × (y.kinds ≡ x.kinds) × (x.locals ≡ (r, k) ∷ y.locals)

abbrev pub Makes : Tables → Making → Shape → Shape → Type 0
Makes t (making.Object ty how konst) x y = MayMake t ty × (k : TypeKind) × HasKind t ty k × Trades [] (cell.Place k ∷ []) x y
Makes t (making.One ty) x y = MayMake t ty × (k : TypeKind) × HasKind t ty k × Trades [] (cell.Place k ∷ []) x y
Makes t (making.Many ty least) x y = MayMake t ty × (n : IntType) × Trades (number_kind n ∷ []) (cell.Array ty ∷ []) x y
Makes t making.Release x y = (k : CellKind) × IsPlace k × Trades (k ∷ []) [] x y
Makes t (making.Deletable many base) x y = (k : CellKind) × IsPlace k × Trades (k ∷ []) (k ∷ []) x y
Makes t making.Free x y = (k : CellKind) × IsPlace k × Trades (k ∷ []) [] x y

abbrev pub Parts : Tables → Part → Shape → Shape → Type 0
Parts t (part.Field n) x y = (c : ClassId) × (f : Field) × (k : TypeKind) × (field_of t c n ≡ Some f) × HasKind t f.ty k × Trades (class_place c ∷ []) (cell.Place k ∷ []) x y
Parts t (part.Base n) x y = (c : ClassId) × (b : ClassId) × (base_of t c n ≡ Some b) × Trades (class_place c ∷ []) (class_place b ∷ []) x y
Parts t (part.Element n) x y = (a : CellKind) × (ty : TypeId) × (k : TypeKind) × HasElement a n ty × HasKind t ty k × Trades (a ∷ []) (cell.Place k ∷ []) x y
Parts t part.Index x y = (a : CellKind) × (n : IntType) × (ty : TypeId) × (k : TypeKind) × HasElement a 0 ty × HasKind t ty k × Trades (number_kind n ∷ a ∷ []) (cell.Place k ∷ []) x y
Parts t part.Length x y = (a : CellKind) × (ty : TypeId) × HasElement a 0 ty × Trades (a ∷ []) (number_kind type.ULong ∷ []) x y
Parts t (part.Outer d) x y = (c : ClassId) × IsKnown t (kind.Class d) × Trades (class_place c ∷ []) (class_place d ∷ []) x y
Parts t part.Which x y = (c : ClassId) × Trades (class_place c ∷ []) (number_kind type.Long ∷ []) x y
Parts t part.Callable x y = (c : ClassId) × Trades (class_place c ∷ []) (class_place c ∷ []) x y

abbrev pub Accesses : Tables → Access → Shape → Shape → Type 0
Accesses t access.Load x y = (k : TypeKind) × IsScalar k × Trades (cell.Place k ∷ []) (cell.Value k ∷ []) x y
Accesses t access.LoadReference x y = (to : TypeId) × (k : TypeKind) × HasKind t to k × Trades (cell.Place (kind.Reference to) ∷ []) (cell.Place k ∷ []) x y
Accesses t access.Init x y = (k : TypeKind) × IsScalar k × Trades (cell.Place k ∷ cell.Value k ∷ []) (cell.Place k ∷ []) x y
Accesses t access.InitReference x y = (to : TypeId) × (k : TypeKind) × HasKind t to k × Trades (cell.Place (kind.Reference to) ∷ cell.Place k ∷ []) (cell.Place (kind.Reference to) ∷ []) x y
Accesses t access.Store x y = (k : TypeKind) × IsScalar k × Trades (cell.Place k ∷ cell.Value k ∷ []) (cell.Place k ∷ []) x y
Accesses t (access.Advance to) x y = (c : ClassId) × Trades (class_place c ∷ []) (class_place c ∷ []) x y
Accesses t (access.Activate n alive) x y = (c : ClassId) × (f : Field) × (field_of t c n ≡ Some f) × Trades (class_place c ∷ []) (class_place c ∷ []) x y
Accesses t access.Deactivate x y = (c : ClassId) × Trades (class_place c ∷ []) (class_place c ∷ []) x y

abbrev pub Points : Tables → Pointing → Shape → Shape → Type 0
Points t (pointing.Address to) x y = (k : TypeKind) × HasKind t to k × Trades (cell.Place k ∷ []) (pointer_to to ∷ []) x y
Points t pointing.Indirect x y = (to : TypeId) × (k : TypeKind) × HasKind t to k × Trades (pointer_to to ∷ []) (cell.Place k ∷ []) x y
Points t (pointing.Move minus) x y = (to : TypeId) × (n : IntType) × Trades (number_kind n ∷ pointer_to to ∷ []) (pointer_to to ∷ []) x y
Points t pointing.Distance x y = (to : TypeId) × Trades (pointer_to to ∷ pointer_to to ∷ []) (number_kind type.Long ∷ []) x y
Points t pointing.Equal x y = (to : TypeId) × Trades (pointer_to to ∷ pointer_to to ∷ []) (number_kind type.Bool ∷ []) x y
Points t pointing.Less x y = (to : TypeId) × Trades (pointer_to to ∷ pointer_to to ∷ []) (number_kind type.Bool ∷ []) x y
Points t (pointing.Retype k) x y = (j : TypeKind) × Retypes t j k × Trades (cell.Value j ∷ []) (cell.Value k ∷ []) x y

-- the object of a virtual call is a place of the class that has the slot
abbrev pub IsCalled : Tables → Called → List CellKind → Type 0
IsCalled t (called.Slot c k) (a ∷ rest) = (a ≡ class_place c) × (f : FuncId) × (overrider t c k ≡ Some f)
IsCalled t (called.Slot c k) [] = ⊥
IsCalled t _ rest = Unit {0}

-- One instruction, of a code with this result: from the shape before it to the one after it.
abbrev pub Fits : Tables → Option CellKind → Instr → Shape → Shape → Type 0
Fits t result (i.Push c) x y = Pushes t c x y
Fits t result (i.Shuffle s) x y = Shuffles s x y
Fits t result (i.Name m) x y = Names t m x y
Fits t result (i.Make m) x y = Makes t m x y
Fits t result (i.Part p) x y = Parts t p x y
Fits t result (i.Access a) x y = Accesses t a x y
Fits t result (i.Pointing p) x y = Points t p x y
Fits t result (i.Strict o) x y = (ts : List IntType) × (ty : IntType) × (given_type o ts ≡ Some ty) × Trades (reverse (map number_kind ts)) (number_kind ty ∷ []) x y
Fits t result (i.ToEnum e) x y = (n : IntType) × (under : IntType) × (under_at t e ≡ Some under) × Trades (number_kind n ∷ []) (cell.Value (kind.Enum e) ∷ []) x y
Fits t result i.Count x y = y ≡ x
Fits t result (i.Break r) x y = y ≡ x
Fits t result (i.Go to) x y = y ≡ x
Fits t result (i.Unless to) x y = (n : IntType) × Trades (number_kind n ∷ []) [] x y
Fits t result (i.Turn to) x y = y ≡ x
Fits t result (i.Call c) x y = IsCalled t c.to c.parameters × Trades (reverse c.parameters) (kinds_of c.result) x y
Fits t result i.Return x y = (k : CellKind) × (result ≡ Some k) × Trades (k ∷ []) [] x y
Fits t result i.Leave x y = (result ≡ None) × (y ≡ x)
