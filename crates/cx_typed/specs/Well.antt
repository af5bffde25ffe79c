-- Which typed expressions are well typed: the type of each node is the one that its case gives for those inside it, and
-- what is named is there ([expr], [basic.lval]).
use Rattle.std.specs.Prelude.{◌≡◌, ◌<◌, length, true, false, List, [], ◌∷◌, Option, None, Some, slice_get, map}
use Rattle.std.specs.List.{AllByRecursion}
use Rattle.cx_base.specs.declared.int_type.IntType.{IntType}
use Rattle.cx_base.specs.declared.int_type.IntType.TheVariants as type
use Rattle.cx_ints.specs.Ranges.{Fits}
use Rattle.cx_type_defs.specs.declared.ids.VarId.{VarId}
use Rattle.cx_type_defs.specs.Same.{Form, Int, Const}
use Rattle.cx_type_defs.specs.Tables.{Along, Stays}
use Rattle.cx_ops.specs.declared.StrictOp.{StrictOp}
use Rattle.cx_ops.specs.Strict.{given_type}
use Rattle.cx_typed.specs.declared.exprs.ChainOp.{ChainOp}
use Rattle.cx_typed.specs.declared.exprs.ChainOp.TheVariants as chain
use Rattle.cx_typed.specs.Trees.{Note, Tx, Constant, Variable, Load, Unary, Binary, Conditional, note_of, Var, Body, OfExpr, OfVariable}

-- the integer type that a type is, const aside
abbrev pub int_of : Form → Option IntType
int_of (Int ty) = Some ty
int_of (Const f) = int_of f
int_of _ = None

-- a number of that type, which is no object
pub record IsNumber (ty : IntType) (i : Note Form) : Type 0 where
  pub of_type : int_of i.ty ≡ Some ty
  pub prvalue : i.lvalue ≡ false

-- of the same type, and an object where the other is one
pub record IsLike (i j : Note Form) : Type 0 where
  pub same_type : i.ty ≡ j.ty
  pub same_category : i.lvalue ≡ j.lvalue

-- the value of an object ([conv.lval])
pub record IsLoad (x i : Note Form) : Type 0 where
  pub of_object : x.lvalue ≡ true
  pub ty : IntType
  pub of_type : int_of x.ty ≡ Some ty
  pub gives : IsNumber ty i

pub record IsUnary (o : StrictOp) (x i : Note Form) : Type 0 where
  pub operand : IntType
  pub of_number : IsNumber operand x
  pub result : IntType
  pub of_type : given_type o (operand ∷ []) ≡ Some result
  pub gives : IsNumber result i

pub record IsStrict (o : StrictOp) (x y i : Note Form) : Type 0 where
  pub left : IntType
  pub of_left : IsNumber left x
  pub right : IntType
  pub of_right : IsNumber right y
  pub result : IntType
  pub of_type : given_type o (left ∷ right ∷ []) ≡ Some result
  pub gives : IsNumber result i

-- both operands and the result are bools ([expr.log.and], [expr.log.or])
pub record IsLogical (x y i : Note Form) : Type 0 where
  pub of_left : IsNumber type.Bool x
  pub of_right : IsNumber type.Bool y
  pub gives : IsNumber type.Bool i

abbrev pub IsBinary : ChainOp → Note Form → Note Form → Note Form → Type 0
IsBinary (chain.Strict o) x y i = IsStrict o x y i
IsBinary chain.And x y i = IsLogical x y i
IsBinary chain.Or x y i = IsLogical x y i
IsBinary chain.Comma x y i = IsLike i y

-- the condition is a bool, and both operands are as the whole ([expr.cond])
pub record IsConditional (c x y i : Note Form) : Type 0 where
  pub of_condition : IsNumber type.Bool c
  pub like_second : IsLike i x
  pub like_third : IsLike i y

-- well typed where the variables have these types
abbrev pub WellTyped : List Form → Tx Form → Type 0
WellTyped vs (Constant a i) = IsNumber a.ty i × Fits a.ty a.value
WellTyped vs (Variable v i) = (slice_get vs v.0 ≡ Some i.ty) × (i.lvalue ≡ true)
WellTyped vs (Load x i) = WellTyped vs x × IsLoad (note_of x) i
WellTyped vs (Unary o x i) = WellTyped vs x × IsUnary o (note_of x) i
WellTyped vs (Binary o x y i) = WellTyped vs x × WellTyped vs y × IsBinary o (note_of x) (note_of y) i
WellTyped vs (Conditional c x y i) = WellTyped vs c × WellTyped vs x × WellTyped vs y × IsConditional (note_of c) (note_of x) (note_of y) i

-- ---- programs

abbrev pub types_of : List Var → List Form
types_of vs = map (λ (v : Var). v.ty) vs

-- how a program grows: variables come behind the others, and one gets what it is initialized from
pub record VarGrows (old now : Var) : Type 0 where
  pub same_name : now.name ≡ old.name
  pub same_type : now.ty ≡ old.ty
  pub same_place : now.at ≡ old.at
  pub same_specifier : now.is_constexpr ≡ old.is_constexpr
  pub init_stays : Stays old.init now.init

pub record Grows (old now : List Var) : Type 0 where
  pub variables : Along VarGrows old now

-- a number of that type, if it is one
abbrev pub IsNumberOf : Option IntType → Note Form → Type 0
IsNumberOf None i = ⊥
IsNumberOf (Some ty) i = IsNumber ty i

-- a variable's initializer gives a number of its type
abbrev pub InitFits : List Form → IntType → Option (Tx Form) → Type 0
InitFits vs ty None = Unit {0}
InitFits vs ty (Some x) = WellTyped vs x × IsNumber ty (note_of x)

-- a variable has an integer type
pub record VarFits (vs : List Form) (v : Var) : Type 0 where
  pub ty : IntType
  pub of_type : int_of v.ty ≡ Some ty
  pub init : InitFits vs ty v.init

-- an integer type, const or not
pub record IsInteger (f : Form) : Type 0 where
  pub ty : IntType
  pub of_type : int_of f ≡ Some ty

-- the variable is there, isn't initialized yet, and may be from that
abbrev pub MayInitializeAs : List Form → Option Var → Tx Form → Type 0
MayInitializeAs vs None x = ⊥
MayInitializeAs vs (Some v) x = (v.init ≡ None) × WellTyped vs x × IsNumberOf (int_of v.ty) (note_of x)

abbrev pub MayInitialize : List Var → VarId → Tx Form → Type 0
MayInitialize vs v x = MayInitializeAs (types_of vs) (slice_get vs v.0) x

pub record AllFit (vs : List Var) : Type 0 where
  pub each : AllByRecursion (VarFits (types_of vs)) vs

-- what is judged: a number, or a variable that is there
abbrev pub BodyFits : List Var → Body → Type 0
BodyFits vs (OfExpr x) = WellTyped (types_of vs) x × ((note_of x).lvalue ≡ false)
BodyFits vs (OfVariable v) = v.0 < length vs
