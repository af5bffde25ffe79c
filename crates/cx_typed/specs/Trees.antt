-- Typed expressions as plain data ([expr]), with T for their types: numbers in the tables, or what is said of them.
-- A chain of operations is a tree of operations with two operands each.
use Rattle.std.specs.Prelude.{ℕ, Bool, List, Option}
use Rattle.cx_base.specs.declared.diag.Span.{Span}
use Rattle.cx_ints.specs.declared.int.Int.{Int}
use Rattle.cx_type_defs.specs.declared.ids.VarId.{VarId}
use Rattle.cx_type_defs.specs.Same.{Form}
use Rattle.cx_ops.specs.declared.StrictOp.{StrictOp}
use Rattle.cx_typed.specs.declared.exprs.ChainOp.{ChainOp}

-- what each node has
pub record Note (T : Type 0) : Type 0 where
  pub ty : T
  pub lvalue : Bool
  pub span : Span

pub data Tx (T : Type 0) : Type 0 where
  Constant : Int → Note T → Tx T
  Variable : VarId → Note T → Tx T
  Load : Tx T → Note T → Tx T
  Unary : StrictOp → Tx T → Note T → Tx T
  Binary : ChainOp → Tx T → Tx T → Note T → Tx T
  Conditional : Tx T → Tx T → Tx T → Note T → Tx T

abbrev pub note_of : {T : Type 0} → Tx T → Note T
note_of (Constant a i) = i
note_of (Variable v i) = i
note_of (Load x i) = i
note_of (Unary o x i) = i
note_of (Binary o x y i) = i
note_of (Conditional c x y i) = i

-- the same with other types

abbrev pub note_with : {T U : Type 0} → (T → U) → Note T → Note U
note_with f i = record { ty = f i.ty; lvalue = i.lvalue; span = i.span }

abbrev pub with_types : {T U : Type 0} → (T → U) → Tx T → Tx U
with_types f (Constant a i) = Constant a (note_with f i)
with_types f (Variable v i) = Variable v (note_with f i)
with_types f (Load x i) = Load (with_types f x) (note_with f i)
with_types f (Unary o x i) = Unary o (with_types f x) (note_with f i)
with_types f (Binary o x y i) = Binary o (with_types f x) (with_types f y) (note_with f i)
with_types f (Conditional c x y i) = Conditional (with_types f c) (with_types f x) (with_types f y) (note_with f i)

-- the type of each node is so
abbrev pub AllTypes : {T : Type 0} → (T → Type 0) → Tx T → Type 0
AllTypes P (Constant a i) = P i.ty
AllTypes P (Variable v i) = P i.ty
AllTypes P (Load x i) = AllTypes P x × P i.ty
AllTypes P (Unary o x i) = AllTypes P x × P i.ty
AllTypes P (Binary o x y i) = AllTypes P x × AllTypes P y × P i.ty
AllTypes P (Conditional c x y i) = AllTypes P c × AllTypes P x × AllTypes P y × P i.ty

-- a variable: its qualified name, its type, where it is declared, and what it is initialized from, once that is known
pub record Var : Type 0 where
  pub name : List ℕ
  pub ty : Form
  pub at : Span
  pub is_constexpr : Bool
  pub init : Option (Tx Form)

-- what is judged: an expression, or the initialization of a variable
pub data Body : Type 0 where
  OfExpr : Tx Form → Body
  OfVariable : VarId → Body

-- with its place in the text
pub record FullTree : Type 0 where
  pub body : Body
  pub span : Span
