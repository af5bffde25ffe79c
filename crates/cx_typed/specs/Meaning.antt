-- What typed expressions mean over the state of objects ([expr], [expr.const]).
use Rattle.std.specs.Prelude.{ℕ, Bool, true, false, not, List, [], ◌∷◌, Option, None, Some, option_map}
use Rattle.cx_base.specs.declared.diag.Span.{Span}
use Rattle.cx_ints.specs.Conversions.{is_zero}
use Rattle.cx_type_defs.specs.declared.ids.VarId.{VarId}
use Rattle.cx_type_defs.specs.Tables.{Tables}
use Rattle.cx_type_defs.specs.Same.{Form}
use Rattle.cx_state.specs.declared.kind.Scalar.{Scalar}
use Rattle.cx_state.specs.declared.kind.Scalar.TheVariants as scalar
use Rattle.cx_state.specs.declared.root.Root.TheVariants as root
use Rattle.cx_state.specs.Objects.{Path}
use Rattle.cx_state.specs.Steps as steps
use Rattle.cx_state.specs.States.{Memory, State, Setting, Out, Value, Stuck, then_do, Op, Done, Broken, Wrong, step, bound, finds, count}
use Rattle.cx_ops.specs.declared.StrictOp.{StrictOp}
use Rattle.cx_ops.specs.Strict.{strict}
use Rattle.cx_typed.specs.declared.exprs.ChainOp.{ChainOp}
use Rattle.cx_typed.specs.declared.exprs.ChainOp.TheVariants as chain
use Rattle.cx_typed.specs.Trees.{Tx, Constant, Variable, Load, Unary, Binary, Conditional}

-- what an expression gives: a value, or where something is ([basic.lval])
pub data Given : Type 0 where
  Prvalue : Scalar Path → Given
  Lvalue : Path → Given

-- ---- steps

abbrev pub whole : ℕ → Path
whole n = record { object = n; steps = []; past = false }

abbrev pub placed : Memory → Option ℕ → Op Given
placed m None = Wrong
placed m (Some n) = Done (Lvalue (whole n)) m

-- the object of a variable
abbrev pub place : VarId → Memory → Op Given
place v m = placed m (bound m.bindings (root.Variable v))

abbrev pub as_prvalue : Op (Scalar Path) → Op Given
as_prvalue (Done v m) = Done (Prvalue v) m
as_prvalue (Broken r) = Broken r
as_prvalue Wrong = Wrong

abbrev pub load : Tables → Given → Memory → Op Given
load t (Prvalue v) m = Wrong
load t (Lvalue p) m = as_prvalue (finds (λ os. steps.load t os p) m)

-- a strict operation on what its operands gave

abbrev pub with_value : Scalar Path → Option (List (Scalar Path)) → Option (List (Scalar Path))
with_value v vs = option_map (λ us. v ∷ us) vs

abbrev pub operands : List Given → Option (List (Scalar Path))
operands [] = Some []
operands (Prvalue v ∷ gs) = with_value v (operands gs)
operands (Lvalue p ∷ gs) = None

abbrev pub operate_on : StrictOp → Option (List (Scalar Path)) → Memory → Op Given
operate_on o None m = Wrong
operate_on o (Some vs) m = as_prvalue (strict o vs m)

abbrev pub operate : StrictOp → List Given → Memory → Op Given
operate o gs m = operate_on o (operands gs) m

-- what a condition is
abbrev pub truth_of : Given → Option Bool
truth_of (Prvalue (scalar.Int a)) = Some (not (is_zero a.value))
truth_of _ = None

abbrev pub decided : {A : Type 0} → Option Bool → Out A → Out A → Out A
decided None x y = Stuck
decided (Some true) x y = x
decided (Some false) x y = y

-- an operation behind its left operand
abbrev pub joined : ChainOp → Given → Span → (State → Out Given) → State → Out Given
joined (chain.Strict o) a at right s = then_do (right s) (λ b u. step at (operate o (a ∷ b ∷ [])) u)
joined chain.And a at right s = decided (truth_of a) (right s) (Value a s)
joined chain.Or a at right s = decided (truth_of a) (Value a s) (right s)
joined chain.Comma a at right s = right s

-- ---- expressions

abbrev pub eval : Tables → Tx Form → State → Out Given
eval t (Constant a i) s = Value (Prvalue (scalar.Int a)) s
eval t (Variable v i) s = step i.span (place v) s
eval t (Load x i) s = then_do (eval t x s) (λ a u. step i.span (load t a) u)
eval t (Unary o x i) s = then_do (eval t x s) (λ a u. step i.span (operate o (a ∷ [])) u)
eval t (Binary o x y i) s = then_do (eval t x s) (λ a u. joined o a i.span (eval t y) u)
eval t (Conditional c x y i) s = then_do (eval t c s) (λ a u. decided (truth_of a) (eval t x u) (eval t y u))

-- a full-expression, which counts as it begins ([intro.execution])
abbrev pub full : Setting → Tables → Tx Form → Span → State → Out Given
full g t x at s = then_do (step at (count g) s) (λ _ u. eval t x u)
