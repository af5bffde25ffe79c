-- How the judge evaluates, beside what expressions mean.
use Rattle.std.specs.Prelude.{◌≡◌, ℕ, ◌<◌, Bool, true, false, not, List, [], ◌∷◌, length, map, Option, None, Some, Result, Ok, Err, unwrap_or, nat_lt, nat_le, ◌==◌, if◌then◌else◌}
use Rattle.cx_base.specs.declared.diag.Span.{Span}
use Rattle.cx_base.specs.declared.rule.Rule.{Rule}
use Rattle.cx_base.specs.declared.rule.Rule.TheVariants as rule
use Rattle.cx_base.specs.declared.limits.Limits.{Limits}
use Rattle.cx_ints.specs.declared.int.Int.{Int}
use Rattle.cx_ints.specs.Conversions.{convert, is_zero}
use Rattle.cx_type_defs.specs.declared.ids.VarId.{VarId}
use Rattle.cx_type_defs.specs.declared.ids.TypeId.{TypeId}
use Rattle.cx_type_defs.specs.Same.{form_of}
use Rattle.cx_state.specs.declared.kind.Scalar.{Scalar}
use Rattle.cx_state.specs.declared.kind.Scalar.TheVariants as scalar
use Rattle.cx_state.specs.declared.root.Root.TheVariants as root
use Rattle.cx_state.specs.Objects.{Path}
use Rattle.cx_state.specs.States.{State, Out, Value, Violation, Stuck, then_do, step, bound}
use Rattle.cx_ops.specs.declared.StrictOp.{StrictOp}
use Rattle.cx_ops.specs.declared.StrictOp.TheVariants as op
use Rattle.cx_ops.specs.Strict.{given}
use Rattle.cx_typed.specs.declared.exprs.ChainOp.{ChainOp}
use Rattle.cx_typed.specs.declared.exprs.ChainOp.TheVariants as chain
use Rattle.cx_typed.specs.declared.exprs.Conversion.{Conversion}
use Rattle.cx_typed.specs.declared.exprs.TExpr.{TExpr}
use Rattle.cx_typed.specs.declared.exprs.TPart.{TPart}
use Rattle.cx_typed.specs.declared.exprs.TStep.{TStep}
use Rattle.cx_typed.specs.declared.judge.Outcome.{Outcome}
use Rattle.cx_typed.specs.declared.judge.Outcome.TheVariants as outcome
use Rattle.cx_typed.specs.declared.judge.Value.TheVariants as value
use Rattle.cx_typed.specs.Programs.{Rows}
use Rattle.cx_state.specs.declared.root.JudgeMode.{JudgeMode}
use Rattle.cx_typed.specs.Trees.{Note, OfExpr, OfVariable, FullTree, with_types}
use Rattle.cx_typed.specs.Shown.{Joined, plain_part, plain_step, shown, vars_shown}
use Rattle.cx_typed.specs.Meaning as meaning
use Rattle.cx_typed.specs.Meaning.{Given, Prvalue, Lvalue, whole, operate, eval}
use Rattle.cx_typed.specs.Judging.{Kept, KeptFit, tables_of, violated, outcome_of, evaluated}
use Rattle.cx_typed.specs.Bodies.{began, reads, IsIntVar}
use Rattle.cx_thin_judge.specs.declared.steps.Seen.{Seen}
use Rattle.cx_thin_judge.specs.declared.steps.Seen.TheVariants.{Number, Place}
use Rattle.cx_thin_judge.specs.declared.steps.Stop.{Stop}
use Rattle.cx_thin_judge.specs.declared.steps.Stop.TheVariants as stop
use Rattle.cx_thin_judge.specs.declared.steps.Broken.{Broken}
use Rattle.cx_thin_judge.specs.declared.steps.Opening.{Opening}
use Rattle.cx_thin_judge.specs.declared.steps.Opening.TheVariants as opening

-- ---- steps

abbrev pub seen_of : Option (Result Int Rule) → Span → Result Seen Stop
seen_of None at = Err stop.Stuck
seen_of (Some (Ok a)) at = Ok (Number a)
seen_of (Some (Err r)) at = Err (stop.Broken r at)

abbrev pub operated : StrictOp → Seen → Span → Result Seen Stop
operated o (Number a) at = seen_of (given o (a ∷ [])) at
operated o (Place v) at = Err stop.Stuck

abbrev pub truth_of : Seen → Option Bool
truth_of (Number a) = Some (not (is_zero a.value))
truth_of (Place v) = None

abbrev pub converted : Seen → Option Conversion → Option Seen
converted left None = Some left
converted (Number a) (Some c) = Some (Number (convert a c.to))
converted (Place v) (Some c) = None

abbrev pub same : Bool → Bool → Bool
same true b = b
same false b = not b

abbrev pub shortened : Seen → Bool → Option Bool → Opening
shortened left ends None = opening.Stuck
shortened left ends (Some b) = if same b ends then opening.Whole left else opening.Right left

abbrev pub opened : Option Seen → ChainOp → Opening
opened None o = opening.Stuck
opened (Some left) (chain.Strict o) = opening.Right left
opened (Some left) chain.And = shortened left false (truth_of left)
opened (Some left) chain.Or = shortened left true (truth_of left)
opened (Some left) chain.Comma = opening.Right left

abbrev pub joined : StrictOp → Seen → Seen → Span → Result Seen Stop
joined o (Number a) (Number b) at = seen_of (given o (a ∷ b ∷ [])) at
joined o _ _ at = Err stop.Stuck

abbrev pub closed : ChainOp → Seen → Seen → Span → Result Seen Stop
closed (chain.Strict o) left right at = joined o left right at
closed _ left right at = Ok right

-- ---- what the judge holds, and where it evaluates

pub record Holding : Type 0 where
  pub kept : Kept
  pub limits : Limits

-- what is kept is of the program, and the judged variable, if one is judged, has an integer type
pub record MayEval (h : Holding) (p : Rows) (o : Option VarId) : Type 0 where
  pub fits : KeptFit (vars_shown p) h.kept
  pub judged : IsIntVar (vars_shown p) o

abbrev pub state : Holding → Rows → Option VarId → State
state h p o = began (vars_shown p) h.limits h.kept o

abbrev pub given_of : State → Seen → Given
given_of s (Number a) = Prvalue (scalar.Int a)
given_of s (Place v) = Lvalue (whole (unwrap_or (bound s.memory.bindings (root.Variable v)) 0))

-- the variable is one of the program
abbrev pub InRange : Rows → Seen → Type 0
InRange p (Number a) = Unit {0}
InRange p (Place v) = v.0 < length p.variables

pub record IsThere (p : Rows) (s : Seen) : Type 0 where
  pub in_range : InRange p s

-- the answer is what the meaning gives
unfoldable pub Meets : Holding → Rows → Option VarId → Out Given → Result Seen Stop → Type 0
Meets h p o g (Ok s) = (g ≡ Value (given_of (state h p o) s) (state h p o)) × IsThere p s
Meets h p o g (Err (stop.Broken r at)) = g ≡ Violation r at (state h p o)
Meets h p o g (Err stop.Stuck) = g ≡ Stuck

-- ---- what the meaning gives there

-- of an expression
unfoldable pub gives : Holding → Rows → Option VarId → TExpr → Out Given
gives h p o e = eval (tables_of (vars_shown p)) (shown p.types e) (state h p o)

abbrev pub nowhere : Span
nowhere = record { start = record { byte = 0; line = 0; col = 0 }; end = record { byte = 0; line = 0; col = 0 } }

-- of a conversion, which breaks no rule wherever it stands
abbrev pub converting : Option Conversion → Out Given → Out Given
converting None g = g
converting (Some c) g = then_do g (λ a u. step nowhere (operate (op.Convert c.to) (a ∷ [])) u)

abbrev pub joining : Rows → Out Given → Joined → Span → Out Given
joining p g j at = then_do (converting j.left g) (λ a u. meaning.joined j.op a at (eval (tables_of (vars_shown p)) (with_types (form_of true p.types) j.operand)) u)

abbrev pub chaining : Rows → Out Given → List (Joined × Note TypeId) → Out Given
chaining p g [] = g
chaining p g (s ∷ ss) = chaining p (joining p g s.0 s.1.span) ss

-- of an operation behind its left operand
unfoldable pub joins : Holding → Rows → Option VarId → Seen → TPart → Span → Out Given
joins h p o left part at = joining p (Value (given_of (state h p o) left) (state h p o)) (plain_part part) at

-- of operations behind their first operand, from left to right
unfoldable pub chains : Holding → Rows → Option VarId → Seen → List TStep → Out Given
chains h p o left ss = chaining p (Value (given_of (state h p o) left) (state h p o)) (map plain_step ss)

-- ---- reading

abbrev pub read_answer : Result Int Rule → Result (Scalar Path) Rule
read_answer (Ok a) = Ok (scalar.Int a)
read_answer (Err r) = Err r

abbrev pub read_seen : Result (Scalar Path) Rule → Span → Result Seen Stop
read_seen (Ok (scalar.Int a)) at = Ok (Number a)
read_seen (Ok _) at = Err stop.Stuck
read_seen (Err r) at = Err (stop.Broken r at)

abbrev pub loaded : Kept → Option VarId → Seen → Span → Result Seen Stop
loaded ks o (Number a) at = Err stop.Stuck
loaded ks o (Place v) at = read_seen (reads ks o v) at

abbrev pub placed : Rows → VarId → Result Seen Stop
placed p v = if nat_lt v.0 (length p.variables) then Ok (Place v) else Err stop.Stuck

-- ---- judging

-- what a judgement finds: a number, or the rule that is broken and where
abbrev pub answered : Result Int Broken → Outcome
answered (Ok a) = outcome.Value (value.Int a)
answered (Err b) = violated b.rule b.span []

abbrev pub broken : Rule → Span → Broken
broken r at = record { rule = r; span = at }

-- of a full-expression at its place, by what evaluating it gives
abbrev pub number_of : Result Seen Stop → Span → Result Int Broken
number_of (Ok (Number a)) at = Ok a
number_of (Ok (Place v)) at = Err (broken rule.LeftOutForm at)
number_of (Err (stop.Broken r w)) at = Err (broken r w)
number_of (Err stop.Stuck) at = Err (broken rule.LeftOutForm at)

-- the limit that one object more would pass
abbrev pub passed : Limits → ℕ → Option Rule
passed l kept = if l.objects == 0 then Some rule.LimitObjects else (if nat_le l.cells kept then Some rule.LimitCells else None)

-- the outcome by the definition
unfoldable pub told : Holding → Rows → JudgeMode → FullTree → Outcome
told h p md f = outcome_of f.span (evaluated (vars_shown p) h.limits h.kept f md)

abbrev pub of_expr : Rows → TExpr → Span → FullTree
of_expr p e at = record { body = OfExpr (shown p.types e); span = at }

abbrev pub of_var : VarId → Span → FullTree
of_var v at = record { body = OfVariable v; span = at }

-- a full-expression is counted, and evaluated where the count may rise
abbrev pub BegunIf : Bool → Holding → Rows → Option VarId → TExpr → Span → Result Int Broken → Type 0
BegunIf true h p o e at r = r ≡ Err (broken rule.LimitExprs at)
BegunIf false h p o e at r = (x : Result Seen Stop) × Meets h p o (gives h p o e) x × (r ≡ number_of x at)

pub record Begun (h : Holding) (p : Rows) (o : Option VarId) (e : TExpr) (at : Span) (r : Result Int Broken) : Type 0 where
  pub is : BegunIf (h.limits.exprs == 0) h p o e at r
