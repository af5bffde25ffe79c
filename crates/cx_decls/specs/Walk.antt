-- The declarations of a unit, one after another, and its verdict ([dcl.dcl], [dcl.pre]).
use Rattle.std.specs.Prelude.{ℕ, codes, Bool, List, [], ◌∷◌, map}
use Rattle.cx_base.specs.declared.diag.Span.{Span}
use Rattle.cx_base.specs.declared.int_type.IntType.TheVariants as type
use Rattle.cx_base.specs.declared.limits.Limits.{Limits}
use Rattle.cx_base.specs.declared.rule.Rule.TheVariants as rule
use Rattle.cx_ints.specs.Conversions.{is_zero}
use Rattle.cx_plain.specs.DeclarationViews as plain
use Rattle.cx_plain.specs.Declarations as d
use Rattle.cx_plain.specs.Declarations.{Assertion, Declaration}
use Rattle.cx_plain.specs.Expressions.{Expression}
use Rattle.cx_plain.specs.Spans.{span_of}
use Rattle.cx_scopes.specs.Scopes.{no_scopes}
use Rattle.cx_state.specs.declared.root.JudgeMode.TheVariants as mode
use Rattle.cx_tree.specs.declared.decls.Unit.{Unit as Tree}
use Rattle.cx_typed.specs.declared.judge.Outcome.{Outcome}
use Rattle.cx_typed.specs.declared.judge.Outcome.TheVariants as outcome
use Rattle.cx_typed.specs.declared.judge.Value.{Value}
use Rattle.cx_typed.specs.declared.judge.Value.TheVariants as value
use Rattle.cx_typed.specs.declared.lines.LineKind.TheVariants as line_kind
use Rattle.cx_typed.specs.declared.lines.Verdict.{Verdict}
use Rattle.cx_typed.specs.declared.lines.Verdict.TheVariants.{Accepted, Refused}
use Rattle.cx_typed.specs.Trees.{OfExpr}
use Rattle.cx_exprs.specs.Declaring.{with_line}
use Rattle.cx_exprs.specs.Expressions.{typed}
use Rattle.cx_exprs.specs.Parts.{as_value}
use Rattle.cx_exprs.specs.Typing.{Alternative, Typed, Good, Fault, World, and_then, broken, judging, node}
use Rattle.cx_decls.specs.Variables.{variables}

-- ---- static_assert ([dcl.pre])

-- the condition as a bool, and its outcome
abbrev pub condition : Expression → World → Typed Outcome
condition a w = and_then (typed a w) (λ x u. judging mode.Constant (record { body = OfExpr (as_value type.Bool x); span = span_of a }) u)

abbrev pub is_false : Value → Bool
is_false (value.Int a) = is_zero a.value

abbrev pub holds : Value → Alternative (Unit {0})
holds x = record { tests = (is_false x, rule.AssertFailed) ∷ []; form = tt }

-- a line has no name of a variable here
abbrev pub no_name : List ℕ
no_name = codes "-"

abbrev pub asserted : Span → Outcome → World → Typed (Unit {0})
asserted at (outcome.Violation v) w = Fault v
asserted at (outcome.Value x) w = and_then (node at (holds x) w) (λ _ u. Good tt (with_line line_kind.Assert at.start no_name x u))

abbrev pub assertion : Assertion → World → Typed (Unit {0})
assertion a w = and_then (condition a.condition w) (asserted (span_of a.condition))

-- ---- declarations

abbrev pub declaration : Declaration → World → Typed (Unit {0})
declaration (d.Empty at) w = Good tt w
declaration (d.Assert a at) w = assertion a w
declaration (d.Variables s ds at) w = variables s ds at w
declaration (d.Other at) w = broken rule.LeftOutForm at

-- one after another, until a rule is broken
abbrev pub walked : List Declaration → World → Typed (Unit {0})
walked [] w = Good tt w
walked (x ∷ xs) w = and_then (declaration x w) (λ _ u. walked xs u)

-- ---- units

-- nothing is declared yet
abbrev pub first_world : Limits → World
first_world limits = record { names = no_scopes; variables = []; kept = []; limits = limits; lines = [] }

-- the lines, or the first fault
abbrev pub told_by : Typed (Unit {0}) → Verdict
told_by (Good u w) = Accepted w.lines
told_by (Fault v) = Refused v

abbrev pub verdict : Limits → List Declaration → Verdict
verdict limits ds = told_by (walked ds (first_world limits))

-- what the tree of a unit gives
abbrev pub verdict_of : Limits → Tree → Verdict
verdict_of limits tree = verdict limits (map plain.declaration tree.decls)
