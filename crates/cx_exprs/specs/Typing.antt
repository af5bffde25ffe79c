-- What typing gives, and how its steps follow one another.
use Rattle.std.specs.Prelude.{Bool, List, [], ◌∷◌, Option, None, Some, Result, Ok, Err, if◌then◌else◌}
use Rattle.cx_base.specs.declared.diag.Diag.{Diag}
use Rattle.cx_base.specs.declared.diag.Span.{Span}
use Rattle.cx_base.specs.declared.limits.Limits.{Limits}
use Rattle.cx_base.specs.declared.rule.Rule.{Rule}
use Rattle.cx_state.specs.declared.root.JudgeMode.{JudgeMode}
use Rattle.cx_scopes.specs.Scopes.{ScopeTables}
use Rattle.cx_typed.specs.declared.judge.Outcome.{Outcome}
use Rattle.cx_typed.specs.declared.lines.Line.{Line}
use Rattle.cx_typed.specs.Trees.{Var, FullTree}
use Rattle.cx_typed.specs.Judging.{Kept, judged}

-- what is known where typing has come to; no number of a type stands in what is said of the variables
pub record World : Type 0 where
  pub names : ScopeTables
  pub variables : List Var
  pub kept : Kept
  pub limits : Limits
  pub lines : List Line

-- a form and the world after it, or the first fault
pub data Typed (A : Type 0) : Type 0 where
  Good : A → World → Typed A
  Fault : Diag → Typed A

abbrev pub broken : {A : Type 0} → Rule → Span → Typed A
broken r at = Fault (record { span = at; rule = r; frames = [] })

abbrev pub and_then : {A B : Type 0} → Typed A → (A → World → Typed B) → Typed B
and_then (Good a w) go = go a w
and_then (Fault d) go = Fault d

-- One alternative: tests, each with its rule, in the order in which the rules are told; and the form where none holds.
pub record Alternative (A : Type 0) : Type 0 where
  pub tests : List (Bool × Rule)
  pub form : A

abbrev pub first_rule : List (Bool × Rule) → Option Rule
first_rule [] = None
first_rule (t ∷ ts) = if t.0 then Some t.1 else first_rule ts

abbrev pub told : {A : Type 0} → Option Rule → Span → A → World → Typed A
told None at a w = Good a w
told (Some r) at a w = broken r at

-- an alternative at a place of the text
abbrev pub node : {A : Type 0} → Span → Alternative A → World → Typed A
node at alt w = told (first_rule alt.tests) at alt.form w

-- what was found, or the rule that its lack breaks
abbrev pub found_at : {A : Type 0} → Span → Result A Rule → World → Typed A
found_at at (Ok a) w = Good a w
found_at at (Err r) w = broken r at

-- ---- judgements where typing has come to

abbrev pub with_kept : Kept → World → World
with_kept k w = record w { kept = k }

-- the outcome, and the world with what the judge keeps then
abbrev pub judging : JudgeMode → FullTree → World → Typed Outcome
judging md f w = Good (judged w.variables w.limits w.kept f md).0 (with_kept (judged w.variables w.limits w.kept f md).1 w)
