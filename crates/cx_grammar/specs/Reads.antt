-- What a function that reads ensures.
use Rattle.std.specs.Prelude.{◌≡◌, ℕ, List, [], ◌∷◌, Option, Some, None, Result, Ok, Err}
use Rattle.cx_base.specs.declared.rule.Rule.{Rule}
use Rattle.cx_grammar.specs.declared.stop.ParseStop.{ParseStop}
use Rattle.cx_grammar.specs.declared.stop.ParseStop.TheVariants.{Fault}
use Rattle.cx_grammar.specs.Exact.{Outcome, done, stop}

abbrev pub head_of : {T : Type 0} → List T → Option T
head_of [] = None
head_of (t ∷ ts) = Some t

abbrev pub tail_of : {T : Type 0} → List T → List T
tail_of [] = []
tail_of (t ∷ ts) = ts

-- The outcome is the reader's, unless memory fails. `new` has the tokens that are left.
abbrev pub Reads : {T A : Type 0} → Outcome T A → Result A ParseStop → List T → Type 0
Reads outcome (Ok a) new = outcome ≡ done a new
Reads outcome (Err e) new = (rule : Rule) (left : ℕ) → e ≡ Fault rule left → outcome ≡ stop rule left
