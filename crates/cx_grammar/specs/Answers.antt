-- What a parse answers about a whole list of tokens.
use Rattle.std.specs.Prelude.{◌≡◌, ℕ, Bool, List, [], ◌∷◌, ◌++◌, length, Result, Ok, Err, ◌⊎◌}
use Rattle.cx_base.specs.declared.rule.Rule.{Rule}
use Rattle.cx_base.specs.declared.rule.Rule.TheVariants.{Syntax, Nesting}
use Rattle.cx_grammar.specs.declared.stop.ParseStop.{ParseStop}
use Rattle.cx_grammar.specs.declared.stop.ParseStop.TheVariants.{Fault}
use Rattle.cx_grammar.specs.Exact.{Family, done, stop, Exact}

-- The tokens spell this value within so many levels, and no other at any number of levels.
pub record Spelled {T A : Type 0} (L : Family T A) (levels : ℕ) (ts : List T) (value : A) : Type 0 where
  pub spelled : (L levels).spells ts value
  pub alone : (n : ℕ) (other : A) → (L n).spells ts other → other ≡ value

-- With the token at the fault the tokens are a front of no spelling, at any number of levels or within so many alone.
abbrev pub Refused : {T A : Type 0} → Family T A → ℕ → Rule → List T → Type 0
Refused L levels rule upto = ((rule ≡ Syntax) × ((n : ℕ) → (L n).begins upto → ⊥)) ⊎ ((rule ≡ Nesting) × ((L levels).begins upto → ⊥) × ((n : ℕ) × (L n).begins upto))

-- The first token with which the tokens are the front of no spelling has so many tokens from it on.
pub record FaultAt {T A : Type 0} (L : Family T A) (levels : ℕ) (ts : List T) (rule : Rule) (left : ℕ) : Type 0 where
  pub before : List T
  pub rest : List T
  pub cut : ts ≡ before ++ rest
  pub size : length rest ≡ left
  pub begun : (x y : List T) → before ≡ x ++ y → (L levels).begins x
  pub fault : (t : T) (after : List T) → rest ≡ t ∷ after → Refused L levels rule (before ++ t ∷ [])
  pub none : (value : A) → (L levels).spells ts value → ⊥

-- A value or a fault of the whole list; `Memory` says nothing of the tokens.
abbrev pub Answers : {T A : Type 0} → Family T A → ℕ → List T → Result A ParseStop → Type 0
Answers L levels ts (Ok value) = Spelled L levels ts value
Answers L levels ts (Err e) = (rule : Rule) (left : ℕ) → e ≡ Fault rule left → FaultAt L levels ts rule left

-- A value of a front of the list, the rest of which is left, or a fault.
abbrev pub Begins : {T A : Type 0} → Family T A → (A → T → Bool) → ℕ → List T → Result A ParseStop → List T → Type 0
Begins L go levels old (Ok value) new = Exact L go levels old (done value new)
Begins L go levels old (Err e) new = (rule : Rule) (left : ℕ) → e ≡ Fault rule left → Exact L go levels old (stop rule left)
