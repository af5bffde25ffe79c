-- What it is that a reader's outcome is exact for a language.
use Rattle.std.specs.Prelude.{◌≡◌, ℕ, ◌≤◌, Bool, IsTrue, List, [], ◌∷◌, ◌++◌, length, ◌⊎◌}
use Rattle.cx_base.specs.declared.rule.Rule.{Rule}
use Rattle.cx_base.specs.declared.rule.Rule.TheVariants.{Syntax, Nesting}
use Rattle.cx_grammar.specs.Language.{Language}

-- a value and the tokens after it, or a rule and how many tokens there are from the fault on
pub data Outcome (T A : Type 0) : Type 0 where
  done : A → List T → Outcome T A
  stop : Rule → ℕ → Outcome T A

-- a language at each number of levels that are left
abbrev pub Family : Type 0 → Type 0 → Type 1
Family T A = ℕ → Language T A

-- some tokens follow, and the first is one that can go on with the value
abbrev pub GoesOn : {T A : Type 0} → (A → T → Bool) → A → List T → Type 0
GoesOn go v [] = ⊥
GoesOn go v (t ∷ ts) = IsTrue (go v t)

-- the second list is a front of the first
abbrev pub Within : {T : Type 0} → List T → List T → Type 0
Within {T = T} used x = (d : List T) × (used ≡ x ++ d)

-- A spelling of a front of the tokens is the one that was read, or it is shorter and is followed by a token that can go on with it.
pub data Only {T A : Type 0} (go : A → T → Bool) (S : A → Type 0) (used rest x y : List T) (w : A) : Type 0 where
  same : x ≡ used → y ≡ rest → S w → Only go S used rest x y w
  shorter : Within used x → GoesOn go w y → Only go S used rest x y w

-- `used` is the longest front of the tokens that begins the language: it does from `least` levels on, and no longer one does at any number of levels R.
pub record Core {T A : Type 0} (L : Family T A) (go : A → T → Bool) (least : ℕ) (R : ℕ → Type 0) (S : A → Type 0) (ts used rest : List T) : Type 0 where
  pub cut : ts ≡ used ++ rest
  pub begins : (n : ℕ) → least ≤ n → (x y : List T) → used ≡ x ++ y → (L n).begins x
  pub only : (n : ℕ) → R n → (x y : List T) (w : A) → ts ≡ x ++ y → (L n).spells x w → Only go S used rest x y w
  pub ends : (n : ℕ) → R n → (x y : List T) → ts ≡ x ++ y → (L n).begins x → Within used x

-- the levels at which a fault is one: for Nesting the present number alone, for Syntax all
abbrev pub Reaches : Rule → ℕ → ℕ → Type 0
Reaches rule least n = rule ≡ Nesting → n ≡ least

-- the token at the fault goes on where there are more levels
pub record Deep {T A : Type 0} (L : Family T A) (used rest : List T) : Type 0 where
  pub token : T
  pub after : List T
  pub is : rest ≡ token ∷ after
  pub enough : ℕ
  pub begins : (n : ℕ) → enough ≤ n → (L n).begins (used ++ token ∷ [])

abbrev pub Deepens : {T A : Type 0} → Rule → Family T A → List T → List T → Type 0
Deepens rule L used rest = rule ≡ Nesting → Deep L used rest

pub record Done {T A : Type 0} (L : Family T A) (go : A → T → Bool) (least : ℕ) (ts : List T) (v : A) (rest : List T) : Type 0 where
  pub used : List T
  pub core : Core L go least (λ n. Unit {0}) (λ w. w ≡ v) ts used rest
  pub spells : (n : ℕ) → least ≤ n → (L n).spells used v

pub record Stopped {T A : Type 0} (L : Family T A) (go : A → T → Bool) (least : ℕ) (ts : List T) (rule : Rule) (left : ℕ) : Type 0 where
  pub used : List T
  pub rest : List T
  pub core : Core L go least (Reaches rule least) (λ w. ⊥) ts used rest
  pub size : length rest ≡ left
  pub deep : Deepens rule L used rest
  pub is : (rule ≡ Syntax) ⊎ (rule ≡ Nesting)

-- The outcome is that of the language with so many levels left; what was read can go on with tokens of `go` alone.
abbrev pub Exact : {T A : Type 0} → Family T A → (A → T → Bool) → ℕ → List T → Outcome T A → Type 0
Exact L go least ts (done v rest) = Done L go least ts v rest
Exact L go least ts (stop rule left) = Stopped L go least ts rule left
