-- Candidates that are put together.
use Rattle.std.proofs.Common.{◌≡◌, ℕ, ◌+◌, ◌<◌, ◌⊎◌, inl, inr, Bool, true, false, List, [], ◌∷◌, ◌++◌, length, take, get_or, refl, sym, ap, subst, ◌∙◌, if◌then◌else◌}
use Rattle.std.proofs.lemmas.List.{take_more}
use Rattle.cx_scopes.specs.declared.kinds.Entity.{Entity}
use Rattle.cx_scopes.specs.Names.{is_among}
use Rattle.cx_scopes.specs.Candidates.{united, with_candidate}
use Rattle.cx_scopes.specs.Reaching.{Among}
use Rattle.cx_scopes.proofs.Reached.{among-back, among-either, among-front}

united-append : (es xs ys : List Entity) → united es (xs ++ ys) ≡ united (united es xs) ys
united-append es [] ys = refl
united-append es (x ∷ xs) ys = united-append (with_candidate es x) xs ys

-- one more of the second lookup
pub united-next : (es now xs : List Entity) (i : ℕ) (d : Entity) → i < length xs → now ≡ united es (take i xs) → with_candidate now (get_or xs i d) ≡ united es (take (i + 1) xs)
united-next es now xs i d h e =
    ap (λ l. with_candidate l (get_or xs i d)) e
    ∙ sym (united-append es (take i xs) (get_or xs i d ∷ []))
    ∙ ap (united es) (sym (take_more xs i d h))

module _ (f : Entity) where
  among-candidate : (es : List Entity) (e : Entity) → Among f es → Among f (with_candidate es e)
  among-candidate es e h = by (is_among e es)
    where
      by : (b : Bool) → Among f (if b then es else es ++ e ∷ [])
      by true = h
      by false = among-front f es (e ∷ []) h

  candidate-from : (es : List Entity) (e : Entity) → Among f (with_candidate es e) → Among f es ⊎ (f ≡ e)
  candidate-from es e h = by (is_among e es) h
    where
      by : (b : Bool) → Among f (if b then es else es ++ e ∷ []) → Among f es ⊎ (f ≡ e)
      by true j = inl j
      by false j = elim (among-either f es (e ∷ []) j) as (λ _. Among f es ⊎ (f ≡ e)) [ inl a ↦ inl a | inr b ↦ elim b as (λ _. Among f es ⊎ (f ≡ e)) [ inl same ↦ inr same | inr never ↦ absurd never ] ]

  -- the first lookup's candidates are among them
  pub united-first : (es fs : List Entity) → Among f es → Among f (united es fs)
  united-first es [] h = h
  united-first es (g ∷ fs) h = united-first (with_candidate es g) fs (among-candidate es g h)

  -- and no others than those of both
  pub united-from : (es fs : List Entity) → Among f (united es fs) → Among f es ⊎ Among f fs
  united-from es [] h = inl h
  united-from es (g ∷ fs) h = elim (united-from (with_candidate es g) fs h) as (λ _. Among f es ⊎ Among f (g ∷ fs)) [
    | inl a ↦ elim (candidate-from es g a) as (λ _. Among f es ⊎ Among f (g ∷ fs)) [ inl x ↦ inl x | inr same ↦ inr (inl same) ]
    | inr b ↦ inr (inr b)
  ]

once-more : (es : List Entity) (e : Entity) → united [] es ≡ es → united [] (with_candidate es e) ≡ with_candidate es e
once-more es e h = by (is_among e es) refl
  where
    by : (b : Bool) → is_among e es ≡ b → united [] (if b then es else es ++ e ∷ []) ≡ (if b then es else es ++ e ∷ [])
    by true j = h
    by false j = united-append [] es (e ∷ []) ∙ ap (λ l. with_candidate l e) h ∙ ap (λ b. if b then es else es ++ e ∷ []) j

-- each of them is there once, where the first lookup gave each once
pub united-once : (es fs : List Entity) → united [] es ≡ es → united [] (united es fs) ≡ united es fs
united-once es [] h = h
united-once es (f ∷ fs) h = united-once (with_candidate es f) fs (once-more es f h)
