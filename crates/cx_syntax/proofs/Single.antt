-- Where a reader is exact, tokens spell one value at most.
use Rattle.std.proofs.Common.{◌≡◌, ℕ, Bool, List, [], ◌++◌, refl, sym, ◌∙◌}
use Rattle.std.proofs.lemmas.List.{append-nil}
use Rattle.cx_grammar.specs.Exact.{Family, same, shorter, Outcome, done, stop, Exact}
use Rattle.cx_grammar.specs.Reading.{Reader}
use Rattle.cx_grammar.proofs.Steps.{Exactly}

module _ {T A : Type 0} (L : Family T A) (go : A → T → Bool) (ts : List T) where
  pub whole : ts ≡ ts ++ []
  whole = sym (append-nil ts)

  pub one_read : (n m : ℕ) (a b : A) (o : Outcome T A) → Exact L go n ts o → (L n).spells ts a → (L m).spells ts b → a ≡ b
  one_read n m a b (done v rest) e s z = elim (e.core.only n tt ts [] a whole s) [
    | same x y p ↦ elim (e.core.only m tt ts [] b whole z) [ same x2 y2 q ↦ p ∙ sym q | shorter within goes ↦ absurd goes ]
    | shorter within goes ↦ absurd goes
  ]
  one_read n m a b (stop rule left) e s z = elim (e.core.only n (λ i. refl) ts [] a whole s) [ same x y p ↦ absurd p | shorter within goes ↦ absurd goes ]

pub one_value : {T A : Type 0} {L : Family T A} {go : A → T → Bool} {read : ℕ → Reader T A} → ((left : ℕ) → Exactly L go left (read left)) → (n m : ℕ) (ts : List T) (a b : A) → (L n).spells ts a → (L m).spells ts b → a ≡ b
one_value {L = L} {go = go} {read = read} g n m ts a b s z = one_read L go ts n m a b (read n ts) ((g n).at ts) s z
