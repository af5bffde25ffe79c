-- Loops that test more than the next token.
use Rattle.std.proofs.Common.{◌≡◌, ℕ, Bool, true, false, List, [], ◌∷◌, ◌++◌, length, refl, ◌∙◌, ap}
use Rattle.std.proofs.lemmas.List.{append-nil}
use Rattle.cx_base.specs.declared.rule.Rule.{Rule}
use Rattle.cx_grammar.specs.Exact.{Outcome, done, stop}
use Rattle.cx_grammar.specs.Reading.{Reader, Shortens, made, many_when}
use Rattle.cx_grammar.proofs.Loops.{then_read, then_stopped, bounded_end}

module _ {T A : Type 0} (test : List T → Bool) (none : test [] ≡ false) {read : Reader T A} (s : Shortens read) where
  pub when_read : (front : List A) (ts rest : List T) (v : A) → test ts ≡ true → read ts ≡ done v rest → made (λ vs. front ++ vs) (many_when test read ts) ≡ made (λ vs. (front ++ v ∷ []) ++ vs) (many_when test read rest)
  unfolding many_when
  when_read front ts rest v e r = then_read test s (λ ts. done [] ts) none front ts rest v e r

  pub when_stopped : (front : List A) (ts : List T) (rule : Rule) (left : ℕ) → test ts ≡ true → read ts ≡ stop rule left → made (λ vs. front ++ vs) (many_when test read ts) ≡ stop rule left
  unfolding many_when
  when_stopped front ts rule left e r = then_stopped test s (λ ts. done [] ts) none front ts rule left e r

pub when_end : {T A : Type 0} (test : List T → Bool) (read : Reader T A) (front : List A) (ts : List T) → test ts ≡ false → made (λ vs. front ++ vs) (many_when test read ts) ≡ done front ts
unfolding many_when
when_end test read front ts e = bounded_end test read (λ ts. done [] ts) (length ts) front ts e ∙ ap (λ l. done l ts) (append-nil front)
