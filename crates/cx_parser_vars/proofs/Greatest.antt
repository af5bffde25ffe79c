-- Loops that keep the greatest number of levels, while the tokens pass a test.
use Rattle.std.proofs.Common.{◌≡◌, ℕ, ◌≤◌, max, Bool, true, false, List, [], ◌∷◌, ◌++◌, length, Result, Ok, Err, refl, sym, ◌∙◌, ap, arith}
use Rattle.std.proofs.Math.Nat.{le-max_left, le-max_right, max-le, max-zero}
use Rattle.cx_base.specs.declared.rule.Rule.{Rule}
use Rattle.cx_grammar.specs.declared.stop.ParseStop.{ParseStop}
use Rattle.cx_grammar.specs.Exact.{Outcome, done, stop}
use Rattle.cx_grammar.specs.Reading.{Reader, Shortens, made, sees, many_of, many_when}
use Rattle.cx_grammar.specs.Reads.{Reads}
use Rattle.cx_grammar.proofs.Loops.{then_read, then_stopped, bounded_end}
use Rattle.cx_levels.specs.Levels.{greatest}
use Rattle.cx_syntax.specs.declared.lexeme.Lexeme.{Lexeme}
use Rattle.cx_syntax_parts.specs.Readers.{several}
use Rattle.cx_parser_vars.specs.Parts.{Counted}

grouped_left : (a b c : ℕ) → max a (max b c) ≤ max (max a b) c
grouped_left a b c = let p = le-max_left a b in let q = le-max_right a b in let r = le-max_left (max a b) c in let s = le-max_right (max a b) c in
    let u : a ≤ max (max a b) c = omega arith in let v : b ≤ max (max a b) c = omega arith in max-le u (max-le v s)

grouped_right : (a b c : ℕ) → max (max a b) c ≤ max a (max b c)
grouped_right a b c = let p = le-max_left b c in let q = le-max_right b c in let r = le-max_left a (max b c) in let s = le-max_right a (max b c) in
    let u : b ≤ max a (max b c) = omega arith in let v : c ≤ max a (max b c) = omega arith in max-le (max-le r u) v

grouped : (a b c : ℕ) → max a (max b c) ≡ max (max a b) c
grouped a b c = let p = grouped_left a b c in let q = grouped_right a b c in omega arith

-- with those that were found before
abbrev pub with_most : ℕ → Outcome Lexeme ℕ → Outcome Lexeme ℕ
with_most most o = made (λ v. max most v) o

-- what turns give, of which the deepest counts
abbrev pub deepest : (List Lexeme → Bool) → Reader Lexeme ℕ → Reader Lexeme ℕ
deepest test read ts = made greatest (many_when test read ts)

module _ (most : ℕ) where
  before : (o : Outcome Lexeme (List ℕ)) → with_most most (made greatest (made (λ vs. [] ++ vs) o)) ≡ with_most most (made greatest o)
  before (done vs rest) = refl
  before (stop rule left) = refl

  behind : (v : ℕ) (o : Outcome Lexeme (List ℕ)) → with_most most (made greatest (made (λ vs. ([] ++ v ∷ []) ++ vs) o)) ≡ with_most (max most v) (made greatest o)
  behind v (done vs rest) = ap (λ m. done m rest) (grouped most v (greatest vs))
  behind v (stop rule left) = refl

  module _ (test : List Lexeme → Bool) (none : test [] ≡ false) {read : Reader Lexeme ℕ} (s : Shortens read) where
    pub deepest_read : (ts rest : List Lexeme) (v : ℕ) → test ts ≡ true → read ts ≡ done v rest → with_most most (deepest test read ts) ≡ with_most (max most v) (deepest test read rest)
    unfolding many_when
    deepest_read ts rest v e r = sym (before (many_when test read ts)) ∙ (ap (λ o. with_most most (made greatest o)) (then_read test s (λ ts. done [] ts) none [] ts rest v e r) ∙ behind v (many_when test read rest))

    pub deepest_stopped : (ts : List Lexeme) (rule : Rule) (left : ℕ) → test ts ≡ true → read ts ≡ stop rule left → with_most most (deepest test read ts) ≡ stop rule left
    unfolding many_when
    deepest_stopped ts rule left e r = sym (before (many_when test read ts)) ∙ ap (λ o. with_most most (made greatest o)) (then_stopped test s (λ ts. done [] ts) none [] ts rule left e r)

  pub deepest_end : (test : List Lexeme → Bool) (read : Reader Lexeme ℕ) (ts : List Lexeme) → test ts ≡ false → with_most most (deepest test read ts) ≡ done most ts
  unfolding many_when
  deepest_end test read ts e = sym (before (many_when test read ts)) ∙ (ap (λ o. with_most most (made greatest o)) (bounded_end test read (λ ts. done [] ts) (length ts) [] ts e) ∙ ap (λ m. done m ts) (max-zero most))

  -- ---- the same while the next token passes a test

  module _ (p : Lexeme → Bool) {read : Reader Lexeme ℕ} (s : Shortens read) where
    pub several_read : (ts rest : List Lexeme) (v : ℕ) → sees p ts ≡ true → read ts ≡ done v rest → with_most most (several p read ts) ≡ with_most (max most v) (several p read rest)
    unfolding many_of many_when
    several_read ts rest v e r = deepest_read (sees p) refl s ts rest v e r

    pub several_stopped : (ts : List Lexeme) (rule : Rule) (left : ℕ) → sees p ts ≡ true → read ts ≡ stop rule left → with_most most (several p read ts) ≡ stop rule left
    unfolding many_of many_when
    several_stopped ts rule left e r = deepest_stopped (sees p) refl s ts rule left e r

  pub several_end : (p : Lexeme → Bool) (read : Reader Lexeme ℕ) (ts : List Lexeme) → sees p ts ≡ false → with_most most (several p read ts) ≡ done most ts
  unfolding many_of many_when
  several_end p read ts e = deepest_end (sees p) read ts e

-- ---- the number as the tree keeps it

pub counted_reads : {o : Outcome Lexeme ℕ} (levels : ℕ) (ts : List Lexeme) (found : Result ℕ ParseStop) → o ≡ done levels ts → Counted levels found → Reads o found ts
counted_reads levels ts (Ok n) e c = e ∙ ap (λ m. done m ts) (sym c)
counted_reads levels ts (Err found) e c = λ rule left fault. cc
