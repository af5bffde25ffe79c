-- A loop whose turns carry a flag.
use Rattle.std.proofs.Common.{◌≡◌, ℕ, zero, suc, ◌≤◌, ◌<◌, ◌-◌, Bool, true, false, if◌then◌else◌, List, [], ◌∷◌, length, refl, sym, ◌∙◌, ap, arith, length-append}
use Rattle.cx_base.specs.declared.rule.Rule.{Rule}
use Rattle.cx_grammar.specs.Exact.{Outcome, done, stop}
use Rattle.cx_grammar.specs.Reading.{Reader, Shortens, made, sees, ◌>>=◌}
use Rattle.cx_syntax.specs.Linked.{links_from, links_of}

module _ {T B : Type 0} (test : Bool → T → Bool) (read : Bool → Reader T B) (flag : B → Bool) where
  -- what the turns behind one give
  abbrev pub linked : ℕ → Outcome T B → Outcome T (List B)
  linked k o = o >>= (λ v rest. made (λ vs. v ∷ vs) (links_from test read flag k (flag v) rest))

  passed_link : (k : ℕ) (b : Bool) (ts : List T) → 0 < k → sees (test b) ts ≡ true → links_from test read flag k b ts ≡ linked (k - 1) (read b ts)
  passed_link zero b ts p e = absurd (omega arith)
  passed_link (suc k) b ts p e = ap (λ c. if c then linked k (read b ts) else done [] ts) e ∙ ap (λ n. linked n (read b ts)) (let q : k ≡ suc k - 1 = omega arith in q)

  none_linked : (k : ℕ) (b : Bool) (ts : List T) → sees (test b) ts ≡ false → links_from test read flag k b ts ≡ done [] ts
  none_linked zero b ts e = refl
  none_linked (suc k) b ts e = ap (λ c. if c then linked k (read b ts) else done [] ts) e

  module _ (s : (b : Bool) → Shortens (read b)) where
    linked_same : (k m : ℕ) (b : Bool) (ts : List T) → ((c : Bool) (rest : List T) → length rest < length ts → links_from test read flag k c rest ≡ links_from test read flag m c rest)
        → (o : Outcome T B) → read b ts ≡ o → linked k o ≡ linked m o
    linked_same k m b ts h (done v rest) e = let q = s b in ap (made (λ vs. v ∷ vs)) (h (flag v) rest (q.at ts rest v e))
    linked_same k m b ts h (stop rule left) e = refl

    enough : (k m : ℕ) (b : Bool) (ts : List T) → length ts ≤ k → length ts ≤ m → links_from test read flag k b ts ≡ links_from test read flag m b ts
    enough zero zero b ts p q = refl
    enough zero (suc m) b [] p q = sym (none_linked (suc m) b [] refl)
    enough zero (suc m) b (t ∷ ts) p q = let l = length-append (t ∷ []) ts in absurd (omega arith)
    enough (suc k) zero b [] p q = none_linked (suc k) b [] refl
    enough (suc k) zero b (t ∷ ts) p q = let l = length-append (t ∷ []) ts in absurd (omega arith)
    enough (suc k) (suc m) b ts p q = ap (λ o. if sees (test b) ts then o else done [] ts)
        (linked_same k m b ts (λ c rest l. let x : length rest ≤ k = omega arith in let y : length rest ≤ m = omega arith in enough k m c rest x y) (read b ts) refl)

    some_seen : (b : Bool) (ts : List T) → sees (test b) ts ≡ true → 0 < length ts
    some_seen b [] e = cc
    some_seen b (t ∷ ts) e = let l = length-append (t ∷ []) ts in omega arith

    pub link_read : (b : Bool) (ts rest : List T) (v : B) → sees (test b) ts ≡ true → read b ts ≡ done v rest → links_of test read flag b ts ≡ made (λ vs. v ∷ vs) (links_of test read flag (flag v) rest)
    unfolding links_of
    link_read b ts rest v e r = let q = s b in let less = q.at ts rest v r in let x : length rest ≤ length ts - 1 = omega arith in let y : length rest ≤ length rest = omega arith in
        passed_link (length ts) b ts (some_seen b ts e) e ∙ (ap (linked (length ts - 1)) r ∙ ap (made (λ vs. v ∷ vs)) (enough (length ts - 1) (length rest) (flag v) rest x y))

    pub link_stopped : (b : Bool) (ts : List T) (rule : Rule) (left : ℕ) → sees (test b) ts ≡ true → read b ts ≡ stop rule left → links_of test read flag b ts ≡ stop rule left
    unfolding links_of
    link_stopped b ts rule left e r = passed_link (length ts) b ts (some_seen b ts e) e ∙ ap (linked (length ts - 1)) r

  pub links_end : (b : Bool) (ts : List T) → sees (test b) ts ≡ false → links_of test read flag b ts ≡ done [] ts
  unfolding links_of
  links_end b ts e = none_linked (length ts) b ts e
