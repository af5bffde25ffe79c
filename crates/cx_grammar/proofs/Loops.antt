-- Loops that read a part any number of times.
use Rattle.std.proofs.Common.{◌≡◌, ℕ, zero, suc, ◌≤◌, ◌<◌, ◌-◌, Bool, true, false, if◌then◌else◌, List, [], ◌∷◌, ◌++◌, length, Some, None, refl, sym, ◌∙◌, ap, subst, append_assoc, arith, length-append}
use Rattle.std.proofs.lemmas.List.{append-nil}
use Rattle.cx_base.specs.declared.rule.Rule.{Rule}
use Rattle.cx_grammar.specs.Exact.{Family, Outcome, done, stop, Exact}
use Rattle.cx_grammar.specs.Reading.{Reader, Shortens, made, sees, sees_two, the, token_by, many_of, turns_then, upto_of, trail_of, others_by, ◌>>=◌}
use Rattle.cx_grammar.specs.Reads.{tail_of}
use Rattle.cx_grammar.proofs.Heads.{Heads}
use Rattle.cx_grammar.proofs.Steps.{Exactly}

module _ {T A : Type 0} {L : Family T A} {p : T → Bool} {go : A → T → Bool} {left : ℕ} {read : Reader T A} (h : Heads L p) (g : Exactly L go left read) where
  used_some : (ts used rest : List T) (v : A) → ts ≡ used ++ rest → (L left).spells used v → length rest < length ts
  used_some ts [] rest v e s = absurd (h.full left v s)
  used_some ts (t ∷ used) rest v e s = let l : length ts ≡ length (t ∷ used ++ rest) = ap length e in let k = length-append (t ∷ used) rest in let m = length-append (t ∷ []) used in omega arith

  shortens_at : (ts rest : List T) (v : A) → read ts ≡ done v rest → length rest < length ts
  shortens_at ts rest v e = let P : Outcome T A → Type 0 = λ o. Exact L go left ts o in let d = subst P e (g.at ts) in used_some ts d.used rest v d.core.cut (d.spells left (omega arith))

  -- it follows from exactness where the language spells nothing empty
  pub shortens : Shortens read
  shortens = record { at = shortens_at }

-- ---- one turn

-- over what the turns after it give
abbrev pub turned : {T A : Type 0} → Outcome T A → (List T → Outcome T (List A)) → Outcome T (List A)
turned o next = o >>= (λ v rest. made (λ vs. v ∷ vs) (next rest))

made_twice : {T A : Type 0} (front : List A) (v : A) (o : Outcome T (List A)) → made (λ vs. front ++ vs) (made (λ vs. v ∷ vs) o) ≡ made (λ vs. (front ++ v ∷ []) ++ vs) o
made_twice front v (done vs rest) = ap (λ l. done l rest) (sym (append_assoc front (v ∷ []) vs))
made_twice front v (stop rule left) = refl

module _ {T A : Type 0} (test : List T → Bool) (read : Reader T A) (last : Reader T (List A)) where
  passed_turn : (k : ℕ) (ts : List T) → 0 < k → test ts ≡ true → turns_then test read last k ts ≡ turned (read ts) (turns_then test read last (k - 1))
  passed_turn zero ts a e = absurd (omega arith)
  passed_turn (suc k) ts a e = ap (λ b. if b then turned (read ts) (turns_then test read last k) else last ts) e ∙ ap (λ n. turned (read ts) (turns_then test read last n)) (let q : k ≡ suc k - 1 = omega arith in q)

  none_turned : (k : ℕ) (ts : List T) → test ts ≡ false → turns_then test read last k ts ≡ last ts
  none_turned zero ts e = refl
  none_turned (suc k) ts e = ap (λ b. if b then read ts >>= (λ v rest. made (λ vs. v ∷ vs) (turns_then test read last k rest)) else last ts) e

  -- ---- with so many turns at most: the invariant has what is left of the bound

  pub bounded_read : (k : ℕ) (front : List A) (ts rest : List T) (v : A) → 0 < k → test ts ≡ true → read ts ≡ done v rest → made (λ vs. front ++ vs) (turns_then test read last k ts) ≡ made (λ vs. (front ++ v ∷ []) ++ vs) (turns_then test read last (k - 1) rest)
  bounded_read k front ts rest v some e r = ap (made (λ vs. front ++ vs)) (passed_turn k ts some e ∙ ap (λ o. turned o (turns_then test read last (k - 1))) r) ∙ made_twice front v (turns_then test read last (k - 1) rest)

  pub bounded_stopped : (k : ℕ) (front : List A) (ts : List T) (rule : Rule) (left : ℕ) → 0 < k → test ts ≡ true → read ts ≡ stop rule left → made (λ vs. front ++ vs) (turns_then test read last k ts) ≡ stop rule left
  bounded_stopped k front ts rule left some e r = ap (made (λ vs. front ++ vs)) (passed_turn k ts some e ∙ ap (λ o. turned o (turns_then test read last (k - 1))) r)

  pub bounded_end : (k : ℕ) (front : List A) (ts : List T) → test ts ≡ false → made (λ vs. front ++ vs) (turns_then test read last k ts) ≡ made (λ vs. front ++ vs) (last ts)
  bounded_end k front ts e = ap (made (λ vs. front ++ vs)) (none_turned k ts e)

  pub bounded_full : (k : ℕ) (front : List A) (ts : List T) → k ≡ 0 → made (λ vs. front ++ vs) (turns_then test read last k ts) ≡ made (λ vs. front ++ vs) (last ts)
  bounded_full zero front ts e = refl
  bounded_full (suc k) front ts e = absurd (omega arith)

-- ---- without a bound

module _ {T A : Type 0} (test : List T → Bool) {read : Reader T A} (s : Shortens read) (last : Reader T (List A)) where
  turned_same : (k m : ℕ) (ts : List T) → ((rest : List T) → length rest < length ts → turns_then test read last k rest ≡ turns_then test read last m rest)
      → (o : Outcome T A) → read ts ≡ o → turned o (turns_then test read last k) ≡ turned o (turns_then test read last m)
  turned_same k m ts h (done v rest) e = ap (made (λ vs. v ∷ vs)) (h rest (s.at ts rest v e))
  turned_same k m ts h (stop rule left) e = refl

  -- as many turns as tokens are enough
  enough : (none : test [] ≡ false) (k m : ℕ) (ts : List T) → length ts ≤ k → length ts ≤ m → turns_then test read last k ts ≡ turns_then test read last m ts
  enough none zero zero ts a b = refl
  enough none zero (suc m) [] a b = sym (none_turned test read last (suc m) [] none)
  enough none zero (suc m) (t ∷ ts) a b = let l = length-append (t ∷ []) ts in absurd (omega arith)
  enough none (suc k) zero [] a b = none_turned test read last (suc k) [] none
  enough none (suc k) zero (t ∷ ts) a b = let l = length-append (t ∷ []) ts in absurd (omega arith)
  enough none (suc k) (suc m) ts a b = ap (λ o. if test ts then o else last ts)
      (turned_same k m ts (λ rest l. let c : length rest ≤ k = omega arith in let d : length rest ≤ m = omega arith in enough none k m rest c d) (read ts) refl)

  some_passed : test [] ≡ false → (ts : List T) → test ts ≡ true → 0 < length ts
  some_passed none [] e = let h : true ≡ false = sym e ∙ none in cc
  some_passed none (t ∷ ts) e = let l = length-append (t ∷ []) ts in omega arith

  pub then_read : test [] ≡ false → (front : List A) (ts rest : List T) (v : A) → test ts ≡ true → read ts ≡ done v rest
      → made (λ vs. front ++ vs) (turns_then test read last (length ts) ts) ≡ made (λ vs. (front ++ v ∷ []) ++ vs) (turns_then test read last (length rest) rest)
  then_read none front ts rest v e r = let less = s.at ts rest v r in let a : length rest ≤ length ts - 1 = omega arith in let b : length rest ≤ length rest = omega arith in
      bounded_read test read last (length ts) front ts rest v (some_passed none ts e) e r ∙ ap (made (λ vs. (front ++ v ∷ []) ++ vs)) (enough none (length ts - 1) (length rest) rest a b)

  pub then_stopped : test [] ≡ false → (front : List A) (ts : List T) (rule : Rule) (left : ℕ) → test ts ≡ true → read ts ≡ stop rule left → made (λ vs. front ++ vs) (turns_then test read last (length ts) ts) ≡ stop rule left
  then_stopped none front ts rule left e r = bounded_stopped test read last (length ts) front ts rule left (some_passed none ts e) e r

abbrev none_last : {T A : Type 0} → Reader T (List A)
none_last ts = done [] ts

module _ {T A : Type 0} (p : T → Bool) {read : Reader T A} (s : Shortens read) where
  pub turn_read : (front : List A) (ts rest : List T) (v : A) → sees p ts ≡ true → read ts ≡ done v rest → made (λ vs. front ++ vs) (many_of p read ts) ≡ made (λ vs. (front ++ v ∷ []) ++ vs) (many_of p read rest)
  unfolding many_of
  turn_read front ts rest v e r = then_read (sees p) s none_last refl front ts rest v e r

  pub turn_stopped : (front : List A) (ts : List T) (rule : Rule) (left : ℕ) → sees p ts ≡ true → read ts ≡ stop rule left → made (λ vs. front ++ vs) (many_of p read ts) ≡ stop rule left
  unfolding many_of
  turn_stopped front ts rule left e r = then_stopped (sees p) s none_last refl front ts rule left e r

pub turns_end : {T A : Type 0} (p : T → Bool) (read : Reader T A) (front : List A) (ts : List T) → sees p ts ≡ false → made (λ vs. front ++ vs) (many_of p read ts) ≡ done front ts
unfolding many_of
turns_end p read front ts e = bounded_end (sees p) read none_last (length ts) front ts e ∙ ap (λ l. done l ts) (append-nil front)

pub turns_start : {T A : Type 0} (o : Outcome T (List A)) → made (λ vs. [] ++ vs) o ≡ o
turns_start (done vs rest) = refl
turns_start (stop rule left) = refl

-- ---- items with a separator between each two and perhaps one behind the last

module _ {T A : Type 0} (p s : T → Bool) (item : Reader T A) where
  pub other_read : Shortens item → (front : List A) (ts rest : List T) (v : A) → sees_two p s ts ≡ true → item ts ≡ done v rest → made (λ vs. front ++ vs) (others_by p s item ts) ≡ made (λ vs. (front ++ v ∷ []) ++ vs) (others_by p s item rest)
  unfolding others_by
  other_read short front ts rest v e r = then_read (sees_two p s) short (trail_of p) refl front ts rest v e r

  pub other_stopped : Shortens item → (front : List A) (ts : List T) (rule : Rule) (left : ℕ) → sees_two p s ts ≡ true → item ts ≡ stop rule left → made (λ vs. front ++ vs) (others_by p s item ts) ≡ stop rule left
  unfolding others_by
  other_stopped short front ts rule left e r = then_stopped (sees_two p s) short (trail_of p) refl front ts rule left e r

  last_of : (ts : List T) → sees_two p s ts ≡ false → (front : List A) → made (λ vs. front ++ vs) (others_by p s item ts) ≡ made (λ vs. front ++ vs) (trail_of p ts)
  unfolding others_by
  last_of ts e front = bounded_end (sees_two p s) item (trail_of p) (length ts) front ts e

  trail_none : (ts : List T) → sees p ts ≡ false → trail_of {A = A} p ts ≡ done [] ts
  trail_none ts e = ap (λ b. made (λ _. []) (if b then made Some (the p ts) else done None ts)) e

  trail_some : (ts : List T) → sees p ts ≡ true → trail_of {A = A} p ts ≡ done [] (tail_of ts)
  trail_some [] e = cc
  trail_some (t ∷ ts) e = ap (λ b. made (λ _. []) (if b then made Some (token_by (if b then Some tt else None) t ts) else done None (t ∷ ts))) e

  pub others_end : (front : List A) (ts : List T) → sees_two p s ts ≡ false → sees p ts ≡ false → made (λ vs. front ++ vs) (others_by p s item ts) ≡ done front ts
  others_end front ts e none = last_of ts e front ∙ (ap (made (λ vs. front ++ vs)) (trail_none ts none) ∙ ap (λ l. done l ts) (append-nil front))

  pub others_ended : (front : List A) (ts : List T) → sees_two p s ts ≡ false → sees p ts ≡ true → made (λ vs. front ++ vs) (others_by p s item ts) ≡ done front (tail_of ts)
  others_ended front ts e is = last_of ts e front ∙ (ap (made (λ vs. front ++ vs)) (trail_some ts is) ∙ ap (λ l. done l (tail_of ts)) (append-nil front))

-- ---- so many turns at most, of which the front has been made

module _ {T A : Type 0} (p : T → Bool) (read : Reader T A) (most : ℕ) (front : List A) where
  pub upto_read : (ts rest : List T) (v : A) → length front < most → sees p ts ≡ true → read ts ≡ done v rest
      → made (λ vs. front ++ vs) (upto_of (most - length front) p read ts) ≡ made (λ vs. (front ++ v ∷ []) ++ vs) (upto_of (most - length (front ++ v ∷ [])) p read rest)
  upto_read ts rest v less e r = let some : 0 < most - length front = omega arith in let k = length-append front (v ∷ []) in let k2 = length-append (v ∷ []) [] in let m : most - length front - 1 ≡ most - length (front ++ v ∷ []) = omega arith in
      bounded_read (sees p) read none_last (most - length front) front ts rest v some e r ∙ ap (λ n. made (λ vs. (front ++ v ∷ []) ++ vs) (upto_of n p read rest)) m

  pub upto_bounded : (v : A) → length front < most → length (front ++ v ∷ []) ≤ most
  upto_bounded v less = let k = length-append front (v ∷ []) in let k2 = length-append (v ∷ []) [] in omega arith

  pub upto_less : (v : A) → length front < most → most - length (front ++ v ∷ []) < most - length front
  upto_less v less = let k = length-append front (v ∷ []) in let k2 = length-append (v ∷ []) [] in omega arith

  pub upto_stopped : (ts : List T) (rule : Rule) (left : ℕ) → length front < most → sees p ts ≡ true → read ts ≡ stop rule left → made (λ vs. front ++ vs) (upto_of (most - length front) p read ts) ≡ stop rule left
  upto_stopped ts rule left less e r = let some : 0 < most - length front = omega arith in bounded_stopped (sees p) read none_last (most - length front) front ts rule left some e r

  pub upto_end : (ts : List T) → sees p ts ≡ false → made (λ vs. front ++ vs) (upto_of (most - length front) p read ts) ≡ done front ts
  upto_end ts e = bounded_end (sees p) read none_last (most - length front) front ts e ∙ ap (λ l. done l ts) (append-nil front)

  pub upto_full : (ts : List T) → most ≤ length front → made (λ vs. front ++ vs) (upto_of (most - length front) p read ts) ≡ done front ts
  upto_full ts full = let none : most - length front ≡ 0 = omega arith in bounded_full (sees p) read none_last (most - length front) front ts none ∙ ap (λ l. done l ts) (append-nil front)
