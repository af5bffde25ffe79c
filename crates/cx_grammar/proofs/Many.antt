-- Repetitions, without a bound and with one.
use Rattle.std.proofs.Common.{◌≡◌, ℕ, zero, suc, ◌≤◌, ◌<◌, Bool, true, false, if◌then◌else◌, IsTrue, List, [], ◌∷◌, ◌++◌, length, refl, sym, ◌∙◌, ap, subst, inl, inr, append_assoc, arith, length-append}
use Rattle.cx_grammar.specs.Language.{in_first, in_second, BeginsPresent, none_yet, present, SpellsMany, BeginsMany, many, upto, turn_or, no_turn}
use Rattle.cx_grammar.specs.Exact.{Family, GoesOn, Done, Outcome, done, stop, Exact}
use Rattle.cx_grammar.specs.Reading.{Reader, made, ◌>>=◌, many_from}
use Rattle.cx_grammar.proofs.Parts.{exact_left, exact_right, exact_same, Same, Elsewhere, elsewhere}
use Rattle.cx_grammar.proofs.Turns.{Turn, more, more_read, more_stopped, no_more, no_turns, covered_none, none_done, many_spelled, many_begun}

module _ {T A : Type 0} (G : Family T A) where
  abbrev pub turn : Family T (List A)
  turn n = turn_or (G n) (many (G n)) no_turn

  turn_spells : (n : ℕ) (x : List T) (w : List A) → (turn n).spells x w → (many (G n)).spells x w
  turn_spells n x w (inl s) = let P : List A → Type 0 = λ l. SpellsMany (G n) x l in subst P (sym s.made) (s.part.front, s.part.back, s.part.cut, s.part.first, s.part.second)
  turn_spells n x w (inr s) = let P : List A → Type 0 = λ l. SpellsMany (G n) x l in subst P (sym s.made) s.part

  turn_spelled : (n : ℕ) (x : List T) (w : List A) → (many (G n)).spells x w → (turn n).spells x w
  turn_spelled n x [] s = inr (record { value = tt; made = refl; part = s })
  turn_spelled n x (v ∷ vs) s = inl (record { value = (v, vs); made = refl; part = record { front = s.0; back = s.1; cut = s.2; first = s.3; second = s.4 } })

  begins_one : (n : ℕ) (x : List T) → BeginsPresent (G n) x → (many (G n)).begins x
  begins_one n x b = record { front = []; back = x; cut = refl; turns = []; whole = refl; next = b }

  begins_more : (n : ℕ) (x front back : List T) (v : A) → x ≡ front ++ back → (G n).spells front v → BeginsMany (G n) back → (many (G n)).begins x
  begins_more n x front back v cut s b = record { front = front ++ b.front; back = b.back; cut = cut ∙ (ap (λ l. front ++ l) b.cut ∙ sym (append_assoc front b.front b.back)); turns = v ∷ b.turns; whole = (front, b.front, refl, s, b.whole); next = b.next }

  turn_begins : (n : ℕ) (x : List T) → (turn n).begins x → (many (G n)).begins x
  turn_begins n x (inl (in_first b)) = begins_one n x b
  turn_begins n x (inl (in_second front back v cut s b)) = begins_more n x front back v cut s b
  turn_begins n x (inr e) = begins_one n x (none_yet e)

  begun_from : (n : ℕ) (x front back : List T) (vs : List A) → x ≡ front ++ back → SpellsMany (G n) front vs → BeginsPresent (G n) back → (turn n).begins x
  begun_from n x front back [] cut s b = let e : x ≡ back = cut ∙ ap (λ l. l ++ back) s in let P : List T → Type 0 = λ l. BeginsPresent (G n) l in inl (in_first (subst P (sym e) b))
  begun_from n x front back (v ∷ vs) cut s b = inl (in_second s.0 (s.1 ++ back) v (cut ∙ (ap (λ l. l ++ back) s.2 ∙ append_assoc s.0 s.1 back)) s.3
      (record { front = s.1; back = back; cut = refl; turns = vs; whole = s.4; next = b }))

  -- any number of turns is one and then others, or none
  pub turn_same : Same turn (λ n. many (G n))
  turn_same = record { spells = turn_spells; spelled = turn_spelled; begins = turn_begins; begun = λ n x b. begun_from n x b.front b.back b.turns b.cut b.whole b.next }

pub record Turns {T A : Type 0} (G : Family T A) (go_g : A → T → Bool) (go : List A → T → Bool) (test : List T → Bool) (read : Reader T A) (least : ℕ) : Type 0 where
  -- a turn is never empty
  pub full : (n : ℕ) (w : A) → (G n).spells [] w → ⊥
  pub item : (ts : List T) → test ts ≡ true → Exact (λ n. present (G n)) go_g least ts (read ts)
  pub other : (ts : List T) → test ts ≡ false → Elsewhere (λ n. present (G n)) ts
  -- what begins a turn never goes on with the turn before
  pub begins : (n : ℕ) (a : A) (t : T) (x : List T) → BeginsPresent (G n) (t ∷ x) → IsTrue (go_g a t) → ⊥
  pub spells : (n : ℕ) (a : A) (t : T) (x : List T) (w : A) → (G n).spells (t ∷ x) w → IsTrue (go_g a t) → ⊥
  pub first : (ts : List T) → test ts ≡ true → GoesOn go [] ts
  pub after : (v : A) (vs : List A) (t : T) → IsTrue (go_g v t) → IsTrue (go (v ∷ vs) t)
  pub later : (v : A) (vs : List A) (t : T) → IsTrue (go vs t) → IsTrue (go (v ∷ vs) t)

module _ {T A : Type 0} (G : Family T A) (go_g : A → T → Bool) (go : List A → T → Bool) (test : List T → Bool) (read : Reader T A) (least : ℕ) (m : Turns G go_g go test read least) where
  -- ---- one step, over a reader of the turns after it
  module _ (K : Family T (List A)) (k : Turn G K go_g go) where
    abbrev step : Family T (List A)
    step n = turn_or (G n) (K n) no_turn

    -- no turn, and no other
    pub none_read : (ts : List T) → Elsewhere (λ n. present (G n)) ts → Exact step go least ts (done [] ts)
    none_read ts o = exact_right (more G K go_g go least k) (no_turns go) go least ts (done [] ts)
        (elsewhere (more G K go_g go least k) go ts (no_more G K go_g go least k ts o)) (none_done go least ts)

    item_read : (next : List T → Outcome T (List A)) → (ts : List T) → test ts ≡ true → (o : Outcome T A) → ((rest : List T) (v : A) → o ≡ done v rest → Exact K go least rest (next rest)) → Exact (λ n. present (G n)) go_g least ts o
        → Exact step go least ts (o >>= (λ v rest. made (λ vs. v ∷ vs) (next rest)))
    item_read next ts is (done v rest) again g = exact_left (more G K go_g go least k) (no_turns go) go least ts (made (λ vs. v ∷ vs) (next rest)) (covered_none go ts (m.first ts is))
        (more_read G K go_g go least k ts rest v (next rest) g (again rest v refl))
    item_read next ts is (stop rule left) again g = exact_left (more G K go_g go least k) (no_turns go) go least ts (stop rule left) (covered_none go ts (m.first ts is))
        (more_stopped G K go_g go least k ts rule left g)

    pub step_read : (next : List T → Outcome T (List A)) → (ts : List T) → ((rest : List T) (v : A) → read ts ≡ done v rest → Exact K go least rest (next rest)) → (b : Bool) → test ts ≡ b
        → Exact step go least ts (if b then read ts >>= (λ v rest. made (λ vs. v ∷ vs) (next rest)) else done [] ts)
    step_read next ts again true is = item_read next ts is (read ts) again (m.item ts is)
    step_read next ts again false is = none_read ts (m.other ts is)

  -- ---- any number of turns

  many_turn : Turn G (λ n. many (G n)) go_g go
  many_turn = record {
    begins = λ n a t x b h. many_begun G m.full n t x b.front b.back b.turns (λ u. IsTrue (go_g a u) → ⊥) (λ u y w s. m.spells n a u y w s) (λ u y c. m.begins n a u y c) b.cut b.whole b.next h;
    spells = λ n a t x w s h. many_spelled G m.full n t x w (λ u. IsTrue (go_g a u) → ⊥) (λ u y v z. m.spells n a u y v z) s h;
    after = m.after;
    later = m.later;
  }

  nothing_here : (t : T) (x : List T) → [] ≡ t ∷ x → ⊥
  nothing_here t x e = cc

  at_end : Elsewhere (λ n. present (G n)) []
  at_end = record { empty = m.full; spells = λ n t x y w e s. nothing_here t (x ++ y) e; begins = λ n t x y e b. nothing_here t (x ++ y) e }

  shorter_rest : (n : ℕ) (ts used rest : List T) (v : A) → ts ≡ used ++ rest → (G n).spells used v → length rest < length ts
  shorter_rest n ts [] rest v e s = absurd (m.full n v s)
  shorter_rest n ts (t ∷ used) rest v e s = let l : length ts ≡ length (t ∷ used ++ rest) = ap length e in let k = length-append (t ∷ used) rest in omega arith

  read_shorter : (ts rest : List T) (v : A) → Done (λ n. present (G n)) go_g least ts v rest → length rest < length ts
  read_shorter ts rest v g = shorter_rest least ts g.used rest v g.core.cut (g.spells least (omega arith))

  item_shorter : (ts rest : List T) (v : A) → test ts ≡ true → read ts ≡ done v rest → length rest < length ts
  item_shorter ts rest v is e = read_shorter ts rest v (let P : Outcome T A → Type 0 = λ o. Exact (λ n. present (G n)) go_g least ts o in subst P e (m.item ts is))

  abbrev Reads : ℕ → Type 0
  Reads k = (ts : List T) → length ts ≤ k → Exact (λ n. many (G n)) go least ts (many_from test read k ts)

  by_test : (k : ℕ) → Reads k → (ts : List T) → length ts ≤ suc k → (b : Bool) → test ts ≡ b → Exact (turn G) go least ts (if b then read ts >>= (λ v rest. made (λ vs. v ∷ vs) (many_from test read k rest)) else done [] ts)
  by_test k again ts fits true is = step_read (λ n. many (G n)) many_turn (many_from test read k) ts (λ rest v e. let short = item_shorter ts rest v is e in let below : length rest ≤ k = omega arith in again rest below) true is
  by_test k again ts fits false is = none_read (λ n. many (G n)) many_turn ts (m.other ts is)

  pub exact_many : (k : ℕ) (ts : List T) → length ts ≤ k → Exact (λ n. many (G n)) go least ts (many_from test read k ts)
  exact_many zero [] fits = exact_same (turn G) (λ n. many (G n)) go (turn_same G) least [] (done [] []) (none_read (λ n. many (G n)) many_turn [] at_end)
  exact_many zero (t ∷ ts) fits = let l = length-append (t ∷ []) ts in absurd (omega arith)
  exact_many (suc k) ts fits = exact_same (turn G) (λ n. many (G n)) go (turn_same G) least ts (many_from test read (suc k) ts) (by_test k (exact_many k) ts fits (test ts) refl)

  -- ---- so many turns at most

  front_begun : (n : ℕ) (a : A) (t : T) (x f b : List T) (v : A) → t ∷ x ≡ f ++ b → (G n).spells f v → IsTrue (go_g a t) → ⊥
  front_begun n a t x [] b v e s h = m.full n v s
  front_begun n a t x (u ∷ f) b v e s h = let heads : u ≡ t = cc in let P : T → Type 0 = λ z. (G n).spells (z ∷ f) v in m.spells n a t f v (subst P heads s) h

  upto_spells : (k n : ℕ) (a : A) (t : T) (x : List T) (w : List A) → (upto k (G n)).spells (t ∷ x) w → IsTrue (go_g a t) → ⊥
  upto_spells zero n a t x w s h = let none = s.part in cc
  upto_spells (suc k) n a t x w (inl s) h = front_begun n a t x s.part.front s.part.back s.value.0 s.part.cut s.part.first h
  upto_spells (suc k) n a t x w (inr s) h = let none = s.part in cc

  upto_begins : (k n : ℕ) (a : A) (t : T) (x : List T) → (upto k (G n)).begins (t ∷ x) → IsTrue (go_g a t) → ⊥
  upto_begins zero n a t x s h = cc
  upto_begins (suc k) n a t x (inl (in_first b)) h = m.begins n a t x b h
  upto_begins (suc k) n a t x (inl (in_second f b v cut s c)) h = front_begun n a t x f b v cut s h
  upto_begins (suc k) n a t x (inr s) h = cc

  upto_turn : (k : ℕ) → Turn G (λ n. upto k (G n)) go_g go
  upto_turn k = record { begins = upto_begins k; spells = upto_spells k; after = m.after; later = m.later }

  pub exact_upto : (k : ℕ) (ts : List T) → Exact (λ n. upto k (G n)) go least ts (many_from test read k ts)
  exact_upto zero ts = none_done go least ts
  exact_upto (suc k) ts = step_read (λ n. upto k (G n)) (upto_turn k) (many_from test read k) ts (λ rest v e. exact_upto k rest) (test ts) refl
