-- A part with what may follow its value, and turns that depend on the one before, are read exactly.
use Rattle.std.proofs.Common.{◌≡◌, ℕ, zero, suc, ◌+◌, ◌≤◌, ◌<◌, Bool, true, false, if◌then◌else◌, IsTrue, List, [], ◌∷◌, ◌++◌, length, refl, sym, ◌∙◌, ap, subst, inl, inr, append_assoc, arith, length-append}
use Rattle.std.proofs.lemmas.List.{append-nil}
use Rattle.cx_base.specs.declared.rule.Rule.{Rule}
use Rattle.cx_grammar.specs.Language.{◌<$>◌, BeginsPresent, none_yet, present, joined, either, no_turn}
use Rattle.cx_grammar.specs.Exact.{Family, GoesOn, Within, same, shorter, Core, Deepens, Reaches, Done, Stopped, Outcome, done, stop, Exact}
use Rattle.cx_grammar.specs.Reading.{Reader, made, sees, ◌>>=◌}
use Rattle.cx_grammar.proofs.Lists.{splits, no_front}
use Rattle.cx_grammar.proofs.Both.{append_within, pair_same}
use Rattle.cx_grammar.proofs.Heads.{Heads, Opens, heads_present}
use Rattle.cx_grammar.proofs.Elsewhere.{elsewhere_as}
use Rattle.cx_grammar.proofs.Parts.{Elsewhere, Same, elsewhere, exact_as, exact_left, exact_right, exact_same}
use Rattle.cx_grammar.proofs.Turns.{no_turns, covered_none, none_done}
use Rattle.cx_grammar.proofs.Steps.{Exactly}
use Rattle.cx_syntax.specs.Linked.{then_by, then_first, then_second, links, SpellsLinks, BeginsLinks, flag_behind, read_then, links_from, links_of}

-- What follows a value does not begin with what goes on with it; where it is empty, what goes on with the value goes on with both.
pub record Follows {T A B : Type 0} (G : Family T A) (H : A → Family T B) (go_g : A → T → Bool) (go_h : A → B → T → Bool) (go : A × B → T → Bool) : Type 0 where
  pub begins : (n : ℕ) (a : A) (t : T) (x : List T) → (H a n).begins (t ∷ x) → IsTrue (go_g a t) → ⊥
  pub spells : (n : ℕ) (a : A) (t : T) (x : List T) (w : B) → (H a n).spells (t ∷ x) w → IsTrue (go_g a t) → ⊥
  pub after : (v : A × B) (t : T) → IsTrue (go_h v.0 v.1 t) → IsTrue (go v t)
  pub over : (n : ℕ) (v : A × B) (t : T) → (H v.0 n).spells [] v.1 → IsTrue (go_g v.0 t) → IsTrue (go v t)

module _ {T A B : Type 0} (G : Family T A) (H : A → Family T B) (go_g : A → T → Bool) (go_h : A → B → T → Bool) (go : A × B → T → Bool)
    (j : Follows G H go_g go_h go)
  where
    abbrev pub both : Family T (A × B)
    both n = then_by (G n) (λ a. H a n)

    pub goes_on : (v : A × B) (y : List T) → GoesOn (go_h v.0) v.1 y → GoesOn go v y
    goes_on v [] h = h
    goes_on v (t ∷ y) h = j.after v t h

    pub goes_on_at : (v : A) (w : A × B) (y : List T) → w.0 ≡ v → GoesOn (go_h v) w.1 y → GoesOn go w y
    goes_on_at v w y e h = goes_on w y (let P : A → Type 0 = λ a. GoesOn (go_h a) w.1 y in subst P (sym e) h)

    pub goes_over : (n : ℕ) (v : A × B) (y : List T) → (H v.0 n).spells [] v.1 → GoesOn go_g v.0 y → GoesOn go v y
    goes_over n v [] s h = h
    goes_over n v (t ∷ y) s h = j.over n v t s h

    pub from_shorter : (n : ℕ) (a f k x y : List T) (w : A × B) → Within a f → x ≡ f ++ k → (H w.0 n).spells k w.1 → GoesOn go_g w.0 (k ++ y) → Within a x × GoesOn go w y
    from_shorter n a f [] x y w within cut s goes = (subst (Within a) (sym (cut ∙ append-nil f)) within, goes_over n w y s goes)
    from_shorter n a f (t ∷ k) x y w within cut s goes = absurd (j.spells n w.0 t k w.1 s goes)

    pub ends_shorter : (n : ℕ) (a f k x y : List T) (w : A) → Within a f → x ≡ f ++ k → (H w n).begins k → GoesOn go_g w (k ++ y) → Within a x
    ends_shorter n a f [] x y w within cut s goes = subst (Within a) (sym (cut ∙ append-nil f)) within
    ends_shorter n a f (t ∷ k) x y w within cut s goes = absurd (j.begins n w t k s goes)

    pub within_both : (a b f k x : List T) → x ≡ f ++ k → f ≡ a → Within b k → Within (a ++ b) x
    within_both a b f k x cut e (d, be) = (d, ap (λ l. a ++ l) be ∙ (sym (append_assoc a k d) ∙ ap (λ l. l ++ d) (ap (λ l. l ++ k) (sym e) ∙ sym cut)))

    pub spelled_at : (n : ℕ) (v a : A) (k : List T) (w : B) → a ≡ v → (H a n).spells k w → (H v n).spells k w
    spelled_at n v a k w e s = let P : A → Type 0 = λ z. (H z n).spells k w in subst P e s

    pub begun_at : (n : ℕ) (v a : A) (k : List T) → a ≡ v → (H a n).begins k → (H v n).begins k
    begun_at n v a k e s = let P : A → Type 0 = λ z. (H z n).begins k in subst P e s

    -- the first part was read, and the second part was read or stopped
    pub core_both : (least : ℕ) (R : ℕ → Type 0) (S : B → Type 0) (ts a r b rest : List T) (v : A)
        → Core G go_g least (λ n. Unit {0}) (λ w. w ≡ v) ts a r → ((n : ℕ) → least ≤ n → (G n).spells a v)
        → Core (H v) (go_h v) least R S r b rest
        → Core both go least R (λ w. (w.0 ≡ v) × S w.1) ts (a ++ b) rest
    core_both least R S ts a r b rest v cg sg ch = record {
      cut = cg.cut ∙ (ap (λ l. a ++ l) ch.cut ∙ sym (append_assoc a b rest));
      begins = λ n p x y e. elim (splits x y a b (sym e)) [
        | inl (d, xe, be) ↦ then_second a d v xe (sg n p) (ch.begins n p d y be)
        | inr (d, ae, ye) ↦ then_first (cg.begins n p x d ae)
      ];
      only = λ n q x y w e s. elim (cg.only n tt s.front (s.back ++ y) w.0 (e ∙ (ap (λ l. l ++ y) s.cut ∙ append_assoc s.front s.back y)) s.first) [
        | same xe ye we ↦ elim (ch.only n q s.back y w.1 (sym ye) (spelled_at n v w.0 s.back w.1 we s.second)) [
          | same xe2 ye2 we2 ↦ same (s.cut ∙ (ap (λ l. l ++ s.back) xe ∙ ap (λ l. a ++ l) xe2)) ye2 (we, we2)
          | shorter within goes ↦ shorter (within_both a b s.front s.back x s.cut xe within) (goes_on_at v w y we goes)
        ]
        | shorter within goes ↦ let p = from_shorter n a s.front s.back x y w within s.cut s.second goes in shorter (append_within a b x p.0) p.1
      ];
      ends = λ n q x y e bg. elim bg [
        | then_first b1 ↦ append_within a b x (cg.ends n tt x y e b1)
        | then_second front back w cut s bk ↦ elim (cg.only n tt front (back ++ y) w (e ∙ (ap (λ l. l ++ y) cut ∙ append_assoc front back y)) s) [
          | same xe ye we ↦ within_both a b front back x cut xe (ch.ends n q back y (sym ye) (begun_at n v w back we bk))
          | shorter within goes ↦ append_within a b x (ends_shorter n a front back x y w within cut bk goes)
        ]
      ];
    }

    -- the first part stopped
    pub core_stop : (least : ℕ) (R : ℕ → Type 0) (ts a rest : List T) → Core G go_g least R (λ w. ⊥) ts a rest → Core both go least R (λ w. ⊥) ts a rest
    core_stop least R ts a rest cg = record {
      cut = cg.cut;
      begins = λ n p x y e. then_first (cg.begins n p x y e);
      only = λ n q x y w e s. elim (cg.only n q s.front (s.back ++ y) w.0 (e ∙ (ap (λ l. l ++ y) s.cut ∙ append_assoc s.front s.back y)) s.first) [
        | same xe ye we ↦ absurd we
        | shorter within goes ↦ let p = from_shorter n a s.front s.back x y w within s.cut s.second goes in shorter p.0 p.1
      ];
      ends = λ n q x y e bg. elim bg [
        | then_first b1 ↦ cg.ends n q x y e b1
        | then_second front back w cut s bk ↦ elim (cg.only n q front (back ++ y) w (e ∙ (ap (λ l. l ++ y) cut ∙ append_assoc front back y)) s) [
          | same xe ye we ↦ absurd we
          | shorter within goes ↦ ends_shorter n a front back x y w within cut bk goes
        ]
      ];
    }

    pub deep_first : (rule : Rule) (a rest : List T) → Deepens rule G a rest → Deepens rule both a rest
    deep_first rule a rest deep = λ e. let d = deep e in record { token = d.token; after = d.after; is = d.is; enough = d.enough; begins = λ n p. then_first (d.begins n p) }

    pub deep_second : (rule : Rule) (least : ℕ) (a b rest : List T) (v : A) → ((n : ℕ) → least ≤ n → (G n).spells a v) → Deepens rule (H v) b rest → Deepens rule both (a ++ b) rest
    deep_second rule least a b rest v s deep = λ e. let d = deep e in record {
      token = d.token;
      after = d.after;
      is = d.is;
      enough = least + d.enough;
      begins = λ n p. let q : least ≤ n = omega arith in let r : d.enough ≤ n = omega arith in
          then_second a (b ++ d.token ∷ []) v (append_assoc a b (d.token ∷ [])) (s n q) (d.begins n r);
    }

    pub then_stop : (least : ℕ) (ts : List T) (rule : Rule) (left : ℕ) → Stopped G go_g least ts rule left → Stopped both go least ts rule left
    then_stop least ts rule left s = record { used = s.used; rest = s.rest; core = core_stop least (Reaches rule least) ts s.used s.rest s.core; size = s.size; is = s.is; deep = deep_first rule s.used s.rest s.deep }

    pub then_read : (least : ℕ) (ts rest : List T) (v : A) (o : Outcome T B) → Done G go_g least ts v rest → Exact (H v) (go_h v) least rest o → Exact both go least ts (made (λ b. (v, b)) o)
    then_read least ts rest v (done w more) g h =
        record {
          used = g.used ++ h.used;
          core = let c = core_both least (λ n. Unit {0}) (λ u. u ≡ w) ts g.used rest h.used more v g.core g.spells h.core in record {
            cut = c.cut;
            begins = c.begins;
            ends = c.ends;
            only = λ n q x y u e s. elim (c.only n q x y u e s) [ same a b d ↦ same a b (pair_same u v w d.0 d.1) | shorter a b ↦ shorter a b ];
          };
          spells = λ n p. record { front = g.used; back = h.used; cut = refl; first = g.spells n p; second = h.spells n p };
        }
    then_read least ts rest v (stop rule left) g h =
        record {
          used = g.used ++ h.used;
          rest = h.rest;
          size = h.size;
          is = h.is;
          core = let c = core_both least (Reaches rule least) (λ u. ⊥) ts g.used rest h.used h.rest v g.core g.spells h.core in record {
            cut = c.cut;
            begins = c.begins;
            ends = c.ends;
            only = λ n q x y u e s. elim (c.only n q x y u e s) [ same a b d ↦ absurd d.1 | shorter a b ↦ shorter a b ];
          };
          deep = deep_second rule least g.used h.used h.rest v g.spells h.deep;
        }

    module _ (least : ℕ) (r : Reader T A) (s : A → Reader T B) (g : Exactly G go_g least r) (h : (a : A) → Exactly (H a) (go_h a) least (s a)) where
      then_at : (ts : List T) (o : Outcome T A) → Exact G go_g least ts o → Exact both go least ts (o >>= (λ a rest. made (λ b. (a, b)) (s a rest)))
      then_at ts (done v rest) e = then_read least ts rest v (s v rest) e ((h v).at rest)
      then_at ts (stop rule left) e = then_stop least ts rule left e

      pub exactly_then_by : Exactly both go least (read_then r s)
      exactly_then_by = record { at = λ ts. then_at ts (r ts) (g.at ts) }

    -- ---- where the first part begins with another token

    pub front_spelled : (ts : List T) → Elsewhere G ts → (n : ℕ) (t : T) (x y f k : List T) (w : A) → ts ≡ t ∷ (x ++ y) → t ∷ x ≡ f ++ k → (G n).spells f w → ⊥
    front_spelled ts o n t x y [] k w e cut s = o.empty n w s
    front_spelled ts o n t x y (u ∷ f) k w e cut s =
        let heads : u ≡ t = cc in let tails : x ≡ f ++ k = cc in let P : T → Type 0 = λ z. (G n).spells (z ∷ f) w in
        o.spells n t f (k ++ y) w (e ∙ ap (λ l. t ∷ l) (ap (λ l. l ++ y) tails ∙ append_assoc f k y)) (subst P heads s)

    pub elsewhere_then : (ts : List T) → Elsewhere G ts → Elsewhere both ts
    elsewhere_then ts o = record {
      empty = λ n w s. o.empty n w.0 (let none : s.front ≡ [] = no_front s.front s.back (sym s.cut) in let P : List T → Type 0 = λ l. (G n).spells l w.0 in subst P none s.first);
      spells = λ n t x y w e s. front_spelled ts o n t x y s.front s.back w.0 e s.cut s.first;
      begins = λ n t x y e b. elim b [ then_first b1 ↦ o.begins n t x y e b1 | then_second f k w cut s bk ↦ front_spelled ts o n t x y f k w e cut s ];
    }

-- ---- turns

module _ {T B : Type 0} (h : Bool → Family T B) (flag : B → Bool) where
  abbrev pub linked : Bool → Family T (List B)
  linked b n = links (λ c. h c n) flag b

  -- one turn and then others
  abbrev more : Bool → Family T (List B)
  more b n = joined <$> then_by (present (h b n)) (λ v. links (λ c. h c n) flag (flag v))

  abbrev unrolled : Bool → Family T (List B)
  unrolled b n = either (more b n) no_turn

  pub unrolled_spells : (b : Bool) (n : ℕ) (x : List T) (w : List B) → (unrolled b n).spells x w → (linked b n).spells x w
  unrolled_spells b n x w (inl s) = let P : List B → Type 0 = λ l. (linked b n).spells x l in subst P (sym s.made) (s.part.front, s.part.back, s.part.cut, s.part.first, s.part.second)
  unrolled_spells b n x w (inr s) = let P : List B → Type 0 = λ l. (linked b n).spells x l in subst P (sym s.made) s.part

  pub unrolled_spelled : (b : Bool) (n : ℕ) (x : List T) (w : List B) → (linked b n).spells x w → (unrolled b n).spells x w
  unrolled_spelled b n x [] s = inr (record { value = tt; made = refl; part = s })
  unrolled_spelled b n x (v ∷ vs) s = inl (record { value = (v, vs); made = refl; part = record { front = s.0; back = s.1; cut = s.2; first = s.3; second = s.4 } })

  pub begins_one : (b : Bool) (n : ℕ) (x : List T) → BeginsPresent (h b n) x → (linked b n).begins x
  begins_one b n x p = record { front = []; back = x; cut = refl; turns = []; whole = refl; next = p }

  pub begins_more : (b : Bool) (n : ℕ) (x front back : List T) (v : B) → x ≡ front ++ back → (h b n).spells front v → BeginsLinks (λ c. h c n) flag (flag v) back → (linked b n).begins x
  begins_more b n x front back v cut s k = record { front = front ++ k.front; back = k.back; cut = cut ∙ (ap (λ l. front ++ l) k.cut ∙ sym (append_assoc front k.front k.back)); turns = v ∷ k.turns; whole = (front, k.front, refl, s, k.whole); next = k.next }

  pub unrolled_begins : (b : Bool) (n : ℕ) (x : List T) → (unrolled b n).begins x → (linked b n).begins x
  unrolled_begins b n x (inl (then_first p)) = begins_one b n x p
  unrolled_begins b n x (inl (then_second front back v cut s k)) = begins_more b n x front back v cut s k
  unrolled_begins b n x (inr e) = begins_one b n x (none_yet e)

  pub begun_from : (b : Bool) (n : ℕ) (x front back : List T) (vs : List B) → x ≡ front ++ back → SpellsLinks (λ c. h c n) flag b front vs → BeginsPresent (h (flag_behind flag b vs) n) back → (unrolled b n).begins x
  begun_from b n x front back [] cut s p = let e : x ≡ back = cut ∙ ap (λ l. l ++ back) s in let P : List T → Type 0 = λ l. BeginsPresent (h b n) l in inl (then_first (subst P (sym e) p))
  begun_from b n x front back (v ∷ vs) cut s p = inl (then_second s.0 (s.1 ++ back) v (cut ∙ (ap (λ l. l ++ back) s.2 ∙ append_assoc s.0 s.1 back)) s.3
      (record { front = s.1; back = back; cut = refl; turns = vs; whole = s.4; next = p }))

  pub unrolled_same : (b : Bool) → Same (unrolled b) (linked b)
  unrolled_same b = record { spells = unrolled_spells b; spelled = unrolled_spelled b; begins = unrolled_begins b; begun = λ n x k. begun_from b n x k.front k.back k.turns k.cut k.whole k.next }

-- Turns that are never empty, read exactly where the test passes; what goes on with one never begins the next.
pub record Turns {T B : Type 0} (h : Bool → Family T B) (flag : B → Bool) (go_turn : B → T → Bool) (go : Bool → List B → T → Bool) (test : Bool → T → Bool) (read : Bool → Reader T B) (least : ℕ) : Type 0 where
  pub full : (b : Bool) (n : ℕ) (w : B) → (h b n).spells [] w → ⊥
  pub item : (b : Bool) (ts : List T) → sees (test b) ts ≡ true → Exact (λ n. present (h b n)) go_turn least ts (read b ts)
  pub other : (b : Bool) (ts : List T) → sees (test b) ts ≡ false → Elsewhere (λ n. present (h b n)) ts
  pub begins : (n : ℕ) (a : B) (t : T) (x : List T) → BeginsPresent (h (flag a) n) (t ∷ x) → IsTrue (go_turn a t) → ⊥
  pub spells : (n : ℕ) (a : B) (t : T) (x : List T) (w : B) → (h (flag a) n).spells (t ∷ x) w → IsTrue (go_turn a t) → ⊥
  pub first : (b : Bool) (ts : List T) → sees (test b) ts ≡ true → GoesOn (go b) [] ts
  pub after : (b : Bool) (v : B) (t : T) → IsTrue (go_turn v t) → IsTrue (go b (v ∷ []) t)
  pub later : (b : Bool) (v : B) (vs : List B) (t : T) → IsTrue (go (flag v) vs t) → IsTrue (go b (v ∷ vs) t)

module _ {T B : Type 0} (h : Bool → Family T B) (flag : B → Bool) (go_turn : B → T → Bool) (go : Bool → List B → T → Bool) (test : Bool → T → Bool) (read : Bool → Reader T B) (least : ℕ) (m : Turns h flag go_turn go test read least) where
  pub first_spelled : (b : Bool) (n : ℕ) (t : T) (x f k : List T) (v : B) (P : T → Type 0) → ((t : T) (x : List T) (w : B) → (h b n).spells (t ∷ x) w → P t) → t ∷ x ≡ f ++ k → (h b n).spells f v → P t
  first_spelled b n t x [] k v P q e s = absurd (m.full b n v s)
  first_spelled b n t x (u ∷ f) k v P q e s = let heads : u ≡ t = cc in subst P heads (q u f v s)

  pub links_spelled : (b : Bool) (n : ℕ) (t : T) (x : List T) (w : List B) (P : T → Type 0) → ((t : T) (x : List T) (w : B) → (h b n).spells (t ∷ x) w → P t) → (linked h flag b n).spells (t ∷ x) w → P t
  links_spelled b n t x [] P q s = cc
  links_spelled b n t x (v ∷ vs) P q s = first_spelled b n t x s.0 s.1 v P q s.2 s.3

  pub links_begun : (b : Bool) (n : ℕ) (t : T) (x f k : List T) (vs : List B) (P : T → Type 0) → ((t : T) (x : List T) (w : B) → (h b n).spells (t ∷ x) w → P t) → ((t : T) (x : List T) → BeginsPresent (h b n) (t ∷ x) → P t)
      → t ∷ x ≡ f ++ k → SpellsLinks (λ c. h c n) flag b f vs → BeginsPresent (h (flag_behind flag b vs) n) k → P t
  links_begun b n t x f k [] P q q2 e s c = let whole : k ≡ t ∷ x = sym (e ∙ ap (λ l. l ++ k) s) in let Q : List T → Type 0 = λ l. BeginsPresent (h b n) l in q2 t x (subst Q whole c)
  links_begun b n t x f k (v ∷ vs) P q q2 e s c = first_spelled b n t x s.0 (s.1 ++ k) v P q (e ∙ (ap (λ l. l ++ k) s.2 ∙ append_assoc s.0 s.1 k)) s.3

  pub spelled_none : (b : Bool) (n : ℕ) (w : List B) → (linked h flag b n).spells [] w → w ≡ []
  spelled_none b n [] s = refl
  spelled_none b n (v ∷ vs) s = absurd (m.full b n v (let P : List T → Type 0 = λ l. (h b n).spells l v in subst P (no_front s.0 s.1 (sym s.2)) s.3))

  pub over_none : (b c : Bool) (v : B) (vs : List B) (t : T) → vs ≡ [] → IsTrue (go_turn v t) → IsTrue (go b (v ∷ vs) t)
  over_none b c v vs t e i = let P : List B → Type 0 = λ l. IsTrue (go b (v ∷ l) t) in subst P (sym e) (m.after b v t i)

  abbrev go_more : Bool → B × List B → T → Bool
  go_more b p t = go b (p.0 ∷ p.1) t

  pub follows : (b : Bool) → Follows (λ n. present (h b n)) (λ v. linked h flag (flag v)) go_turn (λ v. go (flag v)) (go_more b)
  follows b = record {
    begins = λ n a t x k i. links_begun (flag a) n t x k.front k.back k.turns (λ u. IsTrue (go_turn a u) → ⊥) (λ u y w s. m.spells n a u y w s) (λ u y c. m.begins n a u y c) k.cut k.whole k.next i;
    spells = λ n a t x w s i. links_spelled (flag a) n t x w (λ u. IsTrue (go_turn a u) → ⊥) (λ u y v z. m.spells n a u y v z) s i;
    after = λ v t i. m.later b v.0 v.1 t i;
    over = λ n v t s i. over_none b (flag v.0) v.0 v.1 t (spelled_none (flag v.0) n v.1 s) i;
  }

  abbrev whole : Bool → Family T (B × List B)
  whole b = both (λ n. present (h b n)) (λ v. linked h flag (flag v)) go_turn (λ v. go (flag v)) (go_more b) (follows b)

  abbrev tails : Bool → Family T (List B)
  tails b n = joined <$> whole b n

  abbrev step : Bool → Family T (List B)
  step b n = either (tails b n) no_turn

  pub made_then : (v : B) (o : Outcome T (List B)) → made joined (made (λ vs. (v, vs)) o) ≡ made (λ vs. v ∷ vs) o
  made_then v (done vs rest) = refl
  made_then v (stop rule left) = refl

  pub none_read : (b : Bool) (ts : List T) → Elsewhere (λ n. present (h b n)) ts → Exact (step b) (go b) least ts (done [] ts)
  none_read b ts o = exact_right (tails b) (no_turns (go b)) (go b) least ts (done [] ts)
      (elsewhere (tails b) (go b) ts (elsewhere_as joined (whole b) ts (elsewhere_then (λ n. present (h b n)) (λ v. linked h flag (flag v)) go_turn (λ v. go (flag v)) (go_more b) (follows b) ts o)))
      (none_done (go b) least ts)

  pub item_read : (b : Bool) (next : Bool → List T → Outcome T (List B)) (ts : List T) → sees (test b) ts ≡ true → (o : Outcome T B) → ((rest : List T) (v : B) → o ≡ done v rest → Exact (linked h flag (flag v)) (go (flag v)) least rest (next (flag v) rest))
      → Exact (λ n. present (h b n)) go_turn least ts o → Exact (step b) (go b) least ts (o >>= (λ v rest. made (λ vs. v ∷ vs) (next (flag v) rest)))
  item_read b next ts is (done v rest) again g = let P : Outcome T (List B) → Type 0 = λ z. Exact (tails b) (go b) least ts z in
      exact_left (tails b) (no_turns (go b)) (go b) least ts (made (λ vs. v ∷ vs) (next (flag v) rest)) (covered_none (go b) ts (m.first b ts is))
      (subst P (made_then v (next (flag v) rest)) (exact_as joined (whole b) (go_more b) (go b) (λ p t i. i) least ts (made (λ vs. (v, vs)) (next (flag v) rest))
      (then_read (λ n. present (h b n)) (λ u. linked h flag (flag u)) go_turn (λ u. go (flag u)) (go_more b) (follows b) least ts rest v (next (flag v) rest) g (again rest v refl))))
  item_read b next ts is (stop rule left) again g = exact_left (tails b) (no_turns (go b)) (go b) least ts (stop rule left) (covered_none (go b) ts (m.first b ts is))
      (exact_as joined (whole b) (go_more b) (go b) (λ p t i. i) least ts (stop rule left)
      (then_stop (λ n. present (h b n)) (λ u. linked h flag (flag u)) go_turn (λ u. go (flag u)) (go_more b) (follows b) least ts rule left g))

  pub nothing_here : (t : T) (x : List T) → [] ≡ t ∷ x → ⊥
  nothing_here t x e = cc

  pub at_end : (b : Bool) → Elsewhere (λ n. present (h b n)) []
  at_end b = record { empty = m.full b; spells = λ n t x y w e s. nothing_here t (x ++ y) e; begins = λ n t x y e k. nothing_here t (x ++ y) e }

  pub shorter_rest : (b : Bool) (n : ℕ) (ts used rest : List T) (v : B) → ts ≡ used ++ rest → (h b n).spells used v → length rest < length ts
  shorter_rest b n ts [] rest v e s = absurd (m.full b n v s)
  shorter_rest b n ts (t ∷ used) rest v e s = let l : length ts ≡ length (t ∷ used ++ rest) = ap length e in let k = length-append (t ∷ used) rest in omega arith

  pub read_shorter : (b : Bool) (ts rest : List T) (v : B) → Done (λ n. present (h b n)) go_turn least ts v rest → length rest < length ts
  read_shorter b ts rest v g = shorter_rest b least ts g.used rest v g.core.cut (g.spells least (omega arith))

  pub item_shorter : (b : Bool) (ts rest : List T) (v : B) → sees (test b) ts ≡ true → read b ts ≡ done v rest → length rest < length ts
  item_shorter b ts rest v is e = read_shorter b ts rest v (let P : Outcome T B → Type 0 = λ o. Exact (λ n. present (h b n)) go_turn least ts o in subst P e (m.item b ts is))

  abbrev Reads : ℕ → Type 0
  Reads k = (b : Bool) (ts : List T) → length ts ≤ k → Exact (linked h flag b) (go b) least ts (links_from test read flag k b ts)

  pub by_test : (k : ℕ) → Reads k → (b : Bool) (ts : List T) → length ts ≤ suc k → (c : Bool) → sees (test b) ts ≡ c
      → Exact (step b) (go b) least ts (if c then read b ts >>= (λ v rest. made (λ vs. v ∷ vs) (links_from test read flag k (flag v) rest)) else done [] ts)
  by_test k again b ts fits true is = item_read b (links_from test read flag k) ts is (read b ts)
      (λ rest v e. let short = item_shorter b ts rest v is e in let below : length rest ≤ k = omega arith in again (flag v) rest below) (m.item b ts is)
  by_test k again b ts fits false is = none_read b ts (m.other b ts is)

  pub exact_links : (k : ℕ) → Reads k
  exact_links zero b [] fits = exact_same (step b) (linked h flag b) (go b) (unrolled_same h flag b) least [] (done [] []) (none_read b [] (at_end b))
  exact_links zero b (t ∷ ts) fits = let l = length-append (t ∷ []) ts in absurd (omega arith)
  exact_links (suc k) b ts fits = exact_same (step b) (linked h flag b) (go b) (unrolled_same h flag b) least ts (links_from test read flag (suc k) b ts) (by_test k (exact_links k) b ts fits (sees (test b) ts) refl)

  pub exactly_links : (b : Bool) → Exactly (linked h flag b) (go b) least (links_of test read flag b)
  unfolding links_of
  exactly_links b = record { at = λ ts. exact_links (length ts) b ts (omega arith) }

  -- what the turns begin with
  pub links_follow : (b : Bool) (n : ℕ) (t : T) (x : List T) (P : T → Type 0) → ((t : T) (x : List T) (w : B) → (h b n).spells (t ∷ x) w → P t) → ((t : T) (x : List T) → BeginsPresent (h b n) (t ∷ x) → P t) → (linked h flag b n).begins (t ∷ x) → P t
  links_follow b n t x P q q2 k = links_begun b n t x k.front k.back k.turns P q q2 k.cut k.whole k.next

  pub links_follow_spelled : (b : Bool) (n : ℕ) (t : T) (x : List T) (w : List B) (P : T → Type 0) → ((t : T) (x : List T) (w : B) → (h b n).spells (t ∷ x) w → P t) → (linked h flag b n).spells (t ∷ x) w → P t
  links_follow_spelled b n t x w P q s = links_spelled b n t x w P q s

  pub links_none : (b : Bool) (n : ℕ) (w : List B) → (linked h flag b n).spells [] w → w ≡ []
  links_none b n w s = spelled_none b n w s

-- ---- what turns begin with

module _ {T B : Type 0} (h : Bool → Family T B) (flag : B → Bool) (p : T → Bool) (heads : (b : Bool) → Heads (h b) p) where
  pub turn_first : (b : Bool) (n : ℕ) (t : T) (x f k : List T) (v : B) → t ∷ x ≡ f ++ k → (h b n).spells f v → p t ≡ true
  turn_first b n t x [] k v e s = absurd ((heads b).full n v s)
  turn_first b n t x (u ∷ f) k v e s = let same_token : u ≡ t = cc in subst (λ z. p z ≡ true) same_token ((heads b).spells n u f v s)

  pub opens_spelled : (b : Bool) (n : ℕ) (t : T) (x : List T) (w : List B) → SpellsLinks (λ c. h c n) flag b (t ∷ x) w → p t ≡ true
  opens_spelled b n t x [] s = cc
  opens_spelled b n t x (v ∷ vs) s = turn_first b n t x s.0 s.1 v s.2 s.3

  pub opens_begun : (b : Bool) (n : ℕ) (t : T) (x f k : List T) (vs : List B) → t ∷ x ≡ f ++ k → SpellsLinks (λ c. h c n) flag b f vs → BeginsPresent (h (flag_behind flag b vs) n) k → p t ≡ true
  opens_begun b n t x f k [] e s c = let whole : k ≡ t ∷ x = sym (e ∙ ap (λ l. l ++ k) s) in let Q : List T → Type 0 = λ l. BeginsPresent (h b n) l in (heads_present (heads b)).begins n t x (subst Q whole c)
  opens_begun b n t x f k (v ∷ vs) e s c = turn_first b n t x s.0 (s.1 ++ k) v (e ∙ (ap (λ l. l ++ k) s.2 ∙ append_assoc s.0 s.1 k)) s.3

  pub opens_links : (b : Bool) → Opens (λ n. links (λ c. h c n) flag b) p
  opens_links b = record { spells = λ n t x w s. opens_spelled b n t x w s; begins = λ n t x k. opens_begun b n t x k.front k.back k.turns k.cut k.whole k.next }
