-- A part any number of times and then another that may begin with the same token: whether a turn comes next is seen at more than one token.
use Rattle.std.proofs.Common.{◌≡◌, ℕ, zero, suc, ◌≤◌, ◌<◌, Bool, true, false, if◌then◌else◌, List, [], ◌∷◌, ◌++◌, length, refl, sym, ◌∙◌, ap, subst, inl, inr, append_assoc, arith, length-append}
use Rattle.cx_grammar.specs.Language.{◌>>◌, ◌<$>◌, many, SpellsMany, BeginsPresent, in_first, in_second, none_yet, some, either}
use Rattle.cx_grammar.specs.Exact.{Family, Outcome, done, stop, Exact}
use Rattle.cx_grammar.specs.Reading.{Reader, made, many_from, many_when, ◌>>=◌, ◌>>◌ as ◌|>◌, ◌<$>◌ as ◌<$$>◌}
use Rattle.cx_grammar.specs.Sets.{by, never}
use Rattle.cx_grammar.proofs.Both.{Joins, exact_both, both_stop}
use Rattle.cx_grammar.proofs.Heads.{Heads}
use Rattle.cx_grammar.proofs.Parts.{Same, exact_same, exact_as}
use Rattle.cx_grammar.proofs.Steps.{Exactly}
use Rattle.cx_syntax.proofs.Beside.{Covers, covers_more, left_beside, right_beside, ends_in}
use Rattle.cx_syntax.proofs.Fronts.{Never, never_covers, never_as, never_both}
use Rattle.cx_syntax_vars.proofs.Covering.{goes_any}

-- ---- a turn and then the same, or what comes behind the turns

module _ {T A B : Type 0} (G : Family T A) (H : Family T B) (stays : (n : ℕ) → (G n).stays ≡ true) (blank : (n : ℕ) → (G n).begins []) where
  abbrev all : Family T (List A × B)
  all n = many (G n) >> H n

  abbrev pushed : A × (List A × B) → List A × B
  pushed u = (u.0 ∷ u.1.0, u.1.1)

  abbrev ended : B → List A × B
  ended b = ([], b)

  abbrev turn : Family T (List A × B)
  turn n = pushed <$> (G n >> all n)

  abbrev last : Family T (List A × B)
  last n = ended <$> H n

  abbrev unrolled : Family T (List A × B)
  unrolled n = either (turn n) (last n)

  unrolled_spells : (n : ℕ) (x : List T) (w : List A × B) → (unrolled n).spells x w → (all n).spells x w
  unrolled_spells n x w (inl s) = let P : List A × B → Type 0 = λ z. (all n).spells x z in let o = s.part in let i = o.second in subst P (sym s.made) (record {
    front = o.front ++ i.front;
    back = i.back;
    cut = o.cut ∙ (ap (λ l. o.front ++ l) i.cut ∙ sym (append_assoc o.front i.front i.back));
    first = (o.front, i.front, refl, o.first, i.first);
    second = i.second;
  })
  unrolled_spells n x w (inr s) = let P : List A × B → Type 0 = λ z. (all n).spells x z in subst P (sym s.made) (record { front = []; back = x; cut = refl; first = refl; second = s.part })

  rolled : (n : ℕ) (x f k : List T) (vs : List A) (b : B) → x ≡ f ++ k → SpellsMany (G n) f vs → (H n).spells k b → (unrolled n).spells x (vs, b)
  rolled n x f k [] b cut s z = let P : List T → Type 0 = λ l. (H n).spells l b in inr (record { value = b; made = refl; part = subst P (sym (cut ∙ ap (λ l. l ++ k) s)) z })
  rolled n x f k (v ∷ vs) b cut s z = inl (record {
    value = (v, (vs, b));
    made = refl;
    part = record {
      front = s.0;
      back = s.1 ++ k;
      cut = cut ∙ (ap (λ l. l ++ k) s.2 ∙ append_assoc s.0 s.1 k);
      first = s.3;
      second = record { front = s.1; back = k; cut = refl; first = s.4; second = z };
    };
  })

  unrolled_begins : (n : ℕ) (x : List T) → (unrolled n).begins x → (all n).begins x
  unrolled_begins n x (inl (in_first b)) = in_first (record { front = []; back = x; cut = refl; turns = []; whole = refl; next = some (stays n) b })
  unrolled_begins n x (inl (in_second f k v cut s (in_first b))) = in_first (record {
    front = f ++ b.front;
    back = b.back;
    cut = cut ∙ (ap (λ l. f ++ l) b.cut ∙ sym (append_assoc f b.front b.back));
    turns = v ∷ b.turns;
    whole = (f, b.front, refl, s, b.whole);
    next = b.next;
  })
  unrolled_begins n x (inl (in_second f k v cut s (in_second f2 k2 vs cut2 s2 b))) = in_second (f ++ f2) k2 (v ∷ vs) (cut ∙ (ap (λ l. f ++ l) cut2 ∙ sym (append_assoc f f2 k2))) (f, f2, refl, s, s2) b
  unrolled_begins n x (inr b) = in_second [] x [] refl refl b

  rolled_next : (n : ℕ) (x : List T) → BeginsPresent (G n) x → (G n).begins x
  rolled_next n x (none_yet e) = subst (λ (l : List T). (G n).begins l) (sym e) (blank n)
  rolled_next n x (some st b) = b

  rolled_first : (n : ℕ) (x f k : List T) (vs : List A) → x ≡ f ++ k → SpellsMany (G n) f vs → BeginsPresent (G n) k → (unrolled n).begins x
  rolled_first n x f k [] cut s b = let P : List T → Type 0 = λ l. (G n).begins l in inl (in_first (subst P (sym (cut ∙ ap (λ l. l ++ k) s)) (rolled_next n k b)))
  rolled_first n x f k (v ∷ vs) cut s b = inl (in_second s.0 (s.1 ++ k) v (cut ∙ (ap (λ l. l ++ k) s.2 ∙ append_assoc s.0 s.1 k)) s.3 (in_first (record { front = s.1; back = k; cut = refl; turns = vs; whole = s.4; next = b })))

  rolled_second : (n : ℕ) (x f k : List T) (vs : List A) → x ≡ f ++ k → SpellsMany (G n) f vs → (H n).begins k → (unrolled n).begins x
  rolled_second n x f k [] cut s b = let P : List T → Type 0 = λ l. (H n).begins l in inr (subst P (sym (cut ∙ ap (λ l. l ++ k) s)) b)
  rolled_second n x f k (v ∷ vs) cut s b = inl (in_second s.0 (s.1 ++ k) v (cut ∙ (ap (λ l. l ++ k) s.2 ∙ append_assoc s.0 s.1 k)) s.3 (in_second s.1 k vs refl s.4 b))

  rolled_begun : (n : ℕ) (x : List T) → (all n).begins x → (unrolled n).begins x
  rolled_begun n x (in_first b) = rolled_first n x b.front b.back b.turns b.cut b.whole b.next
  rolled_begun n x (in_second f k vs cut s b) = rolled_second n x f k vs cut s b

  unrolled_same : Same unrolled all
  unrolled_same = record { spells = unrolled_spells; spelled = λ n x w s. rolled n x s.front s.back w.0 w.1 s.cut s.first s.second; begins = unrolled_begins; begun = rolled_begun }

-- ---- exactness

-- The one that comes next begins a front, and the other goes no further.
pub record Next {T A B : Type 0} (G : Family T A) (H : Family T B) (go : T → Bool) (least : ℕ) (ts : List T) : Type 0 where
  pub front : List T
  pub rest : List T
  pub cut : ts ≡ front ++ rest
  pub begins : (G least).begins front
  pub covers : Covers H (by go) ts front

pub record Last {T A B : Type 0} (G : Family T A) (H : Family T B) (least : ℕ) (ts : List T) : Type 0 where
  pub front : List T
  pub rest : List T
  pub cut : ts ≡ front ++ rest
  pub begins : (H least).begins front
  pub never : Never G ts front

module _ {T A B : Type 0} {G : Family T A} {H : Family T B} {p go : T → Bool} {least : ℕ} {read : Reader T A} {s : Reader T B} (test : List T → Bool)
    (none : test [] ≡ false) (h : Heads G p) (stays : (n : ℕ) → (G n).stays ≡ true) (g : Exactly G (by never) least read) (b : Exactly H (by go) least s)
    (next : (ts : List T) → test ts ≡ true → Next G H go least ts) (end : (ts : List T) → test ts ≡ false → Last G H least ts)
  where
    pub exactly_many_then : Exactly (λ n. many (G n) >> H n) (by go) least (many_when test read |> s)
    unfolding many_when
    exactly_many_then = record { at = λ ts. at_most (length ts) ts (omega arith) }
      where
        joins : Joins G (all G H stays h.blank) (by never) (by go) (λ v t. go t)
        joins = record { begins = λ n v t x z i. cc; spells = λ n v t x w z i. cc; after = λ v t i. i; over = λ n v t z i. cc }

        then_read : Outcome T (List A) → Outcome T (List A × B)
        then_read o = o >>= (λ vs rest. made (λ z. (vs, z)) (s rest))

        all_read : ℕ → Reader T (List A × B)
        all_read m ts = then_read (many_from test read m ts)

        pushed_read : (v : A) (o : Outcome T (List A)) → then_read (made (λ vs. v ∷ vs) o) ≡ made (pushed G H stays h.blank) (made (λ z. (v, z)) (then_read o))
        pushed_read v (stop rule left) = refl
        pushed_read v (done vs rest) = pushed_end v vs (s rest)
          where
            pushed_end : (v : A) (vs : List A) (o : Outcome T B) → made (λ z. (v ∷ vs, z)) o ≡ made (pushed G H stays h.blank) (made (λ z. (v, z)) (made (λ z. (vs, z)) o))
            pushed_end v vs (done z rest) = refl
            pushed_end v vs (stop rule left) = refl

        shorter_rest : (ts used rest : List T) (v : A) → ts ≡ used ++ rest → (G least).spells used v → length rest < length ts
        shorter_rest ts [] rest v e z = absurd (h.full least v z)
        shorter_rest ts (t ∷ used) rest v e z = let l : length ts ≡ length ((t ∷ used) ++ rest) = ap length e in let m = length-append (t ∷ used) rest in let m2 = length-append (t ∷ []) used in omega arith

        turn_read : (m : ℕ) → ((rest : List T) → length rest ≤ m → Exact (all G H stays h.blank) (by go) least rest (all_read m rest)) → (ts : List T) → length ts ≤ suc m → (o : Outcome T A) → Exact G (by never) least ts o
            → Exact (turn G H stays h.blank) (by go) least ts (then_read (o >>= (λ v rest. made (λ vs. v ∷ vs) (many_from test read m rest))))
        turn_read m again ts fits (done v rest) e = let short = shorter_rest ts e.used rest v e.core.cut (e.spells least (omega arith)) in let below : length rest ≤ m = omega arith in
            let P : Outcome T (List A × B) → Type 0 = λ z. Exact (turn G H stays h.blank) (by go) least ts z in
            subst P (sym (pushed_read v (many_from test read m rest))) (exact_as (pushed G H stays h.blank) (λ n. G n >> all G H stays h.blank n) (by go) (by go) (λ w t i. i) least ts (made (λ z. (v, z)) (all_read m rest))
            (exact_both G (all G H stays h.blank) (by never) (by go) (by go) joins least ts rest v (all_read m rest) e (again rest below)))
        turn_read m again ts fits (stop rule left) e = exact_as (pushed G H stays h.blank) (λ n. G n >> all G H stays h.blank n) (by go) (by go) (λ w t i. i) least ts (stop rule left)
            (both_stop G (all G H stays h.blank) (by never) (by go) (by go) joins least ts rule left e)

        covers_last : (ts used : List T) → Covers H (by go) ts used → Covers (last G H stays h.blank) (by go) ts used
        covers_last ts used c = record { only = λ n x y w e z. let k = c.only n x y z.value e z.part in (k.0, goes_any go z.value w y k.1); ends = c.ends }

        turn_next : (ts : List T) (o : Outcome T (List A × B)) → Exact (turn G H stays h.blank) (by go) least ts o → Next G H go least ts → Exact (unrolled G H stays h.blank) (by go) least ts o
        turn_next ts o e n = left_beside (turn G H stays h.blank) (last G H stays h.blank) (by go) least ts o e
            (covers_more (ends_in (turn G H stays h.blank) (by go) least ts o e n.front n.rest n.cut (in_first n.begins)) (covers_last ts n.front n.covers))

        last_next : (ts : List T) → Last G H least ts → Exact (unrolled G H stays h.blank) (by go) least ts (then_read (done [] ts))
        last_next ts n = let e = exact_as (ended G H stays h.blank) H (by go) (by go) (λ w t i. i) least ts (s ts) (b.at ts) in
            right_beside (turn G H stays h.blank) (last G H stays h.blank) (by go) least ts (made (ended G H stays h.blank) (s ts)) e
            (covers_more (ends_in (last G H stays h.blank) (by go) least ts (made (ended G H stays h.blank) (s ts)) e n.front n.rest n.cut n.begins)
            (never_covers (by go) (never_as (pushed G H stays h.blank) (never_both (all G H stays h.blank) n.never))))

        by_test : (m : ℕ) → ((rest : List T) → length rest ≤ m → Exact (all G H stays h.blank) (by go) least rest (all_read m rest)) → (ts : List T) → length ts ≤ suc m → (c : Bool) → test ts ≡ c
            → Exact (unrolled G H stays h.blank) (by go) least ts (then_read (if c then read ts >>= (λ v rest. made (λ vs. v ∷ vs) (many_from test read m rest)) else done [] ts))
        by_test m again ts fits true e = turn_next ts (then_read (read ts >>= (λ v rest. made (λ vs. v ∷ vs) (many_from test read m rest)))) (turn_read m again ts fits (read ts) (g.at ts)) (next ts e)
        by_test m again ts fits false e = last_next ts (end ts e)

        at_most : (m : ℕ) (ts : List T) → length ts ≤ m → Exact (all G H stays h.blank) (by go) least ts (all_read m ts)
        at_most zero [] fits = exact_same (unrolled G H stays h.blank) (all G H stays h.blank) (by go) (unrolled_same G H stays h.blank) least [] (all_read zero []) (last_next [] (end [] none))
        at_most zero (t ∷ ts) fits = let l = length-append (t ∷ []) ts in absurd (omega arith)
        at_most (suc m) ts fits = exact_same (unrolled G H stays h.blank) (all G H stays h.blank) (by go) (unrolled_same G H stays h.blank) least ts (all_read (suc m) ts) (by_test m (at_most m) ts fits (test ts) refl)

-- ---- what is made of the first of two parts

module _ {T A B C : Type 0} (G : Family T A) (H : Family T C) (f : A → B) where
  abbrev made_first : A × C → B × C
  made_first u = (f u.0, u.1)

  first_same : Same (λ n. made_first <$> (G n >> H n)) (λ n. (f <$> G n) >> H n)
  first_same = record {
    spells = λ n x w s. let P : B × C → Type 0 = λ z. ((f <$> G n) >> H n).spells x z in
        subst P (sym s.made) (record { front = s.part.front; back = s.part.back; cut = s.part.cut; first = record { value = s.value.0; made = refl; part = s.part.first }; second = s.part.second });
    spelled = λ n x w s. record { value = (s.first.value, w.1); made = ap (λ z. (z, w.1)) s.first.made; part = record { front = s.front; back = s.back; cut = s.cut; first = s.first.part; second = s.second } };
    begins = λ n x b. elim b [ in_first c ↦ in_first c | in_second g k v cut s c ↦ in_second g k (f v) cut (record { value = v; made = refl; part = s }) c ];
    begun = λ n x b. elim b [ in_first c ↦ in_first c | in_second g k v cut s c ↦ in_second g k s.value cut s.part c ];
  }

  module _ {go : T → Bool} {least : ℕ} (read : Reader T A) (s : Reader T C) (e : Exactly (λ n. G n >> H n) (by go) least (read |> s)) where
    pub exactly_first_as : Exactly (λ n. (f <$> G n) >> H n) (by go) least ((f <$$> read) |> s)
    exactly_first_as = record {
      at = λ ts. let P : Outcome T (B × C) → Type 0 = λ o. Exact (λ n. (f <$> G n) >> H n) (by go) least ts o in
          subst P (read_by (read ts)) (exact_same (λ n. made_first <$> (G n >> H n)) (λ n. (f <$> G n) >> H n) (by go) first_same least ts (made made_first ((read |> s) ts))
          (exact_as made_first (λ n. G n >> H n) (by go) (by go) (λ v t i. i) least ts ((read |> s) ts) (e.at ts)));
    }
      where
        read_end : (v : A) (o : Outcome T C) → made made_first (made (λ z. (v, z)) o) ≡ made (λ z. (f v, z)) o
        read_end v (done z rest) = refl
        read_end v (stop rule left) = refl

        read_by : (o : Outcome T A) → made made_first (o >>= (λ v rest. made (λ z. (v, z)) (s rest))) ≡ (made f o >>= (λ v rest. made (λ z. (v, z)) (s rest)))
        read_by (done v rest) = read_end v (s rest)
        read_by (stop rule left) = refl
