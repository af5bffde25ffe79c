-- Lists with perhaps a separator behind the last item: whether a separator has an item behind it is seen at the second token.
use Rattle.std.proofs.Common.{◌≡◌, ℕ, zero, suc, ◌≤◌, ◌<◌, Bool, true, false, ◌&&◌, if◌then◌else◌, List, [], ◌∷◌, ◌++◌, length, Option, Some, None, refl, sym, ◌∙◌, ap, subst, inl, inr, append_assoc, arith, length-append}
use Rattle.cx_grammar.specs.Language.{passing, the, nothing, whole, ◌>>◌, ◌<$>◌, ◌⊳◌, in_first, in_second, BeginsPresent, none_yet, some, present, either, maybe, SpellsMany, turn_or, joined, spells_others, others_trailed, trailed}
use Rattle.cx_grammar.specs.Exact.{Family, GoesOn, Within, Reaches, Done, Outcome, done, stop, Exact}
use Rattle.cx_grammar.specs.Reading.{Reader, made, sees, sees_two, turns_then, trail_of, others_by, others_trailed_by, trailed_by, ◌>>=◌, ◌⊳◌ as ◌▷◌}
use Rattle.cx_grammar.proofs.Parts.{core_left, core_right, deep_left, deep_right, exact_right, exact_same, exact_present, elsewhere, Same, Covered}
use Rattle.cx_grammar.proofs.Turns.{Turn, more_read, more_stopped, no_more}
use Rattle.cx_grammar.specs.Sets.{by}
use Rattle.cx_grammar.proofs.Heads.{Apart, Sub, Heads, Opens, heads_before, heads_both, heads_the, heads_as, heads_present, heads_elsewhere, opens_as, opens_both, opens_many, opens_maybe, never_sub, same_sub, not_both}
use Rattle.cx_grammar.proofs.Steps.{Exactly, exactly_token, exactly_as, exactly_before, exactly_open, exactly_maybe}
use Rattle.cx_grammar.proofs.Levels.{present_at, begun_by}

-- ---- alternatives that begin with the same tokens, which the one that was read has taken

module _ {T A : Type 0} (G H : Family T A) (go : A → T → Bool) where
  covered_at : (R : ℕ → Type 0) (ts used : List T) → Covered G go (λ n. Unit {0}) ts used → Covered G go R ts used
  covered_at R ts used c = record { only = λ n q. c.only n tt; ends = λ n q. c.ends n tt }

module _ {T A : Type 0} (G H : Family T A) (go : A → T → Bool) (least : ℕ) (ts start y : List T) (cut : ts ≡ start ++ y) where
  pub exact_left_from : (o : Outcome T A) → (G least).begins start → ((used : List T) → Within used start → Covered H go (λ n. Unit {0}) ts used) → Exact G go least ts o → Exact (λ n. either (G n) (H n)) go least ts o
  exact_left_from (done v rest) b c g = record { used = g.used; spells = λ n p. inl (g.spells n p); core = core_left G H go least (λ n. Unit {0}) (λ w. w ≡ v) ts g.used rest (c g.used (g.core.ends least tt start y cut b)) g.core }
  exact_left_from (stop rule left) b c g = record {
    used = g.used;
    rest = g.rest;
    size = g.size;
    is = g.is;
    deep = deep_left G H go rule g.used g.rest g.deep;
    core = core_left G H go least (Reaches rule least) (λ w. ⊥) ts g.used g.rest (covered_at H G go (Reaches rule least) ts g.used (c g.used (g.core.ends least (λ e. refl) start y cut b))) g.core;
  }

  pub exact_right_from : (o : Outcome T A) → (H least).begins start → ((used : List T) → Within used start → Covered G go (λ n. Unit {0}) ts used) → Exact H go least ts o → Exact (λ n. either (G n) (H n)) go least ts o
  exact_right_from (done v rest) b c g = record { used = g.used; spells = λ n p. inr (g.spells n p); core = core_right G H go least (λ n. Unit {0}) (λ w. w ≡ v) ts g.used rest (c g.used (g.core.ends least tt start y cut b)) g.core }
  exact_right_from (stop rule left) b c g = record {
    used = g.used;
    rest = g.rest;
    size = g.size;
    is = g.is;
    deep = deep_right G H go rule g.used g.rest g.deep;
    core = core_right G H go least (Reaches rule least) (λ w. ⊥) ts g.used g.rest (covered_at G H go (Reaches rule least) ts g.used (c g.used (g.core.ends least (λ e. refl) start y cut b))) g.core;
  }

-- ---- the others are a separated item and then others, or perhaps a separator

module _ {T A : Type 0} (p : T → Bool) (G : Family T A) where
  abbrev pub item : Family T A
  item n = p ⊳ G n

  abbrev pub others : Family T (List A)
  others n = others_trailed p (G n)

  abbrev pub trail : Family T (List A)
  trail n = (λ _. []) <$> maybe (the p)

  abbrev pub unrolled : Family T (List A)
  unrolled n = turn_or (item n) (others n) (trail n)

  unrolled_spells : (n : ℕ) (x : List T) (w : List A) → (unrolled n).spells x w → (others n).spells x w
  unrolled_spells n x w (inl s) = let k = s.part.second in record {
    value = (s.value.0 ∷ k.value.0, k.value.1);
    made = s.made ∙ ap (λ vs. s.value.0 ∷ vs) k.made;
    part = record {
      front = s.part.front ++ k.part.front;
      back = k.part.back;
      cut = s.part.cut ∙ (ap (λ l. s.part.front ++ l) k.part.cut ∙ sym (append_assoc s.part.front k.part.front k.part.back));
      first = (s.part.front, k.part.front, refl, s.part.first, k.part.first);
      second = k.part.second;
    };
  }
  unrolled_spells n x w (inr s) = record { value = ([], s.value); made = s.made; part = record { front = []; back = x; cut = refl; first = refl; second = s.part } }

  rolled : (n : ℕ) (x f k : List T) (vs : List A) (o : Option (Unit {0})) (w : List A) → x ≡ f ++ k → SpellsMany (item n) f vs → (maybe (the p)).spells k o → w ≡ vs → (unrolled n).spells x w
  rolled n x f k [] o w cut s t e = inr (record { value = o; made = e; part = let P : List T → Type 0 = λ l. (maybe (the p)).spells l o in subst P (sym (cut ∙ ap (λ l. l ++ k) s)) t })
  rolled n x f k (v ∷ vs) o w cut s t e = inl (record {
    value = (v, vs);
    made = e;
    part = record {
      front = s.0;
      back = s.1 ++ k;
      cut = cut ∙ (ap (λ l. l ++ k) s.2 ∙ append_assoc s.0 s.1 k);
      first = s.3;
      second = record { value = (vs, o); made = refl; part = record { front = s.1; back = k; cut = refl; first = s.4; second = t } };
    };
  })

  unrolled_begins : (n : ℕ) (x : List T) → (unrolled n).begins x → (others n).begins x
  unrolled_begins n x (inl (in_first b)) = in_first (record { front = []; back = x; cut = refl; turns = []; whole = refl; next = b })
  unrolled_begins n x (inl (in_second f k v cut s (in_first b))) = in_first (record { front = f ++ b.front; back = b.back; cut = cut ∙ (ap (λ l. f ++ l) b.cut ∙ sym (append_assoc f b.front b.back)); turns = v ∷ b.turns; whole = (f, b.front, refl, s, b.whole); next = b.next })
  unrolled_begins n x (inl (in_second f k v cut s (in_second g h vs cut2 s2 b))) = in_second (f ++ g) h (v ∷ vs) (cut ∙ (ap (λ l. f ++ l) cut2 ∙ sym (append_assoc f g h))) (f, g, refl, s, s2) b
  unrolled_begins n x (inr b) = in_second [] x [] refl refl b

  rolled_first : (n : ℕ) (x f k : List T) (vs : List A) → x ≡ f ++ k → SpellsMany (item n) f vs → BeginsPresent (item n) k → (unrolled n).begins x
  rolled_first n x f k [] cut s b = let P : List T → Type 0 = λ l. BeginsPresent (item n) l in inl (in_first (subst P (sym (cut ∙ ap (λ l. l ++ k) s)) b))
  rolled_first n x f k (v ∷ vs) cut s b = inl (in_second s.0 (s.1 ++ k) v (cut ∙ (ap (λ l. l ++ k) s.2 ∙ append_assoc s.0 s.1 k)) s.3 (in_first (record { front = s.1; back = k; cut = refl; turns = vs; whole = s.4; next = b })))

  rolled_second : (n : ℕ) (x f k : List T) (vs : List A) → x ≡ f ++ k → SpellsMany (item n) f vs → (maybe (the p)).begins k → (unrolled n).begins x
  rolled_second n x f k [] cut s b = let P : List T → Type 0 = λ l. (maybe (the p)).begins l in inr (subst P (sym (cut ∙ ap (λ l. l ++ k) s)) b)
  rolled_second n x f k (v ∷ vs) cut s b = inl (in_second s.0 (s.1 ++ k) v (cut ∙ (ap (λ l. l ++ k) s.2 ∙ append_assoc s.0 s.1 k)) s.3 (in_second s.1 k vs refl s.4 b))

  rolled_begun : (n : ℕ) (x : List T) → (others n).begins x → (unrolled n).begins x
  rolled_begun n x (in_first b) = rolled_first n x b.front b.back b.turns b.cut b.whole b.next
  rolled_begun n x (in_second f k vs cut s b) = rolled_second n x f k vs cut s b

  pub unrolled_same : Same unrolled others
  unrolled_same = record {
    spells = unrolled_spells;
    spelled = λ n x w s. rolled n x s.part.front s.part.back s.value.0 s.value.1 w s.part.cut s.part.first s.part.second s.made;
    begins = unrolled_begins;
    begun = rolled_begun;
  }

pub heads_trailed : {T A : Type 0} {G : Family T A} {s : T → Bool} (p : T → Bool) → Heads G s → Heads (λ n. trailed p (G n)) s
heads_trailed {G = G} p h = heads_as joined (heads_both (others p G) h)

-- ---- exactness

pub and_first : (b c : Bool) → (b && c) ≡ true → b ≡ true
and_first true c e = refl
and_first false c e = e

pub and_second : (b c : Bool) → (b && c) ≡ true → c ≡ true
and_second true c e = e
and_second false c e = cc

pub end_of : {T : Type 0} (used : List T) (t tok : T) (r x y : List T) → Within used (t ∷ []) → t ∷ r ≡ x ++ y → x ≡ tok ∷ [] → Within used x × (y ≡ r)
end_of used t tok r x y within e alone =
    let cut : t ∷ r ≡ tok ∷ y = e ∙ ap (λ l. l ++ y) alone in
    let heads : t ≡ tok = cc in
    let tails : y ≡ r = cc in
    (subst (Within used) (ap (λ u. u ∷ []) heads ∙ sym alone) within, tails)

pub seen_first : {T : Type 0} (s : T → Bool) (r : List T) (u : T) (x : List T) → r ≡ u ∷ x → sees s r ≡ s u
seen_first s r u x e = ap (sees s) e

pub goes_at : {T A : Type 0} (q : T → Bool) (w : A) (y : List T) (t : T) (r : List T) → y ≡ t ∷ r → q t ≡ true → GoesOn (by q) w y
goes_at q w [] t r e h = cc
goes_at q w (u ∷ y) t r e h = let same_token : t ≡ u = cc in ap q (sym same_token) ∙ h

goes_seen : {T A : Type 0} (s q : T → Bool) (k : Sub s q) (w : A) (y r : List T) → y ≡ r → sees s r ≡ true → GoesOn (by q) w y
goes_seen s q k w [] r e seen = let h : false ≡ true = ap (sees s) e ∙ seen in cc
goes_seen s q k w (t ∷ y) r e seen = k t (ap (sees s) e ∙ seen)

module _ {T A : Type 0} {p s q : T → Bool} (q3 : T → Bool) {G : Family T A} {least : ℕ} {read : Reader T A}
    -- an item begins with a token of s, and what goes on with it is no separator
    (h : Heads G s) (g : Exactly G (by q) least read) (stays : (n : ℕ) → least ≤ n → (G n).stays ≡ true) (apart : Apart q p)
    -- what goes on with the list
    (k : Sub q q3) (kp : Sub p q3) (ks : Sub s q3)
  where
    heads_item : Heads (item p G) p
    heads_item = heads_before {G = G} p

    pub opens_others : Opens (others p G) p
    opens_others = opens_as spells_others (opens_both (opens_many heads_item) (opens_maybe (heads_the p)))

    item_turn : Turn (item p G) (others p G) (by q) (by q3)
    item_turn = record {
      begins = λ n a t x b i. apart t i (opens_others.begins n t x b);
      spells = λ n a t x w b i. apart t i (opens_others.spells n t x w b);
      after = λ v vs t i. k t i;
      later = λ v vs t i. i;
    }

    abbrev more_items : Family T (List A)
    more_items n = joined <$> (present (item p G n) >> others p G n)

    exactly_item : Exactly (item p G) (by q) least (p ▷ read)
    exactly_item = exactly_before p g

    item_present : (ts : List T) → Exact (λ n. present (item p G n)) (by q) least ts ((p ▷ read) ts)
    item_present ts = exact_present (item p G) (by q) least ts ((p ▷ read) ts) stays (exactly_item.at ts)

    exactly_trail : Exactly (trail p G) (by q3) least (trail_of p)
    exactly_trail = exactly_as (λ _. []) (exactly_maybe q3 (heads_the p) (present_at refl (λ n. refl) (exactly_token {f = passing p})) (never_sub q3) kp)

    -- ---- an item comes next: an end before it is shorter

    trail_covered : (t : T) (r used : List T) → p t ≡ true → sees s r ≡ true → Within used (t ∷ []) → Covered (trail p G) (by q3) (λ n. Unit {0}) (t ∷ r) used
    trail_covered t r used is seen within = record {
      only = λ n i x y w e z. elim z.part [
        | inl a ↦ ((used, ap (λ l. l ++ used) (sym a.part)), goes_at q3 w y t r (sym (e ∙ ap (λ l. l ++ y) a.part)) (kp t is))
        | inr a ↦ let c = end_of used t a.part.token r x y within e a.part.alone in (c.0, goes_seen s q3 ks w y r c.1 seen)
      ];
      ends = λ n i x y e b. elim b [
        | inl a ↦ (used, ap (λ l. l ++ used) (sym a))
        | inr a ↦ elim a [
          | none_yet none ↦ (used, ap (λ l. l ++ used) (sym none))
          | some st c ↦ elim c [
            | nothing none ↦ (used, ap (λ l. l ++ used) (sym none))
            | whole v o ↦ (end_of used t o.token r x y within e o.alone).0
          ]
        ]
      ];
    }

    item_begun : (t : T) → p t ≡ true → (more_items least).begins (t ∷ [])
    item_begun t is = in_first (some (stays least (omega arith)) (begun_by G p t is least))

    -- ---- no item comes next: only the separator may be taken

    item_first : (t tok : T) (r b2 z : List T) (n : ℕ) (v : A) → t ∷ r ≡ (tok ∷ b2) ++ z → (G n).spells b2 v → sees s r ≡ false → ⊥
    item_first t tok r [] z n v e i unseen = h.full n v i
    item_first t tok r (u ∷ b2) z n v e i unseen = let tails : r ≡ u ∷ (b2 ++ z) = cc in not_both (seen_first s r u (b2 ++ z) tails ∙ h.spells n u b2 v i) unseen

    item_not : (t : T) (r f z : List T) (n : ℕ) (v : A) → t ∷ r ≡ f ++ z → (item p G n).spells f v → sees s r ≡ false → ⊥
    item_not t r f z n v e i unseen = let o = i.part in
        item_first t o.first.token r o.back z n i.value.1 (e ∙ ap (λ l. l ++ z) (o.cut ∙ ap (λ l. l ++ o.back) o.first.alone)) o.second unseen

    began_item : (used : List T) (t tok : T) (r x y k2 : List T) (n : ℕ) → Within used (t ∷ []) → sees s r ≡ false → t ∷ r ≡ x ++ y → x ≡ tok ∷ k2 → (G n).begins k2 → Within used x
    began_item used t tok r x y [] n within unseen e cut b = (end_of used t tok r x y within e cut).0
    began_item used t tok r x y (u ∷ k2) n within unseen e cut b = let c : t ∷ r ≡ tok ∷ (u ∷ (k2 ++ y)) = e ∙ ap (λ l. l ++ y) cut in let tails : r ≡ u ∷ (k2 ++ y) = cc in
        absurd (not_both (seen_first s r u (k2 ++ y) tails ∙ h.begins n u k2 b) unseen)

    item_began : (used : List T) (t : T) (r x y : List T) (n : ℕ) → Within used (t ∷ []) → sees s r ≡ false → t ∷ r ≡ x ++ y → (item p G n).begins x → Within used x
    item_began used t r x y n within unseen e (in_first (nothing none)) = (used, ap (λ l. l ++ used) (sym none))
    item_began used t r x y n within unseen e (in_first (whole v o)) = (end_of used t o.token r x y within e o.alone).0
    item_began used t r x y n within unseen e (in_second f k2 v cut o b) = began_item used t o.token r x y k2 n within unseen e (cut ∙ ap (λ l. l ++ k2) o.alone) b

    more_covered : (t : T) (r used : List T) → sees s r ≡ false → Within used (t ∷ []) → Covered more_items (by q3) (λ n. Unit {0}) (t ∷ r) used
    more_covered t r used unseen within = record {
      only = λ n i x y w e z. let o = z.part in absurd (item_not t r o.front (o.back ++ y) n z.value.0 (e ∙ (ap (λ l. l ++ y) o.cut ∙ append_assoc o.front o.back y)) o.first unseen);
      ends = λ n i x y e b. elim b [
        | in_first c ↦ elim c [ none_yet none ↦ (used, ap (λ l. l ++ used) (sym none)) | some st d ↦ item_began used t r x y n within unseen e d ]
        | in_second f k2 v cut o c ↦ absurd (item_not t r f (k2 ++ y) n v (e ∙ (ap (λ l. l ++ y) cut ∙ append_assoc f k2 y)) o unseen)
      ];
    }

    -- ---- by the two tokens

    abbrev next : ℕ → Reader T (List A)
    next = turns_then (sees_two p s) (p ▷ read) (trail_of p)

    used_shorter : (used rest ts : List T) (v : A) → ts ≡ used ++ rest → (item p G least).spells used v → length rest < length ts
    used_shorter [] rest ts v e i = absurd (heads_item.full least v i)
    used_shorter (t ∷ used) rest ts v e i = let l : length ts ≡ length (t ∷ used ++ rest) = ap length e in let m = length-append (t ∷ used) rest in let m2 = length-append (t ∷ []) used in omega arith

    item_shorter : (ts rest : List T) (v : A) → Done (item p G) (by q) least ts v rest → length rest < length ts
    item_shorter ts rest v d = used_shorter d.used rest ts v d.core.cut (d.spells least (omega arith))

    abbrev Up : ℕ → Type 0
    Up m = (ts : List T) → length ts ≤ m → Exact (others p G) (by q3) least ts (next m ts)

    item_then : (m : ℕ) → Up m → (ts : List T) → length ts ≤ suc m → (o : Outcome T A) → Exact (item p G) (by q) least ts o → Exact more_items (by q3) least ts (o >>= (λ v rest. made (λ vs. v ∷ vs) (next m rest)))
    item_then m again ts fits (done v rest) d = let short = item_shorter ts rest v d in let below : length rest ≤ m = omega arith in
        more_read (item p G) (others p G) (by q) (by q3) least item_turn ts rest v (next m rest) (exact_present (item p G) (by q) least ts (done v rest) stays d) (again rest below)
    item_then m again ts fits (stop rule left) d = more_stopped (item p G) (others p G) (by q) (by q3) least item_turn ts rule left (exact_present (item p G) (by q) least ts (stop rule left) stays d)

    trail_begun : (t : T) → p t ≡ true → (trail p G least).begins (t ∷ [])
    trail_begun t is = inr (some refl (whole tt (record { token = t; alone = refl; fits = ap (λ b. if b then Some tt else None) is })))

    none_at : (ts : List T) → sees p ts ≡ false → Exact (unrolled p G) (by q3) least ts (trail_of p ts)
    none_at ts unseen = exact_right more_items (trail p G) (by q3) least ts (trail_of p ts)
        (elsewhere more_items (by q3) ts (no_more (item p G) (others p G) (by q) (by q3) least item_turn ts (heads_elsewhere (heads_present heads_item) ts unseen))) (exactly_trail.at ts)

    end_by : (t : T) (r : List T) (b : Bool) → p t ≡ b → (p t && sees s r) ≡ false → Exact (unrolled p G) (by q3) least (t ∷ r) (trail_of p (t ∷ r))
    end_by t r true is e = let unseen : sees s r ≡ false = sym (ap (λ v. v && sees s r) is) ∙ e in
        exact_right_from more_items (trail p G) (by q3) least (t ∷ r) (t ∷ []) r refl (trail_of p (t ∷ r)) (trail_begun t is) (λ used within. more_covered t r used unseen within) (exactly_trail.at (t ∷ r))
    end_by t r false is e = none_at (t ∷ r) is

    end_at : (ts : List T) → sees_two p s ts ≡ false → Exact (unrolled p G) (by q3) least ts (trail_of p ts)
    end_at [] e = none_at [] refl
    end_at (t ∷ r) e = end_by t r (p t) refl e

    turn_at : (m : ℕ) → Up m → (ts : List T) → length ts ≤ suc m → (b : Bool) → sees_two p s ts ≡ b → Exact (unrolled p G) (by q3) least ts (if b then (p ▷ read) ts >>= (λ v rest. made (λ vs. v ∷ vs) (next m rest)) else trail_of p ts)
    turn_at m again [] fits true e = absurd (let h : false ≡ true = e in cc)
    turn_at m again (t ∷ r) fits true e = let is = and_first (p t) (sees s r) e in let seen = and_second (p t) (sees s r) e in
        exact_left_from more_items (trail p G) (by q3) least (t ∷ r) (t ∷ []) r refl ((p ▷ read) (t ∷ r) >>= (λ v rest. made (λ vs. v ∷ vs) (next m rest))) (item_begun t is) (λ used within. trail_covered t r used is seen within)
        (item_then m again (t ∷ r) fits ((p ▷ read) (t ∷ r)) (exactly_item.at (t ∷ r)))
    turn_at m again ts fits false e = end_at ts e

    others_at : (m : ℕ) (ts : List T) → length ts ≤ m → Exact (others p G) (by q3) least ts (next m ts)
    others_at zero [] fits = exact_same (unrolled p G) (others p G) (by q3) (unrolled_same p G) least [] (trail_of p []) (none_at [] refl)
    others_at zero (t ∷ ts) fits = let l = length-append (t ∷ []) ts in absurd (omega arith)
    others_at (suc m) ts fits = exact_same (unrolled p G) (others p G) (by q3) (unrolled_same p G) least ts (next (suc m) ts) (turn_at m (others_at m) ts fits (sees_two p s ts) refl)

    pub exactly_others : Exactly (others p G) (by q3) least (others_trailed_by p s read)
    unfolding others_by
    exactly_others = record { at = λ ts. others_at (length ts) ts (omega arith) }

    -- a list with perhaps a separator behind the last item
    pub exactly_trailed : Exactly (λ n. trailed p (G n)) (by q3) least (trailed_by p s read)
    exactly_trailed = exactly_as joined (exactly_open q3 g exactly_others opens_others apart k (same_sub q3))
