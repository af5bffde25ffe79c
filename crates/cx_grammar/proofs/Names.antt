-- Names, each with a separator behind it, and then a part that may begin with a name too: the second token tells.
use Rattle.std.proofs.Common.{◌≡◌, ℕ, zero, suc, ◌≤◌, ◌<◌, Bool, true, false, not, ◌&&◌, if◌then◌else◌, List, [], ◌∷◌, ◌++◌, length, Option, Some, None, refl, sym, ◌∙◌, ap, subst, inl, inr, append_assoc, arith, length-append}
use Rattle.cx_base.specs.declared.rule.Rule.{Rule}
use Rattle.cx_base.specs.declared.rule.Rule.TheVariants.{Syntax}
use Rattle.cx_grammar.specs.Language.{the, one, nothing, whole, ◌>>◌, ◌<$>◌, ◌⊲◌, in_first, in_second, BeginsPresent, none_yet, some, present, either, SpellsMany, names}
use Rattle.cx_grammar.specs.Exact.{Family, GoesOn, Within, shorter, Done, Stopped, Outcome, done, stop, Exact}
use Rattle.cx_grammar.specs.Reading.{Reader, made, refuse, sees, sees_two, token, many_from, many_when, last_name, names_by, ◌>>=◌, ◌⊲◌ as ◌◁◌}
use Rattle.cx_grammar.specs.Sets.{by, never}
use Rattle.cx_grammar.proofs.Parts.{exact_as, exact_right, exact_same, exact_present, elsewhere, front_of_one, not_nesting, Same, Covered}
use Rattle.cx_grammar.proofs.Both.{exact_both, both_stop}
use Rattle.cx_grammar.proofs.Elsewhere.{elsewhere_as, elsewhere_both}
use Rattle.cx_grammar.proofs.Heads.{Sub, Heads, heads_one, heads_behind, heads_present, heads_elsewhere, never_apart, not_both, passes}
use Rattle.cx_grammar.proofs.Steps.{Exactly, exactly_token, exactly_behind, joins_never}
use Rattle.cx_grammar.proofs.Trailed.{exact_left_from, exact_right_from, end_of, seen_first, goes_at, and_first, and_second}

abbrev pub with_name : {A B : Type 0} → A × (List A × B) → List A × B
with_name w = (w.0 ∷ w.1.0, w.1.1)

abbrev pub on_name : {A B : Type 0} → A → List A × B → List A × B
on_name v w = (v ∷ w.0, w.1)

abbrev pub after_names : {A B : Type 0} → List A → B → List A × B
after_names vs b = (vs, b)

abbrev pub no_name : {A B : Type 0} → B → List A × B
no_name b = ([], b)

-- ---- the names are one and then others, or none

module _ {T A B : Type 0} (f : T → Option A) (p : T → Bool) (H : Family T B) where
  abbrev pub name : Family T A
  name n = one f ⊲ p

  abbrev pub whole_names : Family T (List A × B)
  whole_names n = names f p (H n)

  abbrev pub more_names : Family T (List A × B)
  more_names n = with_name <$> (present (name n) >> names f p (H n))

  abbrev pub no_names : Family T (List A × B)
  no_names n = no_name <$> H n

  abbrev pub unrolled : Family T (List A × B)
  unrolled n = either (more_names n) (no_names n)

  spelled_on : (n : ℕ) (x g k : List T) (vs : List A) (b : B) (w : List A × B) → x ≡ g ++ k → SpellsMany (name n) g vs → (H n).spells k b → w ≡ (vs, b) → (unrolled n).spells x w
  spelled_on n x g k [] b w cut s t e = inr (record { value = b; made = e; part = let P : List T → Type 0 = λ l. (H n).spells l b in subst P (sym (cut ∙ ap (λ l. l ++ k) s)) t })
  spelled_on n x g k (v ∷ vs) b w cut s t e = inl (record {
    value = (v, (vs, b));
    made = e;
    part = record { front = s.0; back = s.1 ++ k; cut = cut ∙ (ap (λ l. l ++ k) s.2 ∙ append_assoc s.0 s.1 k); first = s.3; second = record { front = s.1; back = k; cut = refl; first = s.4; second = t } };
  })

  pair_is : (w : List A × B) (vs : List A) (b : B) → w.0 ≡ vs → w.1 ≡ b → w ≡ (vs, b)
  pair_is (vs2, b2) vs b p q = cc

  unrolled_spells : (n : ℕ) (x : List T) (w : List A × B) → (unrolled n).spells x w → (whole_names n).spells x w
  unrolled_spells n x w (inl s) = let k = s.part.second in let P : List A × B → Type 0 = λ z. (whole_names n).spells x z in subst P (sym s.made) (record {
    front = s.part.front ++ k.front;
    back = k.back;
    cut = s.part.cut ∙ (ap (λ l. s.part.front ++ l) k.cut ∙ sym (append_assoc s.part.front k.front k.back));
    first = (s.part.front, k.front, refl, s.part.first, k.first);
    second = k.second;
  })
  unrolled_spells n x w (inr s) = let P : List A × B → Type 0 = λ z. (whole_names n).spells x z in subst P (sym s.made) (record { front = []; back = x; cut = refl; first = refl; second = s.part })

  unrolled_begins : (n : ℕ) (x : List T) → (unrolled n).begins x → (whole_names n).begins x
  unrolled_begins n x (inl (in_first b)) = in_first (record { front = []; back = x; cut = refl; turns = []; whole = refl; next = b })
  unrolled_begins n x (inl (in_second g k v cut s (in_first b))) = in_first (record { front = g ++ b.front; back = b.back; cut = cut ∙ (ap (λ l. g ++ l) b.cut ∙ sym (append_assoc g b.front b.back)); turns = v ∷ b.turns; whole = (g, b.front, refl, s, b.whole); next = b.next })
  unrolled_begins n x (inl (in_second g k v cut s (in_second i j vs cut2 s2 b))) = in_second (g ++ i) j (v ∷ vs) (cut ∙ (ap (λ l. g ++ l) cut2 ∙ sym (append_assoc g i j))) (g, i, refl, s, s2) b
  unrolled_begins n x (inr b) = in_second [] x [] refl refl b

  rolled_first : (n : ℕ) (x g k : List T) (vs : List A) → x ≡ g ++ k → SpellsMany (name n) g vs → BeginsPresent (name n) k → (unrolled n).begins x
  rolled_first n x g k [] cut s b = let P : List T → Type 0 = λ l. BeginsPresent (name n) l in inl (in_first (subst P (sym (cut ∙ ap (λ l. l ++ k) s)) b))
  rolled_first n x g k (v ∷ vs) cut s b = inl (in_second s.0 (s.1 ++ k) v (cut ∙ (ap (λ l. l ++ k) s.2 ∙ append_assoc s.0 s.1 k)) s.3 (in_first (record { front = s.1; back = k; cut = refl; turns = vs; whole = s.4; next = b })))

  rolled_second : (n : ℕ) (x g k : List T) (vs : List A) → x ≡ g ++ k → SpellsMany (name n) g vs → (H n).begins k → (unrolled n).begins x
  rolled_second n x g k [] cut s b = let P : List T → Type 0 = λ l. (H n).begins l in inr (subst P (sym (cut ∙ ap (λ l. l ++ k) s)) b)
  rolled_second n x g k (v ∷ vs) cut s b = inl (in_second s.0 (s.1 ++ k) v (cut ∙ (ap (λ l. l ++ k) s.2 ∙ append_assoc s.0 s.1 k)) s.3 (in_second s.1 k vs refl s.4 b))

  rolled_begun : (n : ℕ) (x : List T) → (whole_names n).begins x → (unrolled n).begins x
  rolled_begun n x (in_first b) = rolled_first n x b.front b.back b.turns b.cut b.whole b.next
  rolled_begun n x (in_second g k vs cut s b) = rolled_second n x g k vs cut s b

  unrolled_same : Same unrolled whole_names
  unrolled_same = record {
    spells = unrolled_spells;
    spelled = λ n x w s. spelled_on n x s.front s.back w.0 w.1 w s.cut s.first s.second (pair_is w w.0 w.1 refl refl);
    begins = unrolled_begins;
    begun = rolled_begun;
  }

-- ---- the reader, one name at a time

module _ {T A B : Type 0} (test : List T → Bool) (read : Reader T A) (after : Reader T B) where
  abbrev then_last : Outcome T (List A) → Outcome T (List A × B)
  then_last o = o >>= (λ vs rest. made (after_names vs) (after rest))

  last_on : (v : A) (vs : List A) (o : Outcome T B) → made (after_names (v ∷ vs)) o ≡ made (on_name v) (made (after_names vs) o)
  last_on v vs (done b rest) = refl
  last_on v vs (stop rule left) = refl

  others_on : (v : A) (o : Outcome T (List A)) → then_last (made (λ vs. v ∷ vs) o) ≡ made (on_name v) (then_last o)
  others_on v (done vs rest) = last_on v vs (after rest)
  others_on v (stop rule left) = refl

  pub turn_on : (k : ℕ) (o : Outcome T A) → then_last (o >>= (λ v rest. made (λ vs. v ∷ vs) (many_from test read k rest))) ≡ (o >>= (λ v rest. made (on_name v) (then_last (many_from test read k rest))))
  turn_on k (done v rest) = others_on v (many_from test read k rest)
  turn_on k (stop rule left) = refl

-- ---- exactness

module _ {T A B : Type 0} {f : T → Option A} {p m s q : T → Bool} (q3 : T → Bool) {H : Family T B} {least : ℕ} {read : Reader T B}
    -- what follows the names begins with a token of s
    (h : Heads H s) (g : Exactly H (by q) least read)
    -- the names are the tokens of m
    (fits : (t : T) (v : A) → f t ≡ Some v → m t ≡ true) (named : (t : T) → m t ≡ true → (v : A) × (f t ≡ Some v))
    -- where a name begins what follows, it is all of it
    (lone_spells : (n : ℕ) (t : T) (x : List T) (w : B) → m t ≡ true → (H n).spells (t ∷ x) w → x ≡ [])
    (lone_begins : (n : ℕ) (t : T) (x : List T) → m t ≡ true → (H n).begins (t ∷ x) → x ≡ [])
    (begun : (t : T) → m t ≡ true → s t ≡ true → (H least).begins (t ∷ []))
    -- what goes on with the whole: what goes on with its last part, and the separator
    (k : Sub q q3) (kp : Sub p q3)
  where
    abbrev one_name : Family T A
    one_name n = one f ⊲ p

    abbrev all_names : Family T (List A × B)
    all_names n = names f p (H n)

    abbrev first_names : Family T (List A × B)
    first_names n = with_name <$> (present (one_name n) >> all_names n)

    abbrev last_part : Family T (List A × B)
    last_part n = no_name <$> H n

    abbrev either_names : Family T (List A × B)
    either_names n = either (first_names n) (last_part n)

    heads_name : Heads one_name m
    heads_name = heads_behind {G = λ n. one f} p (heads_one f m fits)

    exactly_name : Exactly one_name (by never) least (token f ◁ p)
    exactly_name = exactly_behind p (exactly_token {f = f}) (never_apart p)

    last_exact : (ts : List T) → Exact last_part (by q3) least ts (made no_name (read ts))
    last_exact ts = exact_as no_name H (by q) (by q3) (λ v t i. k t i) least ts (read ts) (g.at ts)

    -- ---- a name with its separator comes next

    part_within : (used : List T) (t u : T) → Within used (t ∷ u ∷ []) → Within used (t ∷ [])
    part_within used t u (d, e) = (u ∷ d, e)

    last_spelled : (t u : T) (r used x y : List T) (n : ℕ) (w : List A × B) (b : B) → m t ≡ true → p u ≡ true → Within used (t ∷ []) → t ∷ u ∷ r ≡ x ++ y → (H n).spells x b → Within used x × GoesOn (by q3) w y
    last_spelled t u r used [] y n w b is sep within e z = absurd (h.full n b z)
    last_spelled t u r used (a ∷ x) y n w b is sep within e z =
        let heads : a ≡ t = cc in
        let none : x ≡ [] = lone_spells n a x b (ap m heads ∙ is) z in
        let c = end_of used t a (u ∷ r) (a ∷ x) y within e (ap (λ l. a ∷ l) none) in
        (c.0, goes_at q3 w y u r c.1 (kp u sep))

    last_begun : (t u : T) (r used x y : List T) (n : ℕ) → m t ≡ true → Within used (t ∷ []) → t ∷ u ∷ r ≡ x ++ y → (H n).begins x → Within used x
    last_begun t u r used [] y n is within e z = (used, refl)
    last_begun t u r used (a ∷ x) y n is within e z =
        let heads : a ≡ t = cc in
        let none : x ≡ [] = lone_begins n a x (ap m heads ∙ is) z in
        (end_of used t a (u ∷ r) (a ∷ x) y within e (ap (λ l. a ∷ l) none)).0

    last_covered : (t u : T) (r used : List T) → m t ≡ true → p u ≡ true → Within used (t ∷ u ∷ []) → Covered last_part (by q3) (λ n. Unit {0}) (t ∷ u ∷ r) used
    last_covered t u r used is sep within = record {
      only = λ n i x y w e z. last_spelled t u r used x y n w z.value is sep (part_within used t u within) e z.part;
      ends = λ n i x y e b. last_begun t u r used x y n is (part_within used t u within) e b;
    }

    name_begun : (t u : T) → m t ≡ true → p u ≡ true → (first_names least).begins (t ∷ u ∷ [])
    name_begun t u is sep = let v = named t is in in_first (some refl (in_second (t ∷ []) (u ∷ []) v.0 refl (record { token = t; alone = refl; fits = v.1 }) (whole tt (record { token = u; alone = refl; fits = ap (λ b. if b then Some tt else None) sep }))))

    made_name : (v : A) (o : Outcome T (List A × B)) → made with_name (made (λ b. (v, b)) o) ≡ made (on_name v) o
    made_name v (done w rest) = refl
    made_name v (stop rule left) = refl

    first_read : (ts rest : List T) (v : A) (o : Outcome T (List A × B)) → Done (λ n. present (one_name n)) (by never) least ts v rest → Exact all_names (by q3) least rest o → Exact first_names (by q3) least ts (made (on_name v) o)
    first_read ts rest v o d z = let P : Outcome T (List A × B) → Type 0 = λ u. Exact first_names (by q3) least ts u in
        subst P (made_name v o) (exact_as with_name (λ n. present (one_name n) >> all_names n) (by q3) (by q3) (λ w t i. i) least ts (made (λ b. (v, b)) o)
        (exact_both (λ n. present (one_name n)) all_names (by never) (by q3) (by q3) (joins_never (λ n. present (one_name n)) all_names (by q3)) least ts rest v o d z))

    first_stopped : (ts : List T) (rule : Rule) (left : ℕ) → Stopped (λ n. present (one_name n)) (by never) least ts rule left → Stopped first_names (by q3) least ts rule left
    first_stopped ts rule left d = exact_as with_name (λ n. present (one_name n) >> all_names n) (by q3) (by q3) (λ w t i. i) least ts (stop rule left)
        (both_stop (λ n. present (one_name n)) all_names (by never) (by q3) (by q3) (joins_never (λ n. present (one_name n)) all_names (by q3)) least ts rule left d)

    -- ---- none comes next

    name_not : (t : T) (r z fr : List T) (n : ℕ) (v : A) → t ∷ r ≡ fr ++ z → (one_name n).spells fr v → sees p r ≡ false → ⊥
    name_not t r z fr n v e i unseen = let o = i.part in
        let parts : fr ≡ o.first.token ∷ o.second.token ∷ [] = o.cut ∙ (ap (λ l. l ++ o.back) o.first.alone ∙ ap (λ l. o.first.token ∷ l) o.second.alone) in
        let cut : t ∷ r ≡ o.first.token ∷ o.second.token ∷ z = e ∙ ap (λ l. l ++ z) parts in
        let tails : r ≡ o.second.token ∷ z = cc in
        not_both (seen_first p r o.second.token z tails ∙ passes p o.second.token i.value.1 o.second.fits) unseen

    began_name : (used : List T) (t tok : T) (r x y k2 : List T) → Within used (t ∷ []) → sees p r ≡ false → t ∷ r ≡ x ++ y → x ≡ tok ∷ k2 → (the p).begins k2 → Within used x
    began_name used t tok r x y k2 within unseen e cut (nothing none) = (end_of used t tok r x y within e (cut ∙ ap (λ l. tok ∷ l) none)).0
    began_name used t tok r x y k2 within unseen e cut (whole v o) =
        let c : t ∷ r ≡ tok ∷ o.token ∷ y = e ∙ ap (λ l. l ++ y) (cut ∙ ap (λ l. tok ∷ l) o.alone) in
        let tails : r ≡ o.token ∷ y = cc in
        absurd (not_both (seen_first p r o.token y tails ∙ passes p o.token v o.fits) unseen)

    name_began : (used : List T) (t : T) (r x y : List T) (n : ℕ) → Within used (t ∷ []) → sees p r ≡ false → t ∷ r ≡ x ++ y → (one_name n).begins x → Within used x
    name_began used t r x y n within unseen e (in_first (nothing none)) = (used, ap (λ l. l ++ used) (sym none))
    name_began used t r x y n within unseen e (in_first (whole v o)) = (end_of used t o.token r x y within e o.alone).0
    name_began used t r x y n within unseen e (in_second fr k2 v cut o b) = began_name used t o.token r x y k2 within unseen e (cut ∙ ap (λ l. l ++ k2) o.alone) b

    first_covered : (t : T) (r used : List T) → sees p r ≡ false → Within used (t ∷ []) → Covered first_names (by q3) (λ n. Unit {0}) (t ∷ r) used
    first_covered t r used unseen within = record {
      only = λ n i x y w e z. let o = z.part in absurd (name_not t r (o.back ++ y) o.front n z.value.0 (e ∙ (ap (λ l. l ++ y) o.cut ∙ append_assoc o.front o.back y)) o.first unseen);
      ends = λ n i x y e b. elim b [
        | in_first c ↦ elim c [ none_yet none ↦ (used, ap (λ l. l ++ used) (sym none)) | some st d ↦ name_began used t r x y n within unseen e d ]
        | in_second fr k2 v cut o c ↦ absurd (name_not t r (k2 ++ y) fr n v (e ∙ (ap (λ l. l ++ y) cut ∙ append_assoc fr k2 y)) o unseen)
      ];
    }

    none_at : (ts : List T) → sees m ts ≡ false → Exact either_names (by q3) least ts (made no_name (read ts))
    none_at ts unseen = exact_right first_names last_part (by q3) least ts (made no_name (read ts))
        (elsewhere first_names (by q3) ts (elsewhere_as with_name (λ n. present (one_name n) >> all_names n) ts (elsewhere_both (λ n. present (one_name n)) all_names ts (heads_elsewhere (heads_present heads_name) ts unseen)))) (last_exact ts)

    -- a name that what follows does not begin with, and no separator behind it
    other_spelled : (t : T) (r x y : List T) (n : ℕ) (b : B) → s t ≡ false → t ∷ r ≡ x ++ y → (H n).spells x b → ⊥
    other_spelled t r [] y n b other e z = h.full n b z
    other_spelled t r (a ∷ x) y n b other e z = let heads : t ≡ a = cc in not_both (h.spells n a x b z) (sym (ap s heads) ∙ other)

    other_begun : (t : T) (r x y : List T) (n : ℕ) → s t ≡ false → t ∷ r ≡ x ++ y → (H n).begins x → Within (t ∷ []) x
    other_begun t r [] y n other e z = (t ∷ [], refl)
    other_begun t r (a ∷ x) y n other e z = let heads : t ≡ a = cc in absurd (not_both (h.begins n a x z) (sym (ap s heads) ∙ other))

    other_name : (t : T) (r : List T) → m t ≡ true → s t ≡ false → sees p r ≡ false → Stopped either_names (by q3) least (t ∷ r) Syntax (length r)
    other_name t r is other unseen = let v = named t is in let c = first_covered t r (t ∷ []) unseen ([], refl) in record {
      used = t ∷ [];
      rest = r;
      size = refl;
      is = inl refl;
      deep = λ e. absurd (not_nesting e);
      core = record {
        cut = refl;
        begins = λ n l x y e. elim (front_of_one t x y e) [
          | inl none ↦ inl (in_first (none_yet none))
          | inr all ↦ inl (in_first (some refl (in_first (whole v.0 (record { token = t; alone = all; fits = v.1 })))))
        ];
        only = λ n i x y w e z. elim z [
          | inl a ↦ let o = c.only n tt x y w e a in shorter o.0 o.1
          | inr b ↦ absurd (other_spelled t r x y n b.value other e b.part)
        ];
        ends = λ n i x y e z. elim z [ inl a ↦ c.ends n tt x y e a | inr b ↦ other_begun t r x y n other e b ];
      };
    }

    end_by : (t : T) (r : List T) (b c : Bool) → m t ≡ b → s t ≡ c → (m t && sees p r) ≡ false → Exact either_names (by q3) least (t ∷ r) (made no_name (if b && not c then refuse r else read (t ∷ r)))
    end_by t r false c is other e = none_at (t ∷ r) is
    end_by t r true true is both e = let unseen : sees p r ≡ false = sym (ap (λ v. v && sees p r) is) ∙ e in
        exact_right_from first_names last_part (by q3) least (t ∷ r) (t ∷ []) r refl (made no_name (read (t ∷ r))) (begun t is both) (λ used within. first_covered t r used unseen within) (last_exact (t ∷ r))
    end_by t r true false is other e = let unseen : sees p r ≡ false = sym (ap (λ v. v && sees p r) is) ∙ e in other_name t r is other unseen

    end_at : (ts : List T) → sees_two m p ts ≡ false → Exact either_names (by q3) least ts (made no_name (last_name m s read ts))
    end_at [] e = none_at [] refl
    end_at (t ∷ r) e = end_by t r (m t) (s t) refl refl e

    -- ---- by the two tokens

    used_shorter : (used rest ts : List T) (v : A) → ts ≡ used ++ rest → (one_name least).spells used v → length rest < length ts
    used_shorter [] rest ts v e i = absurd (heads_name.full least v i)
    used_shorter (t ∷ used) rest ts v e i = let l : length ts ≡ length (t ∷ used ++ rest) = ap length e in let n = length-append (t ∷ used) rest in let n2 = length-append (t ∷ []) used in omega arith

    abbrev next : ℕ → Reader T (List A × B)
    next j ts = then_last (sees_two m p) (token f ◁ p) (last_name m s read) (many_from (sees_two m p) (token f ◁ p) j ts)

    abbrev Up : ℕ → Type 0
    Up j = (ts : List T) → length ts ≤ j → Exact all_names (by q3) least ts (next j ts)

    first_then : (j : ℕ) → Up j → (ts : List T) → length ts ≤ suc j → (o : Outcome T A) → Exact one_name (by never) least ts o → Exact first_names (by q3) least ts (o >>= (λ v rest. made (on_name v) (next j rest)))
    first_then j again ts fit (done v rest) d = let short = used_shorter d.used rest ts v d.core.cut (d.spells least (omega arith)) in let below : length rest ≤ j = omega arith in
        first_read ts rest v (next j rest) (exact_present one_name (by never) least ts (done v rest) (λ n l. refl) d) (again rest below)
    first_then j again ts fit (stop rule left) d = first_stopped ts rule left (exact_present one_name (by never) least ts (stop rule left) (λ n l. refl) d)

    turn_at : (j : ℕ) → Up j → (ts : List T) → length ts ≤ suc j → (b : Bool) → sees_two m p ts ≡ b
        → Exact either_names (by q3) least ts (then_last (sees_two m p) (token f ◁ p) (last_name m s read) (if b then (token f ◁ p) ts >>= (λ v rest. made (λ vs. v ∷ vs) (many_from (sees_two m p) (token f ◁ p) j rest)) else done [] ts))
    turn_at j again [] fit true e = absurd (let z : false ≡ true = e in cc)
    turn_at j again (t ∷ []) fit true e = absurd (let z : false ≡ true = and_second (m t) false e in cc)
    turn_at j again (t ∷ u ∷ r) fit true e = let is = and_first (m t) (p u) e in let sep = and_second (m t) (p u) e in
        let P : Outcome T (List A × B) → Type 0 = λ z. Exact either_names (by q3) least (t ∷ u ∷ r) z in
        subst P (sym (turn_on (sees_two m p) (token f ◁ p) (last_name m s read) j ((token f ◁ p) (t ∷ u ∷ r))))
        (exact_left_from first_names last_part (by q3) least (t ∷ u ∷ r) (t ∷ u ∷ []) r refl ((token f ◁ p) (t ∷ u ∷ r) >>= (λ v rest. made (on_name v) (next j rest))) (name_begun t u is sep)
        (λ used within. last_covered t u r used is sep within) (first_then j again (t ∷ u ∷ r) fit ((token f ◁ p) (t ∷ u ∷ r)) (exactly_name.at (t ∷ u ∷ r))))
    turn_at j again ts fit false e = end_at ts e

    names_at : (j : ℕ) (ts : List T) → length ts ≤ j → Exact all_names (by q3) least ts (next j ts)
    names_at zero [] fit = exact_same either_names all_names (by q3) (unrolled_same f p H) least [] (next 0 []) (end_at [] refl)
    names_at zero (t ∷ ts) fit = let l = length-append (t ∷ []) ts in absurd (omega arith)
    names_at (suc j) ts fit = exact_same either_names all_names (by q3) (unrolled_same f p H) least ts (next (suc j) ts) (turn_at j (names_at j) ts fit (sees_two m p ts) refl)

    pub exactly_names : Exactly (λ n. names f p (H n)) (by q3) least (names_by f p m s read)
    unfolding many_when
    exactly_names = record { at = λ ts. names_at (length ts) ts (omega arith) }
