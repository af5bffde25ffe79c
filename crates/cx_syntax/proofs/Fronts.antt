-- How far a language goes at given tokens: its fronts are those of `used`, and what it spells is followed by a token of a set, or by none.
use Rattle.std.proofs.Common.{◌≡◌, ℕ, zero, suc, Bool, true, false, List, [], ◌∷◌, ◌++◌, refl, sym, ◌∙◌, ap, subst, inl, inr, append_assoc}
use Rattle.std.proofs.lemmas.List.{append-nil}
use Rattle.cx_base.specs.declared.rule.Rule.TheVariants.{Syntax}
use Rattle.cx_grammar.specs.Language.{Language, the, ◌>>◌, ◌<$>◌, ◌∥◌, ◌⊳◌, in_first, in_second, none_yet, some, present, measured, nothing, whole}
use Rattle.cx_grammar.specs.Exact.{Family, Within, GoesOn, same, shorter, done, stop, Exact}
use Rattle.cx_grammar.specs.Reading.{sees}
use Rattle.cx_grammar.specs.Sets.{by}
use Rattle.cx_grammar.proofs.Heads.{Apart, Sub, Heads, Opens, not_both}
use Rattle.cx_grammar.proofs.Levels.{Below}
use Rattle.cx_grammar.proofs.Parts.{not_nesting}
use Rattle.cx_grammar.proofs.Unless.{within_trans}
use Rattle.cx_syntax.specs.Linked.{then_by, then_first, then_second}
use Rattle.cx_syntax.proofs.Beside.{Covers}

-- the first token, if there is one, is of the set
abbrev pub Blocked : {T : Type 0} → (T → Bool) → List T → Type 0
Blocked {T = T} q y = (t : T) (r : List T) → y ≡ t ∷ r → q t ≡ true

pub record Short {T A : Type 0} (L : Family T A) (q : T → Bool) (ts used : List T) : Type 0 where
  pub only : (n : ℕ) (x y : List T) (w : A) → ts ≡ x ++ y → (L n).spells x w → Within used x × Blocked q y
  pub ends : (n : ℕ) (x y : List T) → ts ≡ x ++ y → (L n).begins x → Within used x

-- the same where nothing is spelled
pub record Never {T A : Type 0} (L : Family T A) (ts used : List T) : Type 0 where
  pub only : (n : ℕ) (x y : List T) (w : A) → ts ≡ x ++ y → (L n).spells x w → ⊥
  pub ends : (n : ℕ) (x y : List T) → ts ≡ x ++ y → (L n).begins x → Within used x

pub none_front : {T : Type 0} (used x : List T) → x ≡ [] → Within used x
none_front used x e = (used, sym (ap (λ l. l ++ used) e))

pub never_covers : {T A : Type 0} {L : Family T A} (go : A → T → Bool) {ts used : List T} → Never L ts used → Covers L go ts used
never_covers go s = record { only = λ n x y w e z. absurd (s.only n x y w e z); ends = s.ends }

pub never_short : {T A : Type 0} {L : Family T A} (q : T → Bool) {ts used : List T} → Never L ts used → Short L q ts used
never_short q s = record { only = λ n x y w e z. absurd (s.only n x y w e z); ends = s.ends }

-- ---- longer fronts, other sets

pub short_more : {T A : Type 0} {L : Family T A} {q : T → Bool} {ts used more : List T} → Within more used → Short L q ts used → Short L q ts more
short_more {used = used} {more = more} w s = record {
  only = λ n x y v e z. let p = s.only n x y v e z in (within_trans more used x w p.0, p.1);
  ends = λ n x y e b. within_trans more used x w (s.ends n x y e b);
}

pub short_sub : {T A : Type 0} {L : Family T A} {q p : T → Bool} {ts used : List T} → Sub q p → Short L q ts used → Short L p ts used
short_sub k s = record { only = λ n x y v e z. let p = s.only n x y v e z in (p.0, λ t r c. k t (p.1 t r c)); ends = s.ends }

-- ---- what an exact reader says

module _ {T A : Type 0} (L : Family T A) (q p : T → Bool) (least : ℕ) (ts : List T) (k : Sub q p) where
  pub goes_blocked : (w : A) (y : List T) → GoesOn (by q) w y → Blocked p y
  goes_blocked w [] h = absurd h
  goes_blocked w (u ∷ y) h = λ t r e. let same_token : u ≡ t = cc in subst (λ z. p z ≡ true) same_token (k u h)

  pub short_done : (v : A) (rest : List T) → (e : Exact L (by q) least ts (done v rest)) → Blocked p rest → Short L p ts e.used
  short_done v rest e b = record {
    only = λ n x y w c s. elim (e.core.only n tt x y w c s) [
      | same xe ye we ↦ (([], sym (append-nil x ∙ xe)), λ t r f. b t r (sym ye ∙ f))
      | shorter within goes ↦ (within, goes_blocked w y goes)
    ];
    ends = λ n x y c b. e.core.ends n tt x y c b;
  }

  pub short_stop : (left : ℕ) → (e : Exact L (by q) least ts (stop Syntax left)) → Short L p ts e.used
  short_stop left e = record {
    only = λ n x y w c s. elim (e.core.only n (λ i. absurd (not_nesting i)) x y w c s) [ same a b d ↦ absurd d | shorter within goes ↦ (within, goes_blocked w y goes) ];
    ends = λ n x y c b. e.core.ends n (λ i. absurd (not_nesting i)) x y c b;
  }

-- ---- where the language begins with other tokens

pub sees_head : {T : Type 0} (p : T → Bool) (ts : List T) (t : T) (x : List T) → ts ≡ t ∷ x → sees p ts ≡ p t
sees_head p ts t x e = ap (sees p) e

module _ {T A : Type 0} {L : Family T A} {p : T → Bool} (h : Heads L p) (ts : List T) (unseen : sees p ts ≡ false) where
  pub first_not : (t : T) (x y : List T) → ts ≡ t ∷ (x ++ y) → p t ≡ true → ⊥
  first_not t x y e s = not_both s (sym (sees_head p ts t (x ++ y) e) ∙ unseen)

  pub elsewhere_spelled : (n : ℕ) (x y : List T) (w : A) → ts ≡ x ++ y → (L n).spells x w → ⊥
  elsewhere_spelled n [] y w e s = h.full n w s
  elsewhere_spelled n (t ∷ x) y w e s = first_not t x y e (h.spells n t x w s)

  pub elsewhere_begun : (used : List T) (n : ℕ) (x y : List T) → ts ≡ x ++ y → (L n).begins x → Within used x
  elsewhere_begun used n [] y e b = none_front used [] refl
  elsewhere_begun used n (t ∷ x) y e b = absurd (first_not t x y e (h.begins n t x b))

  pub never_elsewhere : (used : List T) → Never L ts used
  never_elsewhere used = record { only = elsewhere_spelled; ends = elsewhere_begun used }

-- ---- each combinator

pub short_as : {T A B : Type 0} {L : Family T A} {q : T → Bool} {ts used : List T} (f : A → B) → Short L q ts used → Short (λ n. f <$> L n) q ts used
short_as f s = record { only = λ n x y w e z. s.only n x y z.value e z.part; ends = s.ends }

pub never_as : {T A B : Type 0} {L : Family T A} {ts used : List T} (f : A → B) → Never L ts used → Never (λ n. f <$> L n) ts used
never_as f s = record { only = λ n x y w e z. s.only n x y z.value e z.part; ends = s.ends }

pub short_measured : {T A M : Type 0} {L : Family T A} {q : T → Bool} {ts used : List T} (f : List T → M) → Short L q ts used → Short (λ n. measured f (L n)) q ts used
short_measured f s = record { only = λ n x y w e z. s.only n x y w.0 e z.part; ends = s.ends }

pub never_measured : {T A M : Type 0} {L : Family T A} {ts used : List T} (f : List T → M) → Never L ts used → Never (λ n. measured f (L n)) ts used
never_measured f s = record { only = λ n x y w e z. s.only n x y w.0 e z.part; ends = s.ends }

pub short_two : {T A : Type 0} {G H : Family T A} {q : T → Bool} {ts used : List T} → Short G q ts used → Short H q ts used → Short (λ n. G n ∥ H n) q ts used
short_two {used = used} g h = record {
  only = λ n x y w e z. elim z [ inl a ↦ g.only n x y w e a | inr b ↦ h.only n x y w e b ];
  ends = λ n x y e z. elim z [ inl (none_yet c) ↦ none_front used x c | inl (some st b) ↦ g.ends n x y e b | inr (none_yet c) ↦ none_front used x c | inr (some st b) ↦ h.ends n x y e b ];
}

pub never_two : {T A : Type 0} {G H : Family T A} {ts used : List T} → Never G ts used → Never H ts used → Never (λ n. G n ∥ H n) ts used
never_two {used = used} g h = record {
  only = λ n x y w e z. elim z [ inl a ↦ g.only n x y w e a | inr b ↦ h.only n x y w e b ];
  ends = λ n x y e z. elim z [ inl (none_yet c) ↦ none_front used x c | inl (some st b) ↦ g.ends n x y e b | inr (none_yet c) ↦ none_front used x c | inr (some st b) ↦ h.ends n x y e b ];
}

pub never_pair : {T A : Type 0} {G H : Family T A} {ts used : List T} → Never (λ n. present (G n)) ts used → Never (λ n. present (H n)) ts used → Never (λ n. G n ∥ H n) ts used
never_pair g h = record {
  only = λ n x y w e z. elim z [ inl a ↦ g.only n x y w e a | inr b ↦ h.only n x y w e b ];
  ends = λ n x y e z. elim z [ inl a ↦ g.ends n x y e a | inr b ↦ h.ends n x y e b ];
}

pub never_present : {T A : Type 0} {L : Family T A} {ts used : List T} → Never L ts used → Never (λ n. present (L n)) ts used
never_present {used = used} s = record { only = s.only; ends = λ n x y e b. elim b [ none_yet c ↦ none_front used x c | some st b2 ↦ s.ends n x y e b2 ] }

-- one part and then another
module _ {T A B : Type 0} {G : Family T A} {H : Family T B} {q p : T → Bool} {ts used : List T} (g : Short G q ts used) (o : Opens H p) (a : Apart q p) where
  pub from_front : (n : ℕ) (f k x y : List T) (w : B) → x ≡ f ++ k → Within used f → Blocked q (k ++ y) → (H n).spells k w → Within used x × Blocked q y
  from_front n f [] x y w cut within blocked s = (subst (Within used) (sym (cut ∙ append-nil f)) within, blocked)
  from_front n f (t ∷ k) x y w cut within blocked s = absurd (a t (blocked t (k ++ y) refl) (o.spells n t k w s))

  pub ends_front : (n : ℕ) (f k x y : List T) → x ≡ f ++ k → Within used f → Blocked q (k ++ y) → (H n).begins k → Within used x
  ends_front n f [] x y cut within blocked s = subst (Within used) (sym (cut ∙ append-nil f)) within
  ends_front n f (t ∷ k) x y cut within blocked s = absurd (a t (blocked t (k ++ y) refl) (o.begins n t k s))

  pub cut_front : (x y f k : List T) → ts ≡ x ++ y → x ≡ f ++ k → ts ≡ f ++ (k ++ y)
  cut_front x y f k e cut = e ∙ (ap (λ l. l ++ y) cut ∙ append_assoc f k y)

  pub short_both : Short (λ n. G n >> H n) q ts used
  short_both = record {
    only = λ n x y w e s. let c = g.only n s.front (s.back ++ y) w.0 (cut_front x y s.front s.back e s.cut) s.first in from_front n s.front s.back x y w.1 s.cut c.0 c.1 s.second;
    ends = λ n x y e b. elim b [
      | in_first b1 ↦ g.ends n x y e b1
      | in_second f k v cut s b2 ↦ let c = g.only n f (k ++ y) v (cut_front x y f k e cut) s in ends_front n f k x y cut c.0 c.1 b2
    ];
  }

-- a second part that is never empty is not spelled
module _ {T A B : Type 0} {G : Family T A} {H : Family T B} {q p : T → Bool} {ts used : List T} (g : Short G q ts used) (h : Heads H p) (a : Apart q p) where
  pub ended : (n : ℕ) (k y : List T) (w : B) → Blocked q (k ++ y) → (H n).spells k w → ⊥
  ended n [] y w blocked s = h.full n w s
  ended n (t ∷ k) y w blocked s = a t (blocked t (k ++ y) refl) (h.spells n t k w s)

  pub never_ended : Never (λ n. G n >> H n) ts used
  never_ended = record {
    only = λ n x y w e s. let c = g.only n s.front (s.back ++ y) w.0 (e ∙ (ap (λ l. l ++ y) s.cut ∙ append_assoc s.front s.back y)) s.first in ended n s.back y w.1 c.1 s.second;
    ends = (short_both g (record { spells = h.spells; begins = h.begins }) a).ends;
  }

-- a first part that is not spelled
pub never_both : {T A B : Type 0} {G : Family T A} (H : Family T B) {ts used : List T} → Never G ts used → Never (λ n. G n >> H n) ts used
never_both H g = record {
  only = λ n x y w e s. g.only n s.front (s.back ++ y) w.0 (e ∙ (ap (λ l. l ++ y) s.cut ∙ append_assoc s.front s.back y)) s.first;
  ends = λ n x y e b. elim b [ in_first b1 ↦ g.ends n x y e b1 | in_second f k v cut s b2 ↦ absurd (g.only n f (k ++ y) v (e ∙ (ap (λ l. l ++ y) cut ∙ append_assoc f k y)) s) ];
}

-- a first part that may be empty, and whose tokens are not there
module _ {T A B : Type 0} {G : Family T A} {H : Family T B} {q p : T → Bool} {ts used : List T} (o : Opens G p) (unseen : sees p ts ≡ false) (h : Short H q ts used) where
  pub not_first : (t : T) (x y : List T) → ts ≡ (t ∷ x) ++ y → p t ≡ true → ⊥
  not_first t x y e s = not_both s (sym (sees_head p ts t (x ++ y) e) ∙ unseen)

  pub skip_front : (n : ℕ) (f k x y : List T) (v : A) → ts ≡ x ++ y → x ≡ f ++ k → (G n).spells f v → x ≡ k
  skip_front n [] k x y v e cut s = cut
  skip_front n (t ∷ f) k x y v e cut s = absurd (not_first t (f ++ k) y (e ∙ ap (λ l. l ++ y) cut) (o.spells n t f v s))

  pub skip_begun : (n : ℕ) (x y : List T) → ts ≡ x ++ y → (G n).begins x → Within used x
  skip_begun n [] y e b = none_front used [] refl
  skip_begun n (t ∷ x) y e b = absurd (not_first t x y e (o.begins n t x b))

  pub short_skip : Short (λ n. G n >> H n) q ts used
  short_skip = record {
    only = λ n x y w e s. let same_part = skip_front n s.front s.back x y w.0 e s.cut s.first in
        h.only n x y w.1 e (let P : List T → Type 0 = λ l. (H n).spells l w.1 in subst P (sym same_part) s.second);
    ends = λ n x y e b. elim b [
      | in_first b1 ↦ skip_begun n x y e b1
      | in_second f k v cut s b2 ↦ h.ends n x y e (let P : List T → Type 0 = λ l. (H n).begins l in subst P (sym (skip_front n f k x y v e cut s)) b2)
    ];
  }

-- a part with what may follow its value
module _ {T A B : Type 0} {G : Family T A} (H : A → Family T B) {q p : T → Bool} {ts used : List T} (g : Short G q ts used) (o : (v : A) → Opens (H v) p) (a : Apart q p) where
  pub then_front : (n : ℕ) (v : A) (f k x y : List T) (w : B) → x ≡ f ++ k → Within used f → Blocked q (k ++ y) → (H v n).spells k w → Within used x × Blocked q y
  then_front n v f [] x y w cut within blocked s = (subst (Within used) (sym (cut ∙ append-nil f)) within, blocked)
  then_front n v f (t ∷ k) x y w cut within blocked s = absurd (a t (blocked t (k ++ y) refl) ((o v).spells n t k w s))

  pub then_ends : (n : ℕ) (v : A) (f k x y : List T) → x ≡ f ++ k → Within used f → Blocked q (k ++ y) → (H v n).begins k → Within used x
  then_ends n v f [] x y cut within blocked s = subst (Within used) (sym (cut ∙ append-nil f)) within
  then_ends n v f (t ∷ k) x y cut within blocked s = absurd (a t (blocked t (k ++ y) refl) ((o v).begins n t k s))

  pub short_then : Short (λ n. then_by (G n) (λ v. H v n)) q ts used
  short_then = record {
    only = λ n x y w e s. let c = g.only n s.front (s.back ++ y) w.0 (e ∙ (ap (λ l. l ++ y) s.cut ∙ append_assoc s.front s.back y)) s.first in then_front n w.0 s.front s.back x y w.1 s.cut c.0 c.1 s.second;
    ends = λ n x y e b. elim b [
      | then_first b1 ↦ g.ends n x y e b1
      | then_second f k v cut s b2 ↦ let c = g.only n f (k ++ y) v (e ∙ (ap (λ l. l ++ y) cut ∙ append_assoc f k y)) s in then_ends n v f k x y cut c.0 c.1 b2
    ];
  }

-- a token before a part
module _ {T A : Type 0} {G : Family T A} (p : T → Bool) (t : T) {u used : List T} (g : Never G u used) where
  pub led_spelled : (n : ℕ) (x y f k : List T) (w : A) (v : Unit {0}) → t ∷ u ≡ x ++ y → x ≡ f ++ k → (the p).spells f v → (G n).spells k w → ⊥
  led_spelled n x y f k w v e cut s z = let alone = s.alone in let c : t ∷ u ≡ s.token ∷ (k ++ y) = e ∙ (ap (λ l. l ++ y) (cut ∙ ap (λ l. l ++ k) alone)) in let tails : u ≡ k ++ y = cc in g.only n k y w tails z

  pub led_front : (x f : List T) (s : T) → x ≡ f → f ≡ s ∷ [] → (y : List T) → t ∷ u ≡ x ++ y → Within (t ∷ used) x
  led_front x f s e alone y c = let d : t ∷ u ≡ s ∷ y = c ∙ ap (λ l. l ++ y) (e ∙ alone) in let heads : t ≡ s = cc in (used, ap (λ z. z ∷ used) heads ∙ sym (ap (λ l. l ++ used) (e ∙ alone)))

  pub led_first : (n : ℕ) (x y : List T) → t ∷ u ≡ x ++ y → (the p).begins x → Within (t ∷ used) x
  led_first n x y e (nothing c) = none_front (t ∷ used) x c
  led_first n x y e (whole v s) = led_front x x s.token refl s.alone y e

  pub led_second : (n : ℕ) (x y f k : List T) (s : T) → t ∷ u ≡ x ++ y → x ≡ f ++ k → f ≡ s ∷ [] → (G n).begins k → Within (t ∷ used) x
  led_second n x y f k s e cut alone b =
      let c : x ≡ s ∷ k = cut ∙ ap (λ l. l ++ k) alone in
      let d : t ∷ u ≡ s ∷ (k ++ y) = e ∙ ap (λ l. l ++ y) c in
      let heads : t ≡ s = cc in let tails : u ≡ k ++ y = cc in
      let w = g.ends n k y tails b in (w.0, ap (λ l. t ∷ l) w.1 ∙ (ap (λ z. z ∷ (k ++ w.0)) heads ∙ sym (ap (λ l. l ++ w.0) c)))

  pub never_led : Never (λ n. p ⊳ G n) (t ∷ u) (t ∷ used)
  never_led = record {
    only = λ n x y w e z. led_spelled n x y z.part.front z.part.back z.value.1 z.value.0 e z.part.cut z.part.first z.part.second;
    ends = λ n x y e b. elim b [ in_first b1 ↦ led_first n x y e b1 | in_second f k v cut s b2 ↦ led_second n x y f k s.token e cut s.alone b2 ];
  }

-- one level deeper
module _ {T A : Type 0} {K L : Family T A} (b : Below K L) (ts used : List T) where
  pub below_ends : (g : (n : ℕ) (x y : List T) → ts ≡ x ++ y → (L n).begins x → Within used x) (n : ℕ) (x y : List T) → ts ≡ x ++ y → (K n).begins x → Within used x
  below_ends g zero x y e s = none_front used x (subst (λ (l : Language T A). l.begins x) b.none s)
  below_ends g (suc n) x y e s = g n x y e (subst (λ (l : Language T A). l.begins x) (b.one_less n) s)

  pub below_only : (P : List T → List T → Type 0) → ((n : ℕ) (x y : List T) (w : A) → ts ≡ x ++ y → (L n).spells x w → P x y) → (n : ℕ) (x y : List T) (w : A) → ts ≡ x ++ y → (K n).spells x w → P x y
  below_only P g zero x y w e s = absurd (subst (λ (l : Language T A). l.spells x w) b.none s)
  below_only P g (suc n) x y w e s = g n x y w e (subst (λ (l : Language T A). l.spells x w) (b.one_less n) s)

pub short_below : {T A : Type 0} {K L : Family T A} {q : T → Bool} {ts used : List T} → Below K L → Short L q ts used → Short K q ts used
short_below {q = q} {ts = ts} {used = used} b g = record { only = below_only b ts used (λ x y. Within used x × Blocked q y) g.only; ends = below_ends b ts used g.ends }

pub never_below : {T A : Type 0} {K L : Family T A} {ts used : List T} → Below K L → Never L ts used → Never K ts used
never_below {ts = ts} {used = used} b g = record { only = below_only b ts used (λ x y. ⊥) g.only; ends = below_ends b ts used g.ends }
