-- How far a language goes at given tokens, where what goes on does not depend on the value: a part and then another, and other ways to write the same.
use Rattle.std.proofs.Common.{◌≡◌, ℕ, zero, suc, Bool, true, false, ◌&&◌, List, [], ◌∷◌, ◌++◌, length, Option, refl, sym, ◌∙◌, ap, subst, inl, inr, append_assoc, arith, length-append}
use Rattle.std.proofs.lemmas.List.{append-nil}
use Rattle.cx_grammar.specs.Language.{one, nothing, whole, ◌>>◌, ◌<$>◌, ◌∥◌, in_first, in_second, none_yet, some, maybe, upto, such, measured}
use Rattle.cx_grammar.specs.Exact.{Family, GoesOn, Within, same, shorter, done, Exact}
use Rattle.cx_grammar.specs.Reading.{sees}
use Rattle.cx_grammar.specs.Sets.{by, never}
use Rattle.cx_grammar.proofs.Heads.{Apart, Sub, Opens, or_left, or_right}
use Rattle.cx_grammar.proofs.Parts.{Same}
use Rattle.cx_syntax.proofs.Beside.{Covers}
use Rattle.cx_syntax.proofs.Fronts.{Short, Never, Blocked, none_front, never_short, skip_front, short_skip}

-- ---- fronts

pub within_after : {T : Type 0} (f used x : List T) → Within used x → Within (f ++ used) (f ++ x)
within_after f used x (d, e) = (d, ap (λ l. f ++ l) e ∙ sym (append_assoc f x d))

pub within_front : {T : Type 0} (f used x : List T) → Within f x → Within (f ++ used) x
within_front f used x (d, e) = (d ++ used, ap (λ l. l ++ used) e ∙ append_assoc x d used)

-- the set that goes on is the same for each value
pub goes_any : {T A B : Type 0} (q : T → Bool) (v : A) (w : B) (y : List T) → GoesOn (by q) v y → GoesOn (by q) w y
goes_any q v w [] h = h
goes_any q v w (t ∷ y) h = h

-- ---- a part that was read, and then another that goes no further than some tokens

module _ {T A B : Type 0} {M : Family T A} {H : Family T B} {q p go : T → Bool} {least : ℕ} {ts rest : List T} {v : A}
    (m : Exact M (by q) least ts (done v rest)) (o : Opens H p) (a : Apart q p) (over : (n : ℕ) (w : B) (t : T) → (H n).spells [] w → q t ≡ true → go t ≡ true) {used : List T} (c : Covers H (by go) rest used)
  where
    led_cut : (x y f k : List T) → ts ≡ x ++ y → x ≡ f ++ k → ts ≡ f ++ (k ++ y)
    led_cut x y f k e cut = e ∙ (ap (λ l. l ++ y) cut ∙ append_assoc f k y)

    led_whole : (x f k : List T) → x ≡ f ++ k → f ≡ m.used → Within used k → Within (m.used ++ used) x
    led_whole x f k cut is within = subst (Within (m.used ++ used)) (sym (cut ∙ ap (λ l. l ++ k) is)) (within_after m.used used k within)

    led_short : (n : ℕ) (x y f k : List T) (u : A) (w : B) (z : A × B) → x ≡ f ++ k → Within m.used f → GoesOn (by q) u (k ++ y) → (H n).spells k w → Within (m.used ++ used) x × GoesOn (by go) z y
    led_short n x y f [] u w z cut within goes s = (subst (Within (m.used ++ used)) (sym (cut ∙ append-nil f)) (within_front m.used used f within), led_goes n y u w z goes s)
      where
        led_goes : (n : ℕ) (y : List T) (u : A) (w : B) (z : A × B) → GoesOn (by q) u y → (H n).spells [] w → GoesOn (by go) z y
        led_goes n [] u w z goes s = goes
        led_goes n (t ∷ y) u w z goes s = over n w t s goes
    led_short n x y f (t ∷ k) u w z cut within goes s = absurd (a t goes (o.spells n t k w s))

    led_begun : (n : ℕ) (x y f k : List T) (u : A) → x ≡ f ++ k → Within m.used f → GoesOn (by q) u (k ++ y) → (H n).begins k → Within (m.used ++ used) x
    led_begun n x y f [] u cut within goes b = subst (Within (m.used ++ used)) (sym (cut ∙ append-nil f)) (within_front m.used used f within)
    led_begun n x y f (t ∷ k) u cut within goes b = absurd (a t goes (o.begins n t k b))

    pub covers_led : Covers (λ n. M n >> H n) (by go) ts (m.used ++ used)
    covers_led = record {
      only = λ n x y w e s. elim (m.core.only n tt s.front (s.back ++ y) w.0 (led_cut x y s.front s.back e s.cut) s.first) [
        | same xe ye we ↦ let d = c.only n s.back y w.1 (sym ye) s.second in (led_whole x s.front s.back s.cut xe d.0, goes_any go w.1 w y d.1)
        | shorter within goes ↦ led_short n x y s.front s.back w.0 w.1 w s.cut within goes s.second
      ];
      ends = λ n x y e b. elim b [
        | in_first b1 ↦ within_front m.used used x (m.core.ends n tt x y e b1)
        | in_second f k w cut s b2 ↦ elim (m.core.only n tt f (k ++ y) w (led_cut x y f k e cut) s) [
          | same xe ye we ↦ led_whole x f k cut xe (c.ends n k y (sym ye) b2)
          | shorter within goes ↦ led_begun n x y f k w cut within goes b2
        ]
      ];
    }

-- ---- other ways to write the first of two parts

module _ {T A B C : Type 0} {H : Family T C} {go : T → Bool} {ts used : List T} where
  pub covers_first_as : {G : Family T A} (f : A → B) → Covers (λ n. G n >> H n) (by go) ts used → Covers (λ n. (f <$> G n) >> H n) (by go) ts used
  covers_first_as f c = record {
    only = λ n x y w e s. let d = c.only n x y (s.first.value, w.1) e (record { front = s.front; back = s.back; cut = s.cut; first = s.first.part; second = s.second }) in (d.0, goes_any {A = A × C} go (s.first.value, w.1) w y d.1);
    ends = λ n x y e b. elim b [ in_first b1 ↦ c.ends n x y e (in_first b1) | in_second f k w cut s b2 ↦ c.ends n x y e (in_second f k s.value cut s.part b2) ];
  }

  pub covers_first_measured : {G : Family T A} (f : List T → B) → Covers (λ n. G n >> H n) (by go) ts used → Covers (λ n. measured f (G n) >> H n) (by go) ts used
  covers_first_measured f c = record {
    only = λ n x y w e s. let d = c.only n x y (w.0.0, w.1) e (record { front = s.front; back = s.back; cut = s.cut; first = s.first.part; second = s.second }) in (d.0, goes_any {A = A × C} go (w.0.0, w.1) w y d.1);
    ends = λ n x y e b. elim b [ in_first b1 ↦ c.ends n x y e (in_first b1) | in_second f k w cut s b2 ↦ c.ends n x y e (in_second f k w.0 cut s.part b2) ];
  }

  -- three parts, the first two together
  pub covers_three : {G : Family T A} {K : Family T B} → ((n : ℕ) → (H n).begins []) → Covers (λ n. G n >> (K n >> H n)) (by go) ts used → Covers (λ n. (G n >> K n) >> H n) (by go) ts used
  covers_three blank c = record {
    only = λ n x y w e s. let i = s.first in
        let d = c.only n x y (w.0.0, (w.0.1, w.1)) e (record {
          front = i.front;
          back = i.back ++ s.back;
          cut = s.cut ∙ (ap (λ l. l ++ s.back) i.cut ∙ append_assoc i.front i.back s.back);
          first = i.first;
          second = record { front = i.back; back = s.back; cut = refl; first = i.second; second = s.second };
        }) in (d.0, goes_any {A = A × (B × C)} go (w.0.0, (w.0.1, w.1)) w y d.1);
    ends = λ n x y e b. elim b [
      | in_first b1 ↦ elim b1 [ in_first b2 ↦ c.ends n x y e (in_first b2) | in_second f k v cut s b2 ↦ c.ends n x y e (in_second f k v cut s (in_first b2)) ]
      | in_second f k v cut s b2 ↦ c.ends n x y e (in_second s.front (s.back ++ k) v.0 (cut ∙ (ap (λ l. l ++ k) s.cut ∙ append_assoc s.front s.back k)) s.first (in_second s.back k v.1 refl s.second b2))
    ];
  }

-- ---- a language that has nothing but fronts of some tokens, and spells nothing but the empty list

pub record Blank {T A : Type 0} (L : Family T A) (ts used : List T) : Type 0 where
  pub only : (n : ℕ) (x y : List T) (w : A) → ts ≡ x ++ y → (L n).spells x w → x ≡ []
  pub ends : (n : ℕ) (x y : List T) → ts ≡ x ++ y → (L n).begins x → Within used x

pub blank_never : {T A : Type 0} {L : Family T A} {ts used : List T} → Never L ts used → Blank L ts used
blank_never s = record { only = λ n x y w e z. absurd (s.only n x y w e z); ends = s.ends }

pub goes_whole : {T A : Type 0} (go : T → Bool) (w : A) (ts x y : List T) → ts ≡ x ++ y → x ≡ [] → sees go ts ≡ true → GoesOn (by go) w y
goes_whole go w ts x [] e none seen = let whole : ts ≡ [] = e ∙ (append-nil x ∙ none) in let h : false ≡ true = sym (ap (sees go) whole) ∙ seen in cc
goes_whole go w ts x (t ∷ y) e none seen = sym (ap (sees go) (e ∙ ap (λ l. l ++ (t ∷ y)) none)) ∙ seen

pub blank_covers : {T A : Type 0} {L : Family T A} (go : T → Bool) {ts used : List T} → sees go ts ≡ true → Blank L ts used → Covers L (by go) ts used
blank_covers go {ts = ts} {used = used} seen s = record { only = λ n x y w e z. let none = s.only n x y w e z in (none_front used x none, goes_whole go w ts x y e none seen); ends = s.ends }

pub blank_maybe : {T A : Type 0} {L : Family T A} {ts used : List T} → Never L ts used → Blank (λ n. maybe (L n)) ts used
blank_maybe {used = used} s = record {
  only = λ n x y w e z. elim z [ inl a ↦ a.part | inr a ↦ absurd (s.only n x y a.value e a.part) ];
  ends = λ n x y e b. elim b [ inl none ↦ none_front used x none | inr (none_yet none) ↦ none_front used x none | inr (some st c) ↦ s.ends n x y e c ];
}

pub blank_upto : {T A : Type 0} {L : Family T A} {ts used : List T} → Never L ts used → (most : ℕ) → Blank (λ n. upto most (L n)) ts used
blank_upto {T = T} {A = A} {L = L} {ts = ts} {used = used} s most = record { only = λ n x y w e z. upto_only most n x y w e z; ends = λ n x y e b. upto_ends most n x y e b }
  where
    upto_only : (most n : ℕ) (x y : List T) (w : List A) → ts ≡ x ++ y → (upto most (L n)).spells x w → x ≡ []
    upto_only zero n x y w e z = z.part
    upto_only (suc most) n x y w e (inl z) = let i = z.part in absurd (s.only n i.front (i.back ++ y) z.value.0 (e ∙ (ap (λ l. l ++ y) i.cut ∙ append_assoc i.front i.back y)) i.first)
    upto_only (suc most) n x y w e (inr z) = z.part

    upto_ends : (most n : ℕ) (x y : List T) → ts ≡ x ++ y → (upto most (L n)).begins x → Within used x
    upto_ends zero n x y e b = none_front used x b
    upto_ends (suc most) n x y e (inl (in_first (none_yet none))) = none_front used x none
    upto_ends (suc most) n x y e (inl (in_first (some st b))) = s.ends n x y e b
    upto_ends (suc most) n x y e (inl (in_second f k v cut z b)) = absurd (s.only n f (k ++ y) v (e ∙ (ap (λ l. l ++ y) cut ∙ append_assoc f k y)) z)
    upto_ends (suc most) n x y e (inr none) = none_front used x none

pub blank_both : {T A B : Type 0} {G : Family T A} {H : Family T B} {ts used : List T} → Blank G ts used → Blank H ts used → Blank (λ n. G n >> H n) ts used
blank_both {T = T} {A = A} {G = G} {H = H} {ts = ts} {used = used} g h = record {
  only = λ n x y w e s. let none = g.only n s.front (s.back ++ y) w.0 (e ∙ (ap (λ l. l ++ y) s.cut ∙ append_assoc s.front s.back y)) s.first in
      let whole : x ≡ s.back = s.cut ∙ ap (λ l. l ++ s.back) none in whole ∙ h.only n s.back y w.1 (e ∙ ap (λ l. l ++ y) whole) s.second;
  ends = λ n x y e b. elim b [
    | in_first b1 ↦ g.ends n x y e b1
    | in_second f k v cut s b2 ↦ both_ends n x y f k v e cut s b2
  ];
}
  where
    both_ends : (n : ℕ) (x y f k : List T) (v : A) → ts ≡ x ++ y → x ≡ f ++ k → (G n).spells f v → (H n).begins k → Within used x
    both_ends n x y f k v e cut s b = let none = g.only n f (k ++ y) v (e ∙ (ap (λ l. l ++ y) cut ∙ append_assoc f k y)) s in
        let whole : x ≡ k = cut ∙ ap (λ l. l ++ k) none in subst (Within used) (sym whole) (h.ends n k y (e ∙ ap (λ l. l ++ y) whole) b)

-- ---- two alternatives before a part

module _ {T A B : Type 0} (G H : Family T A) (K : Family T B) (stays_g : (n : ℕ) → (G n).stays ≡ true) (stays_h : (n : ℕ) → (H n).stays ≡ true) (stays_k : (n : ℕ) → (K n).stays ≡ true) where
  both_stay : (b c : Bool) → b ≡ true → c ≡ true → (b && c) ≡ true
  both_stay b c e f = ap (λ v. v && c) e ∙ f

  apart_spells : (n : ℕ) (x : List T) (w : A × B) → ((G n >> K n) ∥ (H n >> K n)).spells x w → ((G n ∥ H n) >> K n).spells x w
  apart_spells n x w (inl s) = record { front = s.front; back = s.back; cut = s.cut; first = inl s.first; second = s.second }
  apart_spells n x w (inr s) = record { front = s.front; back = s.back; cut = s.cut; first = inr s.first; second = s.second }

  apart_spelled : (n : ℕ) (x f k : List T) (w : A × B) → x ≡ f ++ k → (G n ∥ H n).spells f w.0 → (K n).spells k w.1 → ((G n >> K n) ∥ (H n >> K n)).spells x w
  apart_spelled n x f k w cut (inl s) z = inl (record { front = f; back = k; cut = cut; first = s; second = z })
  apart_spelled n x f k w cut (inr s) z = inr (record { front = f; back = k; cut = cut; first = s; second = z })

  some_first : (n : ℕ) (x : List T) → (G n >> K n).begins x → ((G n >> K n) ∥ (H n >> K n)).begins x
  some_first n x b = inl (some (both_stay (G n).stays (K n).stays (stays_g n) (stays_k n)) b)

  some_second : (n : ℕ) (x : List T) → (H n >> K n).begins x → ((G n >> K n) ∥ (H n >> K n)).begins x
  some_second n x b = inr (some (both_stay (H n).stays (K n).stays (stays_h n) (stays_k n)) b)

  apart_begins : (n : ℕ) (x : List T) → ((G n >> K n) ∥ (H n >> K n)).begins x → ((G n ∥ H n) >> K n).begins x
  apart_begins n x (inl (none_yet e)) = in_first (inl (none_yet e))
  apart_begins n x (inr (none_yet e)) = in_first (inr (none_yet e))
  apart_begins n x (inl (some st (in_first b))) = in_first (inl (some (stays_g n) b))
  apart_begins n x (inl (some st (in_second f k v cut s b))) = in_second f k v cut (inl s) b
  apart_begins n x (inr (some st (in_first b))) = in_first (inr (some (stays_h n) b))
  apart_begins n x (inr (some st (in_second f k v cut s b))) = in_second f k v cut (inr s) b

  apart_begun : (n : ℕ) (x : List T) → ((G n ∥ H n) >> K n).begins x → ((G n >> K n) ∥ (H n >> K n)).begins x
  apart_begun n x (in_first (inl (none_yet e))) = inl (none_yet e)
  apart_begun n x (in_first (inr (none_yet e))) = inr (none_yet e)
  apart_begun n x (in_first (inl (some st b))) = some_first n x (in_first b)
  apart_begun n x (in_first (inr (some st b))) = some_second n x (in_first b)
  apart_begun n x (in_second f k v cut (inl s) b) = some_first n x (in_second f k v cut s b)
  apart_begun n x (in_second f k v cut (inr s) b) = some_second n x (in_second f k v cut s b)

  -- `g k | h k` is `(g | h) k`
  pub either_before : Same (λ n. (G n >> K n) ∥ (H n >> K n)) (λ n. (G n ∥ H n) >> K n)
  either_before = record { spells = apart_spells; spelled = λ n x w s. apart_spelled n x s.front s.back w s.cut s.first s.second; begins = apart_begins; begun = apart_begun }

pub same_measured : {T A M : Type 0} {G H : Family T A} (f : List T → M) → Same G H → Same (λ n. measured f (G n)) (λ n. measured f (H n))
same_measured f e = record {
  spells = λ n x w s. record { part = e.spells n x w.0 s.part; measure = s.measure };
  spelled = λ n x w s. record { part = e.spelled n x w.0 s.part; measure = s.measure };
  begins = e.begins;
  begun = e.begun;
}

pub covers_first_such : {T A B : Type 0} {H : Family T B} {go : T → Bool} {ts used : List T} {G : Family T A} (f : A → Bool) → Covers (λ n. G n >> H n) (by go) ts used → Covers (λ n. such f (G n) >> H n) (by go) ts used
covers_first_such f c = record {
  only = λ n x y w e s. c.only n x y w e (record { front = s.front; back = s.back; cut = s.cut; first = s.first.part; second = s.second });
  ends = λ n x y e b. elim b [ in_first b1 ↦ c.ends n x y e (in_first b1) | in_second f2 k w cut s b2 ↦ c.ends n x y e (in_second f2 k w cut s.part b2) ];
}

-- alternatives inside what is made of them and measured
module _ {T A B M : Type 0} (f : A × M → B) (measure : List T → M) (G H : Family T A) where
  made_spells : (n : ℕ) (x : List T) (w : B) → ((f <$> measured measure (G n)) ∥ (f <$> measured measure (H n))).spells x w → (f <$> measured measure (G n ∥ H n)).spells x w
  made_spells n x w (inl s) = record { value = s.value; made = s.made; part = record { part = inl s.part.part; measure = s.part.measure } }
  made_spells n x w (inr s) = record { value = s.value; made = s.made; part = record { part = inr s.part.part; measure = s.part.measure } }

  made_spelled : (n : ℕ) (x : List T) (w : B) → (f <$> measured measure (G n ∥ H n)).spells x w → ((f <$> measured measure (G n)) ∥ (f <$> measured measure (H n))).spells x w
  made_spelled n x w s = elim s.part.part [
    | inl a ↦ inl (record { value = s.value; made = s.made; part = record { part = a; measure = s.part.measure } })
    | inr b ↦ inr (record { value = s.value; made = s.made; part = record { part = b; measure = s.part.measure } })
  ]

  made_begins : (n : ℕ) (x : List T) → ((f <$> measured measure (G n)) ∥ (f <$> measured measure (H n))).begins x → (G n ∥ H n).begins x
  made_begins n x (inl (none_yet e)) = inl (none_yet e)
  made_begins n x (inl (some st b)) = inl (some st b)
  made_begins n x (inr (none_yet e)) = inr (none_yet e)
  made_begins n x (inr (some st b)) = inr (some st b)

  made_begun : (n : ℕ) (x : List T) → (G n ∥ H n).begins x → ((f <$> measured measure (G n)) ∥ (f <$> measured measure (H n))).begins x
  made_begun n x (inl (none_yet e)) = inl (none_yet e)
  made_begun n x (inl (some st b)) = inl (some st b)
  made_begun n x (inr (none_yet e)) = inr (none_yet e)
  made_begun n x (inr (some st b)) = inr (some st b)

  pub either_made : Same (λ n. (f <$> measured measure (G n)) ∥ (f <$> measured measure (H n))) (λ n. f <$> measured measure (G n ∥ H n))
  either_made = record { spells = made_spells; spelled = made_spelled; begins = made_begins; begun = made_begun }

-- ---- from fronts that a token of a set follows

-- tokens follow what is used
pub short_covers : {T A : Type 0} {L : Family T A} {q : T → Bool} (go : T → Bool) {ts used : List T} (t : T) (rest : List T) → ts ≡ used ++ t ∷ rest → Sub q go → Short L q ts used → Covers L (by go) ts used
short_covers {T = T} {A = A} {q = q} go {ts = ts} {used = used} t rest cut k s = record {
  only = λ n x y w e z. let p = s.only n x y w e z in (p.0, follows x y w e p.0 p.1);
  ends = s.ends;
}
  where
    follows : (x y : List T) (w : A) → ts ≡ x ++ y → Within used x → Blocked q y → GoesOn (by go) w y
    follows x [] w e (d, c) b = let l : length ts ≡ length (x ++ []) = ap length e in let m = length-append x [] in let l2 : length used ≡ length (x ++ d) = ap length c in let m2 = length-append x d in
        let l3 : length ts ≡ length (used ++ t ∷ rest) = ap length cut in let m3 = length-append used (t ∷ rest) in let m4 = length-append (t ∷ []) rest in absurd (omega arith)
    follows x (u ∷ y) w e within b = k u (b u y refl)

pub short_maybe : {T A : Type 0} {L : Family T A} {q : T → Bool} {ts used : List T} → Blocked q ts → Short L q ts used → Short (λ n. maybe (L n)) q ts used
short_maybe {T = T} {q = q} {ts = ts} {used = used} b s = record {
  only = λ n x y w e z. elim z [ inl a ↦ (none_front used x a.part, λ t r c. b t r (e ∙ (ap (λ l. l ++ y) a.part ∙ c))) | inr a ↦ s.only n x y a.value e a.part ];
  ends = λ n x y e c. elim c [ inl none ↦ none_front used x none | inr (none_yet none) ↦ none_front used x none | inr (some st d) ↦ s.ends n x y e d ];
}

-- a first part that may be empty, and whose tokens are not there
pub never_skip : {T A B : Type 0} {G : Family T A} {H : Family T B} {p : T → Bool} {ts used : List T} → Opens G p → sees p ts ≡ false → Never H ts used → Never (λ n. G n >> H n) ts used
never_skip {T = T} {H = H} o unseen h = let s = never_short never h in record {
  only = λ n x y w e z. h.only n x y w.1 e (let P : List T → Type 0 = λ l. (H n).spells l w.1 in subst P (sym (skip_front o unseen s n z.front z.back x y w.0 e z.cut z.first)) z.second);
  ends = (short_skip o unseen s).ends;
}

-- ---- one token

pub one_left : {T : Type 0} (t : T) (rest used more : List T) → t ∷ rest ≡ used ++ more → length more ≡ length rest → used ≡ t ∷ []
one_left t rest [] more e l = let m : length (t ∷ rest) ≡ length more = ap length e in let m2 = length-append (t ∷ []) rest in absurd (omega arith)
one_left t rest (u ∷ []) more e l = let heads : t ≡ u = cc in ap (λ v. v ∷ []) (sym heads)
one_left t rest (u ∷ v ∷ used) more e l = let m : length (t ∷ rest) ≡ length ((u ∷ v ∷ used) ++ more) = ap length e in let m2 = length-append (t ∷ []) rest in let m3 = length-append (u ∷ v ∷ used) more in let m4 = length-append (u ∷ v ∷ []) used in absurd (omega arith)

pub blocked_first : {T : Type 0} (q : T → Bool) (c : T) (rest : List T) → q c ≡ true → Blocked q (c ∷ rest)
blocked_first q c rest e t l h = let same_token : c ≡ t = cc in subst (λ z. q z ≡ true) same_token e

pub blocked_unseen : {T : Type 0} (p q : T → Bool) (rest : List T) → sees p rest ≡ false → ((t : T) → p t ≡ false → q t ≡ true) → Blocked q rest
blocked_unseen p q [] e k t l h = cc
blocked_unseen p q (c ∷ rest) e k t l h = let same_token : c ≡ t = cc in subst (λ z. q z ≡ true) same_token (k c e)

module _ {T A : Type 0} (f : T → Option A) (t : T) (rest : List T) where
  token_front : (x y : List T) (u : T) → t ∷ rest ≡ x ++ y → x ≡ u ∷ [] → Within (t ∷ []) x × (rest ≡ y)
  token_front x y u e alone = let cut : t ∷ rest ≡ u ∷ y = e ∙ ap (λ l. l ++ y) alone in let heads : t ≡ u = cc in let tails : rest ≡ y = cc in
      (([], ap (λ v. v ∷ []) heads ∙ (sym alone ∙ sym (append-nil x))), tails)

  pub short_token : {q : T → Bool} → Blocked q rest → Short (λ n. one f) q (t ∷ rest) (t ∷ [])
  short_token b = record {
    only = λ n x y w e s. let p = token_front x y s.token e s.alone in (p.0, λ u r c. b u r (p.1 ∙ c));
    ends = λ n x y e c. elim c [ nothing none ↦ none_front (t ∷ []) x none | whole v s ↦ (token_front x y s.token e s.alone).0 ];
  }

-- ---- three alternatives, the last of them first

module _ {T A : Type 0} (G H K : Family T A) where
  rotated_begins : (n : ℕ) (x : List T) → (K n ∥ G n ∥ H n).begins x → (G n ∥ H n ∥ K n).begins x
  rotated_begins n x (inl (none_yet e)) = inl (none_yet e)
  rotated_begins n x (inl (some st b)) = inr (some (or_right (H n).stays st) (inr (some st b)))
  rotated_begins n x (inr (none_yet e)) = inl (none_yet e)
  rotated_begins n x (inr (some st (inl b))) = inl b
  rotated_begins n x (inr (some st (inr (none_yet e)))) = inl (none_yet e)
  rotated_begins n x (inr (some st (inr (some st2 b)))) = inr (some (or_left (H n).stays (K n).stays st2) (inl (some st2 b)))

  rotated_begun : (n : ℕ) (x : List T) → (G n ∥ H n ∥ K n).begins x → (K n ∥ G n ∥ H n).begins x
  rotated_begun n x (inl (none_yet e)) = inl (none_yet e)
  rotated_begun n x (inl (some st b)) = inr (some (or_left (G n).stays (H n).stays st) (inl (some st b)))
  rotated_begun n x (inr (none_yet e)) = inl (none_yet e)
  rotated_begun n x (inr (some st (inl (none_yet e)))) = inl (none_yet e)
  rotated_begun n x (inr (some st (inl (some st2 b)))) = inr (some (or_right (G n).stays st2) (inr (some st2 b)))
  rotated_begun n x (inr (some st (inr b))) = inl b

  pub rotated : Same (λ n. K n ∥ G n ∥ H n) (λ n. G n ∥ H n ∥ K n)
  rotated = record {
    spells = λ n x w s. elim s [ inl a ↦ inr (inr a) | inr b ↦ elim b [ inl c ↦ inl c | inr d ↦ inr (inl d) ] ];
    spelled = λ n x w s. elim s [ inl a ↦ inr (inl a) | inr b ↦ elim b [ inl c ↦ inr (inr c) | inr d ↦ inl d ] ];
    begins = rotated_begins;
    begun = rotated_begun;
  }
