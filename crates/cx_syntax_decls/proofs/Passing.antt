-- How far two parts go where the first was read whole, or is not there.
use Rattle.std.proofs.Common.{◌≡◌, ℕ, Bool, true, false, List, [], ◌∷◌, ◌++◌, refl, sym, ◌∙◌, ap, subst, inl, inr, ◌⊎◌, append_assoc}
use Rattle.std.proofs.lemmas.List.{append-nil}
use Rattle.cx_grammar.specs.Language.{◌>>◌, ◌<$>◌, ◌∥◌, measured, in_first, in_second, maybe, none_yet, some}
use Rattle.cx_grammar.specs.Exact.{Family, Within, same, shorter, done, Exact}
use Rattle.cx_grammar.specs.Reading.{sees}
use Rattle.cx_grammar.specs.Sets.{by}
use Rattle.cx_grammar.proofs.Both.{append_within}
use Rattle.cx_grammar.proofs.Heads.{Apart, Sub, Heads, Opens, not_both, same_sub}
use Rattle.cx_syntax.proofs.Fronts.{Blocked, Short, Never, goes_blocked, none_front, sees_head}

-- ---- a part that was read whole

-- What the part spells at these tokens is `used`, or shorter and a token of q stands behind it.
pub record Passed {T A : Type 0} (G : Family T A) (q : T → Bool) (ts used rest : List T) : Type 0 where
  pub cut : ts ≡ used ++ rest
  pub only : (n : ℕ) (x y : List T) (w : A) → ts ≡ x ++ y → (G n).spells x w → ((x ≡ used) × (y ≡ rest)) ⊎ (Within used x × Blocked q y)
  pub ends : (n : ℕ) (x y : List T) → ts ≡ x ++ y → (G n).begins x → Within used x

pub passed_done : {T A : Type 0} (G : Family T A) (q : T → Bool) (least : ℕ) (ts rest : List T) (v : A) → (e : Exact G (by q) least ts (done v rest)) → Passed G q ts e.used rest
passed_done G q least ts rest v e = record {
  cut = e.core.cut;
  only = λ n x y w c s. elim (e.core.only n tt x y w c s) [ same a b d ↦ inl (a, b) | shorter within goes ↦ inr (within, goes_blocked G q q least ts (same_sub q) w y goes) ];
  ends = λ n x y c b. e.core.ends n tt x y c b;
}

pub within_both : {T : Type 0} (a b f k x : List T) → x ≡ f ++ k → f ≡ a → Within b k → Within (a ++ b) x
within_both a b f k x cut e (d, be) = (d, ap (λ l. a ++ l) be ∙ (sym (append_assoc a k d) ∙ ap (λ l. l ++ d) (ap (λ l. l ++ k) (sym e) ∙ sym cut)))

pub cut_again : {T : Type 0} (ts x y f k : List T) → ts ≡ x ++ y → x ≡ f ++ k → ts ≡ f ++ (k ++ y)
cut_again ts x y f k e cut = e ∙ (ap (λ l. l ++ y) cut ∙ append_assoc f k y)

module _ {T A B : Type 0} {G : Family T A} {H : Family T B} {q p : T → Bool} {ts used rest : List T} (g : Passed G q ts used rest) (h : Heads H p) (a : Apart q p) where
  not_next : (n : ℕ) (k y : List T) (w : B) → Blocked q (k ++ y) → (H n).spells k w → ⊥
  not_next n [] y w blocked s = h.full n w s
  not_next n (t ∷ k) y w blocked s = a t (blocked t (k ++ y) refl) (h.spells n t k w s)

  shorter_begun : (n : ℕ) (f k x y : List T) → x ≡ f ++ k → Within used f → Blocked q (k ++ y) → (H n).begins k → Within used x
  shorter_begun n f [] x y cut within blocked s = subst (Within used) (sym (cut ∙ append-nil f)) within
  shorter_begun n f (t ∷ k) x y cut within blocked s = absurd (a t (blocked t (k ++ y) refl) (h.begins n t k s))

  behind_begun : (more : List T) → ((n : ℕ) (x y : List T) → rest ≡ x ++ y → (H n).begins x → Within more x) → (n : ℕ) (x y : List T) → ts ≡ x ++ y → (G n >> H n).begins x → Within (used ++ more) x
  behind_begun more ends n x y e (in_first b) = append_within used more x (g.ends n x y e b)
  behind_begun more ends n x y e (in_second f k v cut s b) = elim (g.only n f (k ++ y) v (cut_again ts x y f k e cut) s) [
    | inl (fe, ke) ↦ within_both used more f k x cut fe (ends n k y (sym ke) b)
    | inr (within, blocked) ↦ append_within used more x (shorter_begun n f k x y cut within blocked b)
  ]

  -- the second part is not spelled behind it
  pub behind_never : {more : List T} → Never H rest more → Never (λ n. G n >> H n) ts (used ++ more)
  behind_never {more = more} s = record {
    only = λ n x y w e z. elim (g.only n z.front (z.back ++ y) w.0 (cut_again ts x y z.front z.back e z.cut) z.first) [
      | inl (fe, ke) ↦ s.only n z.back y w.1 (sym ke) z.second
      | inr (within, blocked) ↦ not_next n z.back y w.1 blocked z.second
    ];
    ends = behind_begun more s.ends;
  }

  -- it goes so far
  pub behind_short : {r : T → Bool} {more : List T} → Short H r rest more → Short (λ n. G n >> H n) r ts (used ++ more)
  behind_short {more = more} s = record {
    only = λ n x y w e z. elim (g.only n z.front (z.back ++ y) w.0 (cut_again ts x y z.front z.back e z.cut) z.first) [
      | inl (fe, ke) ↦ let k = s.only n z.back y w.1 (sym ke) z.second in (within_both used more z.front z.back x z.cut fe k.0, k.1)
      | inr (within, blocked) ↦ absurd (not_next n z.back y w.1 blocked z.second)
    ];
    ends = behind_begun more s.ends;
  }

-- the second part may be empty
module _ {T A B : Type 0} {G : Family T A} {H : Family T B} {q p : T → Bool} {ts used rest : List T} (g : Passed G q ts used rest) (o : Opens H p) (a : Apart q p) where
  open_spelled : (r : T → Bool) → Sub q r → (n : ℕ) (f k x y : List T) (w : B) → x ≡ f ++ k → Within used f → Blocked q (k ++ y) → (H n).spells k w → Within used x × Blocked r y
  open_spelled r k n f [] x y w cut within blocked s = (subst (Within used) (sym (cut ∙ append-nil f)) within, λ t z e. k t (blocked t z e))
  open_spelled r k n f (t ∷ l) x y w cut within blocked s = absurd (a t (blocked t (l ++ y) refl) (o.spells n t l w s))

  open_begun : (n : ℕ) (f k x y : List T) → x ≡ f ++ k → Within used f → Blocked q (k ++ y) → (H n).begins k → Within used x
  open_begun n f [] x y cut within blocked s = subst (Within used) (sym (cut ∙ append-nil f)) within
  open_begun n f (t ∷ l) x y cut within blocked s = absurd (a t (blocked t (l ++ y) refl) (o.begins n t l s))

  pub behind_open : {r : T → Bool} {more : List T} → Sub q r → Short H r rest more → Short (λ n. G n >> H n) r ts (used ++ more)
  behind_open {r = r} {more = more} sub_r s = record {
    only = λ n x y w e z. elim (g.only n z.front (z.back ++ y) w.0 (cut_again ts x y z.front z.back e z.cut) z.first) [
      | inl (fe, ke) ↦ let k = s.only n z.back y w.1 (sym ke) z.second in (within_both used more z.front z.back x z.cut fe k.0, k.1)
      | inr (within, blocked) ↦ let k = open_spelled r sub_r n z.front z.back x y w.1 z.cut within blocked z.second in (append_within used more x k.0, k.1)
    ];
    ends = λ n x y e b. elim b [
      | in_first c ↦ append_within used more x (g.ends n x y e c)
      | in_second f k v cut z c ↦ elim (g.only n f (k ++ y) v (cut_again ts x y f k e cut) z) [
        | inl (fe, ke) ↦ within_both used more f k x cut fe (s.ends n k y (sym ke) c)
        | inr (within, blocked) ↦ append_within used more x (open_begun n f k x y cut within blocked c)
      ]
    ];
  }

-- ---- parts that are read whole, one behind another and in others

pub passed_as : {T A B : Type 0} {G : Family T A} {q : T → Bool} {ts used rest : List T} (f : A → B) → Passed G q ts used rest → Passed (λ n. f <$> G n) q ts used rest
passed_as f g = record { cut = g.cut; only = λ n x y w c s. g.only n x y s.value c s.part; ends = g.ends }

pub passed_measured : {T A M : Type 0} {G : Family T A} {q : T → Bool} {ts used rest : List T} (f : List T → M) → Passed G q ts used rest → Passed (λ n. measured f (G n)) q ts used rest
passed_measured f g = record { cut = g.cut; only = λ n x y w c s. g.only n x y w.0 c s.part; ends = g.ends }

pub passed_sub : {T A : Type 0} {G : Family T A} {q r : T → Bool} {ts used rest : List T} → Sub q r → Passed G q ts used rest → Passed G r ts used rest
passed_sub k g = record { cut = g.cut; only = λ n x y w c s. elim (g.only n x y w c s) [ inl a ↦ inl a | inr (within, blocked) ↦ inr (within, λ t z e. k t (blocked t z e)) ]; ends = g.ends }

pub passed_two : {T A : Type 0} {G H : Family T A} {q : T → Bool} {ts used rest : List T} → Passed G q ts used rest → Passed H q ts used rest → Passed (λ n. G n ∥ H n) q ts used rest
passed_two {used = used} g h = record {
  cut = g.cut;
  only = λ n x y w c z. elim z [ inl a ↦ g.only n x y w c a | inr b ↦ h.only n x y w c b ];
  ends = λ n x y c z. elim z [ inl (none_yet e) ↦ none_front used x e | inl (some st b) ↦ g.ends n x y c b | inr (none_yet e) ↦ none_front used x e | inr (some st b) ↦ h.ends n x y c b ];
}

-- what is not spelled is read whole as well as anything
pub passed_never : {T A : Type 0} {G : Family T A} (q : T → Bool) {ts used : List T} (rest : List T) → ts ≡ used ++ rest → Never G ts used → Passed G q ts used rest
passed_never q rest e s = record { cut = e; only = λ n x y w c z. absurd (s.only n x y w c z); ends = s.ends }

-- a part that may be left out: then a token of p comes next
pub passed_maybe : {T A : Type 0} {G : Family T A} {p : T → Bool} {ts used rest : List T} → Blocked p ts → Passed G p ts used rest → Passed (λ n. maybe (G n)) p ts used rest
passed_maybe {p = p} {ts = ts} {used = used} blocked g = record {
  cut = g.cut;
  only = λ n x y w e z. elim z [
    | inl a ↦ inr (none_front used x a.part, subst (Blocked p) (e ∙ ap (λ l. l ++ y) a.part) blocked)
    | inr a ↦ g.only n x y a.value e a.part
  ];
  ends = λ n x y e z. elim z [ inl a ↦ none_front used x a | inr (none_yet c) ↦ none_front used x c | inr (some st b) ↦ g.ends n x y e b ];
}

module _ {T A B : Type 0} {G : Family T A} {H : Family T B} {q p : T → Bool} {ts used mid : List T} (g : Passed G q ts used mid) (o : Opens H p) (a : Apart q p) where
  next_begun : (more : List T) → ((n : ℕ) (x y : List T) → mid ≡ x ++ y → (H n).begins x → Within more x) → (n : ℕ) (x y f k : List T) (v : A) → ts ≡ x ++ y → x ≡ f ++ k → (G n).spells f v → (H n).begins k → Within (used ++ more) x
  next_begun more ends n x y f k v e cut s b = elim (g.only n f (k ++ y) v (cut_again ts x y f k e cut) s) [
    | inl (fe, ke) ↦ within_both used more f k x cut fe (ends n k y (sym ke) b)
    | inr (within, blocked) ↦ append_within used more x (next_shorter n f k x y cut within blocked b)
  ]
    where
      next_shorter : (n : ℕ) (f k x y : List T) → x ≡ f ++ k → Within used f → Blocked q (k ++ y) → (H n).begins k → Within used x
      next_shorter n f [] x y cut within blocked s = subst (Within used) (sym (cut ∙ append-nil f)) within
      next_shorter n f (t ∷ l) x y cut within blocked s = absurd (a t (blocked t (l ++ y) refl) (o.begins n t l s))

  next_spelled : (n : ℕ) (f k x y : List T) (w : B) → x ≡ f ++ k → Within used f → Blocked q (k ++ y) → (H n).spells k w → Within used x × Blocked q y
  next_spelled n f [] x y w cut within blocked s = (subst (Within used) (sym (cut ∙ append-nil f)) within, blocked)
  next_spelled n f (t ∷ l) x y w cut within blocked s = absurd (a t (blocked t (l ++ y) refl) (o.spells n t l w s))

  pub passed_both : {r : T → Bool} {more rest : List T} → Sub q r → Passed H r mid more rest → Passed (λ n. G n >> H n) r ts (used ++ more) rest
  passed_both {r = r} {more = more} {rest = rest} k h = record {
    cut = g.cut ∙ (ap (λ l. used ++ l) h.cut ∙ sym (append_assoc used more rest));
    only = λ n x y w e s. elim (g.only n s.front (s.back ++ y) w.0 (cut_again ts x y s.front s.back e s.cut) s.first) [
      | inl (fe, ke) ↦ elim (h.only n s.back y w.1 (sym ke) s.second) [
        | inl (be, ye) ↦ inl (s.cut ∙ (ap (λ l. l ++ s.back) fe ∙ ap (λ l. used ++ l) be), ye)
        | inr (within, blocked) ↦ inr (within_both used more s.front s.back x s.cut fe within, blocked)
      ]
      | inr (within, blocked) ↦ let z = next_spelled n s.front s.back x y w.1 s.cut within blocked s.second in inr (append_within used more x z.0, λ t l c. k t (z.1 t l c))
    ];
    ends = λ n x y e b. elim b [
      | in_first c ↦ append_within used more x (g.ends n x y e c)
      | in_second f l v cut s c ↦ next_begun more h.ends n x y f l v e cut s c
    ];
  }

-- the second part is never empty
module _ {T A B : Type 0} {G : Family T A} {H : Family T B} {q p : T → Bool} {ts used mid : List T} (g : Passed G q ts used mid) (h : Heads H p) (a : Apart q p) where
  pub passed_behind : {r : T → Bool} {more rest : List T} → Passed H r mid more rest → Passed (λ n. G n >> H n) r ts (used ++ more) rest
  passed_behind {r = r} {more = more} {rest = rest} z = record {
    cut = g.cut ∙ (ap (λ l. used ++ l) z.cut ∙ sym (append_assoc used more rest));
    only = λ n x y w e s. elim (g.only n s.front (s.back ++ y) w.0 (cut_again ts x y s.front s.back e s.cut) s.first) [
      | inl (fe, ke) ↦ elim (z.only n s.back y w.1 (sym ke) s.second) [
        | inl (be, ye) ↦ inl (s.cut ∙ (ap (λ l. l ++ s.back) fe ∙ ap (λ l. used ++ l) be), ye)
        | inr (within, blocked) ↦ inr (within_both used more s.front s.back x s.cut fe within, blocked)
      ]
      | inr (within, blocked) ↦ absurd (not_next g h a n s.back y w.1 blocked s.second)
    ];
    ends = behind_begun g h a more z.ends;
  }

-- ---- a part that is not there

-- It begins with other tokens than the next, and what is next is of q.
module _ {T A : Type 0} {L : Family T A} {p : T → Bool} (o : Opens L p) (ts : List T) (unseen : sees p ts ≡ false) where
  other_first : (t : T) (x y : List T) → ts ≡ t ∷ (x ++ y) → p t ≡ true → ⊥
  other_first t x y e s = not_both s (sym (sees_head p ts t (x ++ y) e) ∙ unseen)

  idle_spelled : (n : ℕ) (x y : List T) (w : A) → ts ≡ x ++ y → (L n).spells x w → x ≡ []
  idle_spelled n [] y w e s = refl
  idle_spelled n (t ∷ x) y w e s = absurd (other_first t x y e (o.spells n t x w s))

  idle_begun : (n : ℕ) (x y : List T) → ts ≡ x ++ y → (L n).begins x → x ≡ []
  idle_begun n [] y e b = refl
  idle_begun n (t ∷ x) y e b = absurd (other_first t x y e (o.begins n t x b))

  pub short_idle : (q : T → Bool) → Blocked q ts → Short L q ts []
  short_idle q blocked = record {
    only = λ n x y w e s. let none = idle_spelled n x y w e s in (none_front [] x none, subst (Blocked q) (e ∙ ap (λ l. l ++ y) none) blocked);
    ends = λ n x y e b. none_front [] x (idle_begun n x y e b);
  }

pub passed_idle : {T A : Type 0} {L : Family T A} {p : T → Bool} (q : T → Bool) → Opens L p → (ts : List T) → sees p ts ≡ false → Passed L q ts [] ts
passed_idle q o ts unseen = record {
  cut = refl;
  only = λ n x y w e s. let none = idle_spelled o ts unseen n x y w e s in inl (none, sym (e ∙ ap (λ l. l ++ y) none));
  ends = λ n x y e b. none_front [] x (idle_begun o ts unseen n x y e b);
}

-- ---- at other levels

pub heads_at : {T A : Type 0} {L : Family T A} {p : T → Bool} (m : ℕ → ℕ) → Heads L p → Heads (λ n. L (m n)) p
heads_at m h = record { blank = λ n. h.blank (m n); full = λ n w s. h.full (m n) w s; spells = λ n t x w s. h.spells (m n) t x w s; begins = λ n t x b. h.begins (m n) t x b }

pub opens_at : {T A : Type 0} {L : Family T A} {p : T → Bool} (m : ℕ → ℕ) → Opens L p → Opens (λ n. L (m n)) p
opens_at m h = record { spells = λ n t x w s. h.spells (m n) t x w s; begins = λ n t x b. h.begins (m n) t x b }

-- ---- the first token

pub blocked_first : {T : Type 0} (q : T → Bool) (t : T) (ts : List T) → q t ≡ true → Blocked q (t ∷ ts)
blocked_first q t ts e = λ u r c. let same_token : t ≡ u = cc in subst (λ z. q z ≡ true) same_token e
