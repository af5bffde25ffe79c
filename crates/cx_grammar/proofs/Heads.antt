-- The tokens that a language begins with.
use Rattle.std.proofs.Common.{◌≡◌, ℕ, Bool, true, false, ◌||◌, if◌then◌else◌, List, [], ◌∷◌, ◌++◌, Option, Some, None, refl, sym, ◌∙◌, ap, subst, inl, inr}
use Rattle.cx_grammar.specs.Language.{passing, the, one, ◌>>◌, ◌<$>◌, ◌⊳◌, ◌⊲◌, ◌∥◌, nothing, whole, in_first, in_second, none_yet, some, present, maybe, many, such, unless, measured}
use Rattle.cx_grammar.specs.Exact.{Family, GoesOn}
use Rattle.cx_grammar.specs.Reading.{sees}
use Rattle.cx_grammar.specs.Sets.{by, never, or}
use Rattle.cx_grammar.proofs.Lists.{no_front}
use Rattle.cx_grammar.proofs.Parts.{Elsewhere}
use Rattle.cx_grammar.proofs.Turns.{many_spelled, many_begun}

-- ---- sets of tokens

-- no token is of both sets
abbrev pub Apart : {T : Type 0} → (T → Bool) → (T → Bool) → Type 0
Apart {T = T} q p = (t : T) → q t ≡ true → p t ≡ true → ⊥

-- each token of the first is one of the second
abbrev pub Sub : {T : Type 0} → (T → Bool) → (T → Bool) → Type 0
Sub {T = T} q p = (t : T) → q t ≡ true → p t ≡ true

pub not_both : {b : Bool} → b ≡ true → b ≡ false → ⊥
not_both p q = let h : true ≡ false = sym p ∙ q in cc

pub never_apart : {T : Type 0} (p : T → Bool) → Apart never p
never_apart p t h = cc

pub never_sub : {T : Type 0} (p : T → Bool) → Sub never p
never_sub p t h = cc

pub same_sub : {T : Type 0} (p : T → Bool) → Sub p p
same_sub p t h = h

pub or_left : (b c : Bool) → b ≡ true → (b || c) ≡ true
or_left true c e = refl
or_left false c e = cc

pub or_right : (b : Bool) {c : Bool} → c ≡ true → (b || c) ≡ true
or_right true e = refl
or_right false e = e

pub left_sub : {T : Type 0} (p q : T → Bool) → Sub p (or p q)
left_sub p q t h = or_left (p t) (q t) h

pub right_sub : {T : Type 0} (p q : T → Bool) → Sub q (or p q)
right_sub p q t h = or_right (p t) h

pub option_apart : {A : Type 0} {v : A} → None ≡ Some v → ⊥
option_apart e = cc

passed : (b : Bool) (u : Unit {0}) → (if b then Some tt else None) ≡ Some u → b ≡ true
passed true u e = refl
passed false u e = absurd (option_apart e)

pub passes : {T : Type 0} (p : T → Bool) (t : T) (u : Unit {0}) → passing p t ≡ Some u → p t ≡ true
passes p t u e = passed (p t) u e

pub blank_seen : {T : Type 0} (p : T → Bool) → sees p [] ≡ true → ⊥
blank_seen p e = cc

pub goes_first : {T A : Type 0} {p q : T → Bool} → Sub p q → (v : A) (ts : List T) → sees p ts ≡ true → GoesOn (by q) v ts
goes_first {p = p} k v [] seen = blank_seen p seen
goes_first k v (t ∷ ts) seen = k t seen

pub goes_sub : {T A : Type 0} {q p : T → Bool} → Sub q p → (v : A) (y : List T) → GoesOn (by q) v y → GoesOn (by p) v y
goes_sub k v [] h = h
goes_sub k v (t ∷ y) h = k t h

-- ---- heads

-- Each nonempty front or spelling begins with a token of p; the empty list is a front and no spelling.
pub record Heads {T A : Type 0} (L : Family T A) (p : T → Bool) : Type 0 where
  pub blank : (n : ℕ) → (L n).begins []
  pub full : (n : ℕ) (w : A) → (L n).spells [] w → ⊥
  pub spells : (n : ℕ) (t : T) (x : List T) (w : A) → (L n).spells (t ∷ x) w → p t ≡ true
  pub begins : (n : ℕ) (t : T) (x : List T) → (L n).begins (t ∷ x) → p t ≡ true

-- the same of a language that may spell nothing
pub record Opens {T A : Type 0} (L : Family T A) (p : T → Bool) : Type 0 where
  pub spells : (n : ℕ) (t : T) (x : List T) (w : A) → (L n).spells (t ∷ x) w → p t ≡ true
  pub begins : (n : ℕ) (t : T) (x : List T) → (L n).begins (t ∷ x) → p t ≡ true

pub opens : {T A : Type 0} {L : Family T A} {p : T → Bool} → Heads L p → Opens L p
opens h = record { spells = h.spells; begins = h.begins }

head_of_one : {T : Type 0} (s t : T) (x : List T) → t ∷ x ≡ s ∷ [] → s ≡ t
head_of_one s t x e = cc

pub heads_one : {T A : Type 0} (f : T → Option A) (p : T → Bool) → ((t : T) (v : A) → f t ≡ Some v → p t ≡ true) → Heads (λ n. one f) p
heads_one f p k = record {
  blank = λ n. nothing refl;
  full = λ n w s. let alone = s.alone in cc;
  spells = λ n t x w s. k t w (ap f (sym (head_of_one s.token t x s.alone)) ∙ s.fits);
  begins = λ n t x b. elim b [ nothing none ↦ cc | whole v s ↦ k t v (ap f (sym (head_of_one s.token t x s.alone)) ∙ s.fits) ];
}

pub heads_the : {T : Type 0} (p : T → Bool) → Heads (λ n. the p) p
heads_the p = heads_one (passing p) p (λ t u e. passes p t u e)

front_head : {T A : Type 0} {G : Family T A} {p : T → Bool} → Heads G p → (n : ℕ) (t : T) (x f b : List T) (v : A) → t ∷ x ≡ f ++ b → (G n).spells f v → p t ≡ true
front_head h n t x [] b v e s = absurd (h.full n v s)
front_head {G = G} {p = p} h n t x (u ∷ f) b v e s = let heads : u ≡ t = cc in subst (λ z. p z ≡ true) heads (h.spells n u f v s)

module _ {T A B : Type 0} {G : Family T A} (H : Family T B) {p : T → Bool} (h : Heads G p) where
  pub heads_both : Heads (λ n. G n >> H n) p
  heads_both = record {
    blank = λ n. in_first (h.blank n);
    full = λ n w s. h.full n w.0 (let P : List T → Type 0 = λ l. (G n).spells l w.0 in subst P (no_front s.front s.back (sym s.cut)) s.first);
    spells = λ n t x w s. front_head h n t x s.front s.back w.0 s.cut s.first;
    begins = λ n t x b. elim b [ in_first b1 ↦ h.begins n t x b1 | in_second f k w cut s bk ↦ front_head h n t x f k w cut s ];
  }

pub heads_as : {T A B : Type 0} {G : Family T A} {p : T → Bool} (f : A → B) → Heads G p → Heads (λ n. f <$> G n) p
heads_as f h = record { blank = h.blank; full = λ n w s. h.full n s.value s.part; spells = λ n t x w s. h.spells n t x s.value s.part; begins = h.begins }

pub heads_before : {T A : Type 0} {G : Family T A} (p : T → Bool) → Heads (λ n. p ⊳ G n) p
heads_before {G = G} p = heads_as (λ pair. pair.1) (heads_both G (heads_the p))

pub heads_behind : {T A : Type 0} {G : Family T A} {p : T → Bool} (q : T → Bool) → Heads G p → Heads (λ n. G n ⊲ q) p
heads_behind q h = heads_as (λ pair. pair.0) (heads_both (λ n. the q) h)

pub heads_present : {T A : Type 0} {G : Family T A} {p : T → Bool} → Heads G p → Heads (λ n. present (G n)) p
heads_present h = record { blank = λ n. none_yet refl; full = h.full; spells = h.spells; begins = λ n t x b. elim b [ none_yet none ↦ cc | some st b2 ↦ h.begins n t x b2 ] }

pub heads_sub : {T A : Type 0} {G : Family T A} {p q : T → Bool} → Sub p q → Heads G p → Heads G q
heads_sub k h = record { blank = h.blank; full = h.full; spells = λ n t x w s. k t (h.spells n t x w s); begins = λ n t x b. k t (h.begins n t x b) }

pub heads_two : {T A : Type 0} {G H : Family T A} {p q : T → Bool} → Heads G p → Sub p q → Heads H q → Heads (λ n. G n ∥ H n) q
heads_two g k h = let f = heads_present (heads_sub k g) in let s = heads_present h in record {
  blank = λ n. inl (none_yet refl);
  full = λ n w u. elim u [ inl a ↦ g.full n w a | inr b ↦ h.full n w b ];
  spells = λ n t x w u. elim u [ inl a ↦ f.spells n t x w a | inr b ↦ s.spells n t x w b ];
  begins = λ n t x u. elim u [ inl a ↦ f.begins n t x a | inr b ↦ s.begins n t x b ];
}

-- one alternative begins with p, the other with q
pub heads_or : {T A : Type 0} {G H : Family T A} {p q : T → Bool} → Heads G p → Heads H q → Heads (λ n. G n ∥ H n) (or p q)
heads_or {p = p} {q = q} g h = heads_two g (left_sub p q) (heads_sub (right_sub p q) h)

pub heads_such : {T A : Type 0} {G : Family T A} {p : T → Bool} (f : A → Bool) → Heads G p → Heads (λ n. such f (G n)) p
heads_such f h = record { blank = h.blank; full = λ n w s. h.full n w s.part; spells = λ n t x w s. h.spells n t x w s.part; begins = h.begins }

pub heads_unless : {T A : Type 0} {G : Family T A} {p : T → Bool} (test : List T → Bool) → test [] ≡ false → Heads G p → Heads (λ n. unless test (G n)) p
heads_unless test none h = record { blank = λ n. record { part = h.blank n; clear = none }; full = λ n w s. h.full n w s.part; spells = λ n t x w s. h.spells n t x w s.part; begins = λ n t x b. h.begins n t x b.part }

pub heads_measured : {T A M : Type 0} {G : Family T A} {p : T → Bool} (f : List T → M) → Heads G p → Heads (λ n. measured f (G n)) p
heads_measured f h = record { blank = h.blank; full = λ n w s. h.full n w.0 s.part; spells = λ n t x w s. h.spells n t x w.0 s.part; begins = h.begins }

pub opens_maybe : {T A : Type 0} {G : Family T A} {p : T → Bool} → Heads G p → Opens (λ n. maybe (G n)) p
opens_maybe h = record {
  spells = λ n t x w s. elim s [ inr a ↦ h.spells n t x a.value a.part | inl b ↦ let none = b.part in cc ];
  begins = λ n t x s. elim s [ inr a ↦ (heads_present h).begins n t x a | inl b ↦ cc ];
}

pub opens_many : {T A : Type 0} {G : Family T A} {p : T → Bool} → Heads G p → Opens (λ n. many (G n)) p
opens_many {G = G} {p = p} h = record {
  spells = λ n t x w s. many_spelled G h.full n t x w (λ u. p u ≡ true) (λ u y v z. h.spells n u y v z) s;
  begins = λ n t x b. many_begun G h.full n t x b.front b.back b.turns (λ u. p u ≡ true) (λ u y v z. h.spells n u y v z) (λ u y c. (heads_present h).begins n u y c) b.cut b.whole b.next;
}

both_head : {T A : Type 0} {G : Family T A} {p : T → Bool} → Opens G p → (n : ℕ) (t : T) (x f k : List T) (v : A) → t ∷ x ≡ f ++ k → (G n).spells f v → (k ≡ t ∷ x → p t ≡ true) → p t ≡ true
both_head g n t x [] k v e s other = other (sym e)
both_head {p = p} g n t x (u ∷ f) k v e s other = let heads : u ≡ t = cc in subst (λ z. p z ≡ true) heads (g.spells n u f v s)

pub opens_both : {T A B : Type 0} {G : Family T A} {H : Family T B} {p : T → Bool} → Opens G p → Opens H p → Opens (λ n. G n >> H n) p
opens_both {T = T} {G = G} {H = H} g h = record {
  spells = λ n t x w s. both_head g n t x s.front s.back w.0 s.cut s.first (λ e. h.spells n t x w.1 (let P : List T → Type 0 = λ l. (H n).spells l w.1 in subst P e s.second));
  begins = λ n t x b. elim b [
    | in_first b1 ↦ g.begins n t x b1
    | in_second f k v cut s b2 ↦ both_head g n t x f k v cut s (λ e. h.begins n t x (let P : List T → Type 0 = λ l. (H n).begins l in subst P e b2))
  ];
}

pub opens_as : {T A B : Type 0} {G : Family T A} {p : T → Bool} (f : A → B) → Opens G p → Opens (λ n. f <$> G n) p
opens_as f h = record { spells = λ n t x w s. h.spells n t x s.value s.part; begins = h.begins }

pub opens_sub : {T A : Type 0} {G : Family T A} {p q : T → Bool} → Sub p q → Opens G p → Opens G q
opens_sub k h = record { spells = λ n t x w s. k t (h.spells n t x w s); begins = λ n t x b. k t (h.begins n t x b) }

-- ---- where the next token is none of them

sees_head : {T : Type 0} (p : T → Bool) (ts : List T) (t : T) (x : List T) → ts ≡ t ∷ x → sees p ts ≡ p t
sees_head p ts t x e = ap (sees p) e

pub heads_elsewhere : {T A : Type 0} {L : Family T A} {p : T → Bool} → Heads L p → (ts : List T) → sees p ts ≡ false → Elsewhere L ts
heads_elsewhere {p = p} h ts not_seen = record {
  empty = h.full;
  spells = λ n t x y w e s. not_both (h.spells n t x w s) (sym (sees_head p ts t (x ++ y) e) ∙ not_seen);
  begins = λ n t x y e b. not_both (h.begins n t x b) (sym (sees_head p ts t (x ++ y) e) ∙ not_seen);
}
