-- Alternatives that begin alike: the one that was read goes on at least as far as the other.
use Rattle.std.proofs.Common.{◌≡◌, ℕ, ◌≤◌, Bool, true, List, [], ◌∷◌, ◌++◌, length, refl, sym, ◌∙◌, ap, inl, inr, arith, length-append}
use Rattle.cx_base.specs.declared.rule.Rule.TheVariants.{Syntax, Nesting}
use Rattle.cx_grammar.specs.Language.{present, either, ◌∥◌, BeginsPresent, none_yet, some}
use Rattle.cx_grammar.specs.Exact.{Family, GoesOn, Within, same, shorter, Reaches, Outcome, done, stop, Exact}
use Rattle.cx_grammar.proofs.Parts.{Covered, core_left, core_right, deep_left, deep_right, not_nesting}
use Rattle.cx_grammar.proofs.Unless.{front_by, within_trans}
use Rattle.cx_grammar.proofs.Choices.{Right}

-- how many tokens are left behind what was read
abbrev pub reach : {T A : Type 0} → Outcome T A → ℕ
reach (done v rest) = length rest
reach (stop rule left) = left

-- At these tokens a language has no front but those of `used`, and a token of go behind each that it spells.
pub record Covers {T A : Type 0} (H : Family T A) (go : A → T → Bool) (ts used : List T) : Type 0 where
  pub only : (n : ℕ) (x y : List T) (w : A) → ts ≡ x ++ y → (H n).spells x w → Within used x × GoesOn go w y
  pub ends : (n : ℕ) (x y : List T) → ts ≡ x ++ y → (H n).begins x → Within used x

pub covers_more : {T A : Type 0} {H : Family T A} {go : A → T → Bool} {ts used more : List T} → Within more used → Covers H go ts used → Covers H go ts more
covers_more {used = used} {more = more} w c = record {
  only = λ n x y v e s. let p = c.only n x y v e s in (within_trans more used x w p.0, p.1);
  ends = λ n x y e b. within_trans more used x w (c.ends n x y e b);
}

pub goes_on : {T A : Type 0} (go go2 : A → T → Bool) → ((v : A) (t : T) → go v t ≡ true → go2 v t ≡ true) → (v : A) (y : List T) → GoesOn go v y → GoesOn go2 v y
goes_on go go2 k v [] h = h
goes_on go go2 k v (t ∷ y) h = k v t h

pub covers_go : {T A : Type 0} {H : Family T A} (go go2 : A → T → Bool) {ts used : List T} → ((v : A) (t : T) → go v t ≡ true → go2 v t ≡ true) → Covers H go ts used → Covers H go2 ts used
covers_go go go2 k c = record { only = λ n x y v e s. let p = c.only n x y v e s in (p.0, goes_on go go2 k v y p.1); ends = c.ends }

pub covers_present : {T A : Type 0} {H : Family T A} {go : A → T → Bool} {ts used : List T} → Covers H go ts used → Covers (λ n. present (H n)) go ts used
covers_present {used = used} c = record { only = c.only; ends = λ n x y e b. elim b [ none_yet none ↦ (used, sym (ap (λ l. l ++ used) none)) | some st k ↦ c.ends n x y e k ] }

-- what an exact reader's fault of syntax says
module _ {T A : Type 0} (H : Family T A) (go : A → T → Bool) (least : ℕ) (ts : List T) where
  pub stop_covers : (left : ℕ) → (e : Exact H go least ts (stop Syntax left)) → Covers H go ts e.used
  stop_covers left e = record {
    only = λ n x y w c s. elim (e.core.only n (λ i. absurd (not_nesting i)) x y w c s) [ same a b d ↦ absurd d | shorter a b ↦ (a, b) ];
    ends = λ n x y c b. e.core.ends n (λ i. absurd (not_nesting i)) x y c b;
  }

  -- the front of the tokens up to where the reader came
  abbrev pub used_in : (o : Outcome T A) → Exact H go least ts o → List T
  used_in (done v rest) e = e.used
  used_in (stop rule left) e = e.used

  abbrev pub rest_in : (o : Outcome T A) → Exact H go least ts o → List T
  rest_in (done v rest) e = rest
  rest_in (stop rule left) e = e.rest

  pub cut_in : (o : Outcome T A) (e : Exact H go least ts o) → ts ≡ used_in o e ++ rest_in o e
  cut_in (done v rest) e = e.core.cut
  cut_in (stop rule left) e = e.core.cut

  pub size_in : (o : Outcome T A) (e : Exact H go least ts o) → length (rest_in o e) ≡ reach o
  size_in (done v rest) e = refl
  size_in (stop rule left) e = e.size

  pub reach_within : (o : Outcome T A) → Exact H go least ts o → reach o ≤ length ts
  reach_within o e = let l : length ts ≡ length (used_in o e ++ rest_in o e) = ap length (cut_in o e) in let k = length-append (used_in o e) (rest_in o e) in let s = size_in o e in omega arith

  -- it holds each front of the tokens behind which as many are left
  pub used_holds : (o : Outcome T A) (e : Exact H go least ts o) (x y : List T) → ts ≡ x ++ y → reach o ≤ length y → Within (used_in o e) x
  used_holds o e x y c p = front_by x y (used_in o e) (rest_in o e) (sym c ∙ cut_in o e) (let s = size_in o e in omega arith)

  pub begins_in : (o : Outcome T A) (e : Exact H go least ts o) (n : ℕ) → least ≤ n → (x y : List T) → used_in o e ≡ x ++ y → (H n).begins x
  begins_in (done v rest) e n p x y c = e.core.begins n p x y c
  begins_in (stop rule left) e n p x y c = e.core.begins n p x y c

  pub ends_in : (o : Outcome T A) (e : Exact H go least ts o) → (x y : List T) → ts ≡ x ++ y → (H least).begins x → Within (used_in o e) x
  ends_in (done v rest) e x y c b = e.core.ends least tt x y c b
  ends_in (stop rule left) e x y c b = e.core.ends least (λ i. refl) x y c b

-- ---- the one that was read and the other

module _ {T A : Type 0} (G H : Family T A) (go : A → T → Bool) (least : ℕ) (ts : List T) where
  pub covered : (R : ℕ → Type 0) (used : List T) → Covers H go ts used → Covered H go R ts used
  covered R used c = record { only = λ n i x y w e s. c.only n x y w e s; ends = λ n i x y e b. c.ends n x y e b }

  pub covered_first : (R : ℕ → Type 0) (used : List T) → Covers G go ts used → Covered G go R ts used
  covered_first R used c = record { only = λ n i x y w e s. c.only n x y w e s; ends = λ n i x y e b. c.ends n x y e b }

  pub left_beside : (o : Outcome T A) (e : Exact G go least ts o) → Covers H go ts (used_in G go least ts o e) → Exact (λ n. either (G n) (H n)) go least ts o
  left_beside (done v rest) e c = record { used = e.used; spells = λ n p. inl (e.spells n p); core = core_left G H go least (λ n. Unit {0}) (λ w. w ≡ v) ts e.used rest (covered (λ n. Unit {0}) e.used c) e.core }
  left_beside (stop rule left) e c = record {
    used = e.used;
    rest = e.rest;
    size = e.size;
    is = e.is;
    deep = deep_left G H go rule e.used e.rest e.deep;
    core = core_left G H go least (Reaches rule least) (λ w. ⊥) ts e.used e.rest (covered (Reaches rule least) e.used c) e.core;
  }

  pub right_beside : (o : Outcome T A) (e : Exact H go least ts o) → Covers G go ts (used_in H go least ts o e) → Exact (λ n. either (G n) (H n)) go least ts o
  right_beside (done v rest) e c = record { used = e.used; spells = λ n p. inr (e.spells n p); core = core_right G H go least (λ n. Unit {0}) (λ w. w ≡ v) ts e.used rest (covered_first (λ n. Unit {0}) e.used c) e.core }
  right_beside (stop rule left) e c = record {
    used = e.used;
    rest = e.rest;
    size = e.size;
    is = e.is;
    deep = deep_right G H go rule e.used e.rest e.deep;
    core = core_right G H go least (Reaches rule least) (λ w. ⊥) ts e.used e.rest (covered_first (Reaches rule least) e.used c) e.core;
  }

-- The first alternative was read at least to where the other stays behind.
pub first_beside : {T A : Type 0} {G H : Family T A} {go : A → T → Bool} {least : ℕ} {ts : List T} {o : Outcome T A} → Right (λ n. present (G n)) go least ts o
    → (used rest : List T) → ts ≡ used ++ rest → Covers (λ n. present (H n)) go ts used → reach o ≤ length rest → Right (λ n. G n ∥ H n) go least ts o
first_beside {G = G} {H = H} {go = go} {least = least} {ts = ts} {o = o} g used rest cut c p = record {
  exact = left_beside (λ n. present (G n)) (λ n. present (H n)) go least ts o g.exact (covers_more (used_holds (λ n. present (G n)) go least ts o g.exact used rest cut p) c);
}

pub second_beside : {T A : Type 0} {G H : Family T A} {go : A → T → Bool} {least : ℕ} {ts : List T} {o : Outcome T A} → Right (λ n. present (H n)) go least ts o
    → (used rest : List T) → ts ≡ used ++ rest → Covers (λ n. present (G n)) go ts used → reach o ≤ length rest → Right (λ n. G n ∥ H n) go least ts o
second_beside {G = G} {H = H} {go = go} {least = least} {ts = ts} {o = o} g used rest cut c p = record {
  exact = right_beside (λ n. present (G n)) (λ n. present (H n)) go least ts o g.exact (covers_more (used_holds (λ n. present (H n)) go least ts o g.exact used rest cut p) c);
}

-- the same where the one that was read begins all that the other may begin
pub first_begun : {T A : Type 0} {G H : Family T A} {go : A → T → Bool} {least : ℕ} {ts : List T} {o : Outcome T A} → Right (λ n. present (G n)) go least ts o
    → (used rest : List T) → ts ≡ used ++ rest → Covers (λ n. present (H n)) go ts used → BeginsPresent (G least) used → Right (λ n. G n ∥ H n) go least ts o
first_begun {G = G} {H = H} {go = go} {least = least} {ts = ts} {o = o} g used rest cut c b = record {
  exact = left_beside (λ n. present (G n)) (λ n. present (H n)) go least ts o g.exact (covers_more (ends_in (λ n. present (G n)) go least ts o g.exact used rest cut b) c);
}

pub second_begun : {T A : Type 0} {G H : Family T A} {go : A → T → Bool} {least : ℕ} {ts : List T} {o : Outcome T A} → Right (λ n. present (H n)) go least ts o
    → (used rest : List T) → ts ≡ used ++ rest → Covers (λ n. present (G n)) go ts used → BeginsPresent (H least) used → Right (λ n. G n ∥ H n) go least ts o
second_begun {G = G} {H = H} {go = go} {least = least} {ts = ts} {o = o} g used rest cut c b = record {
  exact = right_beside (λ n. present (G n)) (λ n. present (H n)) go least ts o g.exact (covers_more (ends_in (λ n. present (H n)) go least ts o g.exact used rest cut b) c);
}

-- ---- both are absent at the last level

module _ {T A : Type 0} (G H : Family T A) (go : A → T → Bool) (least : ℕ) (ts : List T) (left : ℕ) (g : Exact G go least ts (stop Nesting left)) (h : Exact H go least ts (stop Nesting left)) where
  pub same_front : Within g.used h.used
  same_front = front_by h.used h.rest g.used g.rest (sym h.core.cut ∙ g.core.cut) (let a = g.size in let b = h.size in omega arith)

  pub nesting_covered : Covered H go (Reaches Nesting least) ts g.used
  nesting_covered = record {
    only = λ n i x y w e s. elim (h.core.only n i x y w e s) [ same a b d ↦ absurd d | shorter within goes ↦ (within_trans g.used h.used x same_front within, goes) ];
    ends = λ n i x y e b. within_trans g.used h.used x same_front (h.core.ends n i x y e b);
  }

  pub nesting_beside : Exact (λ n. either (G n) (H n)) go least ts (stop Nesting left)
  nesting_beside = record {
    used = g.used;
    rest = g.rest;
    size = g.size;
    is = g.is;
    deep = deep_left G H go Nesting g.used g.rest g.deep;
    core = core_left G H go least (Reaches Nesting least) (λ w. ⊥) ts g.used g.rest nesting_covered g.core;
  }
