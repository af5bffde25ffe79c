-- Alternatives, at tokens that are known to begin one of them.
use Rattle.std.proofs.Common.{◌≡◌, ℕ, Bool, true, false, List, [], ◌∷◌, ◌++◌, refl, ◌∙◌, ap, inl, inr}
use Rattle.cx_grammar.specs.Language.{◌∥◌, BeginsPresent, none_yet, some, present}
use Rattle.cx_grammar.specs.Exact.{Family, GoesOn, same, shorter, Outcome, done, stop, Exact}
use Rattle.cx_grammar.specs.Reading.{Reader, refuse, sees, by_class}
use Rattle.cx_grammar.proofs.Parts.{exact_left, exact_right, exact_same, Same, elsewhere, shared_left, shared_right}
use Rattle.cx_grammar.specs.Sets.{by}
use Rattle.cx_grammar.proofs.Heads.{Sub, Heads, heads_present, heads_elsewhere, goes_sub, blank_seen, or_left, or_right}
use Rattle.cx_grammar.proofs.Steps.{Exactly, ExactlyAt, exact_refuse}

-- the outcome at these tokens is exact
pub record Right {T A : Type 0} (L : Family T A) (go : A → T → Bool) (least : ℕ) (ts : List T) (o : Outcome T A) : Type 0 where
  pub exact : Exact L go least ts o

pub right_of : {T A : Type 0} {L : Family T A} {go : A → T → Bool} {least : ℕ} {read : Reader T A} → Exactly L go least read → (ts : List T) → Right L go least ts (read ts)
right_of g ts = record { exact = g.at ts }

-- ---- the other alternative begins with other tokens

pub first_of_two : {T A : Type 0} {G H : Family T A} {go : A → T → Bool} {p : T → Bool} {least : ℕ} {ts : List T} {o : Outcome T A} → Right (λ n. present (G n)) go least ts o → Heads H p → sees p ts ≡ false → Right (λ n. G n ∥ H n) go least ts o
first_of_two {G = G} {H = H} {go = go} {least = least} {ts = ts} {o = o} g h unseen = record { exact = exact_left (λ n. present (G n)) (λ n. present (H n)) go least ts o (elsewhere (λ n. present (H n)) go ts (heads_elsewhere (heads_present h) ts unseen)) g.exact }

pub second_of_two : {T A : Type 0} {G H : Family T A} {go : A → T → Bool} {p : T → Bool} {least : ℕ} {ts : List T} {o : Outcome T A} → Heads G p → sees p ts ≡ false → Right (λ n. present (H n)) go least ts o → Right (λ n. G n ∥ H n) go least ts o
second_of_two {G = G} {H = H} {go = go} {least = least} {ts = ts} {o = o} h unseen g = record { exact = exact_right (λ n. present (G n)) (λ n. present (H n)) go least ts o (elsewhere (λ n. present (G n)) go ts (heads_elsewhere (heads_present h) ts unseen)) g.exact }

-- ---- alternatives that begin alike: here each front of the other is a front of the one that was read, and the other spells none

pub first_shared : {T A : Type 0} {G H : Family T A} {go : A → T → Bool} {least : ℕ} {ts : List T} {o : Outcome T A} → Right (λ n. present (G n)) go least ts o
    → ((n : ℕ) (x y : List T) → ts ≡ x ++ y → BeginsPresent (H n) x → BeginsPresent (G n) x) → ((n : ℕ) (x y : List T) (w : A) → ts ≡ x ++ y → (H n).spells x w → ⊥) → Right (λ n. G n ∥ H n) go least ts o
first_shared {G = G} {H = H} {go = go} {least = least} {ts = ts} {o = o} g k u = record { exact = shared_left (λ n. present (G n)) (λ n. present (H n)) go least ts o k u g.exact }

pub second_shared : {T A : Type 0} {G H : Family T A} {go : A → T → Bool} {least : ℕ} {ts : List T} {o : Outcome T A} → Right (λ n. present (H n)) go least ts o
    → ((n : ℕ) (x y : List T) → ts ≡ x ++ y → BeginsPresent (G n) x → BeginsPresent (H n) x) → ((n : ℕ) (x y : List T) (w : A) → ts ≡ x ++ y → (G n).spells x w → ⊥) → Right (λ n. G n ∥ H n) go least ts o
second_shared {G = G} {H = H} {go = go} {least = least} {ts = ts} {o = o} g k u = record { exact = shared_right (λ n. present (G n)) (λ n. present (H n)) go least ts o k u g.exact }

-- ---- none of them

pub right_refuse : {T A : Type 0} {L : Family T A} {go : A → T → Bool} {p : T → Bool} {least : ℕ} → Heads L p → (ts : List T) → sees p ts ≡ false → Right L go least ts (refuse ts)
right_refuse {go = go} {least = least} h ts unseen = record { exact = exact_refuse go least h ts unseen }

-- ---- more tokens may go on

exact_go : {T A : Type 0} (L : Family T A) (go go2 : A → T → Bool) → ((v : A) (y : List T) → GoesOn go v y → GoesOn go2 v y) → (least : ℕ) (ts : List T) (o : Outcome T A) → Exact L go least ts o → Exact L go2 least ts o
exact_go L go go2 k least ts (done v rest) g = record {
  used = g.used;
  spells = g.spells;
  core = record {
    cut = g.core.cut;
    begins = g.core.begins;
    ends = g.core.ends;
    only = λ n i x y w e s. elim (g.core.only n i x y w e s) [ same a b c ↦ same a b c | shorter a b ↦ shorter a (k w y b) ];
  };
}
exact_go L go go2 k least ts (stop rule left) g = record {
  used = g.used;
  rest = g.rest;
  size = g.size;
  is = g.is;
  deep = g.deep;
  core = record {
    cut = g.core.cut;
    begins = g.core.begins;
    ends = g.core.ends;
    only = λ n i x y w e s. elim (g.core.only n i x y w e s) [ same a b c ↦ absurd c | shorter a b ↦ shorter a (k w y b) ];
  };
}

pub exactly_sub : {T A : Type 0} {L : Family T A} {q p : T → Bool} {least : ℕ} {read : Reader T A} → Sub q p → Exactly L (by q) least read → Exactly L (by p) least read
exactly_sub {L = L} {q = q} {p = p} {least = least} {read = read} k g = record { at = λ ts. exact_go L (by q) (by p) (λ v y b. goes_sub k v y b) least ts (read ts) (g.at ts) }

pub right_widened : {T A : Type 0} {L : Family T A} {q p : T → Bool} {least : ℕ} {ts : List T} {o : Outcome T A} → Sub q p → Right L (by q) least ts o → Right L (by p) least ts o
right_widened {L = L} {q = q} {p = p} {least = least} {ts = ts} {o = o} k g = record { exact = exact_go L (by q) (by p) (λ v y b. goes_sub k v y b) least ts o g.exact }

-- ---- readers that choose

module _ {T C A : Type 0} {L : Family T A} {go : A → T → Bool} {p : T → Bool} {least : ℕ} (class : T → C) (f : C → Reader T A) (h : Heads L p) (k : (c : C) (t : T) (ts : List T) → class t ≡ c → Right L go least (t ∷ ts) (f c (t ∷ ts))) where
  by_at : (ts : List T) → Exact L go least ts (by_class class f ts)
  by_at [] = exact_refuse go least h [] refl
  by_at (t ∷ ts) = (k (class t) t ts refl).exact

  -- the reader that goes by the class of the next token
  pub exactly_by : Exactly L go least (by_class class f)
  exactly_by = record { at = by_at }

-- whether the next token is of the set, where its class is known
pub at_class : {T C : Type 0} (class : T → C) (p : C → Bool) (t : T) (c : C) (b : Bool) → class t ≡ c → p c ≡ b → p (class t) ≡ b
at_class class p t c b e h = ap p e ∙ h

module _ {T A : Type 0} {L : Family T A} (p : T → Bool) {go : A → T → Bool} {least : ℕ} (read : Reader T A) (k : (t : T) (ts : List T) → p t ≡ true → Right L go least (t ∷ ts) (read (t ∷ ts))) where
  on_at : (ts : List T) → sees p ts ≡ true → Exact L go least ts (read ts)
  on_at [] seen = absurd (blank_seen p seen)
  on_at (t ∷ ts) seen = (k t ts seen).exact

  pub exactly_on : ExactlyAt p L go least read
  exactly_on = record { at = on_at }

-- ---- alternatives are present as a whole where one of them is

module _ {T A : Type 0} (G H : Family T A) where
  two_present : (n : ℕ) (x : List T) → (G n ∥ H n).begins x → BeginsPresent (G n ∥ H n) x
  two_present n x (inl (none_yet e)) = none_yet e
  two_present n x (inl (some st b)) = some (or_left (G n).stays (H n).stays st) (inl (some st b))
  two_present n x (inr (none_yet e)) = none_yet e
  two_present n x (inr (some st b)) = some (or_right (G n).stays st) (inr (some st b))

  two_begun : (n : ℕ) (x : List T) → BeginsPresent (G n ∥ H n) x → (G n ∥ H n).begins x
  two_begun n x (none_yet e) = inl (none_yet e)
  two_begun n x (some st b) = b

  pub two_same : Same (λ n. G n ∥ H n) (λ n. present (G n ∥ H n))
  two_same = record { spells = λ n x w s. s; spelled = λ n x w s. s; begins = two_present; begun = two_begun }

pub exactly_two : {T A : Type 0} {G H : Family T A} {p : T → Bool} {go : A → T → Bool} {left : ℕ} {read : Reader T A} → Exactly (λ n. G n ∥ H n) go left read → ExactlyAt p (λ n. present (G n ∥ H n)) go left read
exactly_two {G = G} {H = H} {go = go} {left = left} {read = read} g = record { at = λ ts seen. exact_same (λ n. G n ∥ H n) (λ n. present (G n ∥ H n)) go (two_same G H) left ts (read ts) (g.at ts) }

-- an alternative of a further choice: with `first_of_two` and `second_of_two` it makes choices among three and more
pub right_two : {T A : Type 0} {G H : Family T A} {go : A → T → Bool} {left : ℕ} {ts : List T} {o : Outcome T A} → Right (λ n. G n ∥ H n) go left ts o → Right (λ n. present (G n ∥ H n)) go left ts o
right_two {G = G} {H = H} {go = go} {left = left} {ts = ts} {o = o} g = record { exact = exact_same (λ n. G n ∥ H n) (λ n. present (G n ∥ H n)) go (two_same G H) left ts o g.exact }
