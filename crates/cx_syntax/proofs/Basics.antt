-- Tokens and sets of the grammar, and choices by a set of classes.
use Rattle.std.proofs.Common.{◌≡◌, ℕ, zero, suc, Bool, true, false, not, ◌&&◌, ◌||◌, if◌then◌else◌, List, [], ◌∷◌, ◌++◌, Some, None, refl, sym, ◌∙◌, ap, subst, inl, inr}
use Rattle.cx_grammar.specs.Language.{one, present, whole, in_first, in_second, upto, ◌>>◌, ◌∥◌}
use Rattle.cx_grammar.specs.Exact.{Family}
use Rattle.cx_grammar.specs.Reading.{Reader, sees}
use Rattle.cx_grammar.specs.Sets.{of, by}
use Rattle.cx_grammar.proofs.Heads.{Apart, Sub, Heads, heads_one, Opens, heads_present, opens, opens_both}
use Rattle.cx_grammar.proofs.Steps.{Exactly, ExactlyAt}
use Rattle.cx_grammar.proofs.Choices.{Right, right_of, first_of_two, second_of_two, right_two, right_widened}
use Rattle.cx_grammar.proofs.Levels.{there_present}
use Rattle.cx_grammar.proofs.Classes.{variants, apart_by, sub_by}
use Rattle.cx_syntax.specs.declared.class.Class.{Class}
use Rattle.cx_syntax.specs.declared.lexeme.Lexeme.{Lexeme}
use Rattle.cx_syntax.specs.contracts.class.Class.{enum}
use Rattle.cx_syntax.specs.Classes.{class_at}
use Rattle.cx_syntax.specs.Values.{pick}
use Rattle.cx_syntax.specs.Readers.{choose}

-- ---- sets

-- the tokens of a set of classes
abbrev pub at : (Class → Bool) → Lexeme → Bool
at set = of class_at set

pub apart : (q p : Class → Bool) → (variants enum).each (λ c. not (q c && p c)) ≡ true → Apart (at q) (at p)
apart q p e = apart_by (variants enum) class_at q p e

pub sub : (q p : Class → Bool) → (variants enum).each (λ c. not (q c) || p c) ≡ true → Sub (at q) (at p)
sub q p e = sub_by (variants enum) class_at q p e

pub both_true : (b c : Bool) → b ≡ true → c ≡ true → (b && c) ≡ true
both_true b c e f = ap (λ v. v && c) e ∙ f

-- ---- one token

pub chosen_true : {A : Type 0} (b : Bool) (x v : A) → (if b then Some x else None) ≡ Some v → b ≡ true
chosen_true true x v e = refl
chosen_true false x v e = cc

pub pick_fits : {A : Type 0} (set : Class → Bool) (f : Lexeme → A) (t : Lexeme) (v : A) → pick set f t ≡ Some v → at set t ≡ true
pick_fits set f t v e = chosen_true (set t.class) (f t) v e

pub pick_named : {A : Type 0} (set : Class → Bool) (f : Lexeme → A) (t : Lexeme) → at set t ≡ true → (v : A) × (pick set f t ≡ Some v)
pick_named set f t e = (f t, ap (λ b. if b then Some (f t) else None) e)

pub heads_pick : {A : Type 0} (set : Class → Bool) (f : Lexeme → A) → Heads (λ n. one (pick set f)) (at set)
heads_pick set f = heads_one (pick set f) (at set) (λ t v e. pick_fits set f t v e)

pub begun_pick : {A : Type 0} (set : Class → Bool) (f : Lexeme → A) (t : Lexeme) → at set t ≡ true → (one (pick set f)).begins (t ∷ [])
begun_pick set f t e = let p = pick_named set f t e in whole p.0 (record { token = t; alone = refl; fits = p.1 })

-- ---- a part that may be empty before one that is not

pub no_back : {T : Type 0} (x y : List T) → [] ≡ x ++ y → [] ≡ y
no_back [] y e = e
no_back (t ∷ x) y e = cc

pub heads_after : {T A B : Type 0} {G : Family T A} {H : Family T B} {p : T → Bool} → Opens G p → ((n : ℕ) → (G n).begins []) → Heads H p → Heads (λ n. G n >> H n) p
heads_after {T = T} {H = H} g blank h = let both = opens_both g (opens h) in record {
  blank = λ n. in_first (blank n);
  full = λ n w s. h.full n w.1 (let P : List T → Type 0 = λ l. (H n).spells l w.1 in subst P (sym (no_back s.front s.back s.cut)) s.second);
  spells = both.spells;
  begins = both.begins;
}

-- ---- so many parts at most

module _ {T A : Type 0} {G : Family T A} {p : T → Bool} (h : Heads G p) where
  pub turn_head : (n : ℕ) (t : T) (x f b : List T) (v : A) → t ∷ x ≡ f ++ b → (G n).spells f v → p t ≡ true
  turn_head n t x [] b v e s = absurd (h.full n v s)
  turn_head n t x (u ∷ f) b v e s = let heads : u ≡ t = cc in subst (λ z. p z ≡ true) heads (h.spells n u f v s)

  pub upto_spells : (most n : ℕ) (t : T) (x : List T) (w : List A) → (upto most (G n)).spells (t ∷ x) w → p t ≡ true
  upto_spells zero n t x w s = let none = s.part in cc
  upto_spells (suc most) n t x w (inl s) = turn_head n t x s.part.front s.part.back s.value.0 s.part.cut s.part.first
  upto_spells (suc most) n t x w (inr s) = let none = s.part in cc

  pub upto_begins : (most n : ℕ) (t : T) (x : List T) → (upto most (G n)).begins (t ∷ x) → p t ≡ true
  upto_begins zero n t x b = cc
  upto_begins (suc most) n t x (inl (in_first b)) = (heads_present h).begins n t x b
  upto_begins (suc most) n t x (inl (in_second f k v cut s b)) = turn_head n t x f k v cut s
  upto_begins (suc most) n t x (inr b) = cc

  pub opens_upto : (most : ℕ) → Opens (λ n. upto most (G n)) p
  opens_upto most = record { spells = upto_spells most; begins = upto_begins most }

-- ---- choices

pub exactly_widened : {A : Type 0} {L : Family Lexeme A} {q p : Lexeme → Bool} {left : ℕ} {read : Reader Lexeme A} → Sub q p → Exactly L (by q) left read → Exactly L (by p) left read
exactly_widened k g = record { at = λ ts. (right_widened k (right_of g ts)).exact }

-- an alternative that stays at each level
pub exactly_stays : {A : Type 0} {G : Family Lexeme A} {go : A → Lexeme → Bool} {left : ℕ} {read : Reader Lexeme A} → (G 0).stays ≡ true → ((n : ℕ) → (G (suc n)).stays ≡ true) → Exactly G go left read → Exactly (λ n. present (G n)) go left read
exactly_stays last before g = record { at = λ ts. (there_present last before (right_of g ts)).exact }

-- two alternatives as one
pub exactly_pair : {A : Type 0} {G H : Family Lexeme A} {go : A → Lexeme → Bool} {left : ℕ} {read : Reader Lexeme A} → Exactly (λ n. G n ∥ H n) go left read → Exactly (λ n. present (G n ∥ H n)) go left read
exactly_pair g = record { at = λ ts. (right_two (right_of g ts)).exact }

pub false_of : (b : Bool) → (b ≡ true → ⊥) → b ≡ false
false_of true h = absurd (h refl)
false_of false h = refl

pub unseen : (p q : Class → Bool) → Apart (at p) (at q) → (ts : List Lexeme) → sees (at p) ts ≡ true → sees (at q) ts ≡ false
unseen p q a [] e = refl
unseen p q a (t ∷ ts) e = false_of (q t.class) (λ h. a t e h)

-- the first alternative begins with tokens of p, the second with tokens of q
module _ {A : Type 0} {G H : Family Lexeme A} {go : A → Lexeme → Bool} (p q : Class → Bool) {left : ℕ} {r s : Reader Lexeme A} (e : (variants enum).each (λ c. not (p c && q c)) ≡ true) (hg : Heads G (at p)) (hh : Heads H (at q))
    (g : ExactlyAt (at p) (λ n. present (G n)) go left r) (h : Exactly (λ n. present (H n)) go left s)
  where
    pub choice_at : (ts : List Lexeme) (b : Bool) → sees (at p) ts ≡ b → Right (λ n. G n ∥ H n) go left ts (if b then r ts else s ts)
    choice_at ts true seen = first_of_two (record { exact = g.at ts seen }) hh (unseen p q (apart p q e) ts seen)
    choice_at ts false not_seen = second_of_two hg not_seen (right_of h ts)

    pub exactly_choice : Exactly (λ n. G n ∥ H n) go left (choose p r s)
    exactly_choice = record { at = λ ts. (choice_at ts (sees (at p) ts) refl).exact }

pub choose_by : {A : Type 0} (b c : Bool) (r s : Reader Lexeme A) (ts : List Lexeme) → b ≡ c → (if b then r ts else s ts) ≡ (if c then r ts else s ts)
choose_by b c r s ts e = ap (λ d. if d then r ts else s ts) e

pub choose_first : {A : Type 0} (p : Class → Bool) (r s : Reader Lexeme A) (ts : List Lexeme) → sees (at p) ts ≡ true → choose p r s ts ≡ r ts
choose_first p r s ts e = choose_by (sees (at p) ts) true r s ts e

pub choose_rest : {A : Type 0} (p : Class → Bool) (r s : Reader Lexeme A) (ts : List Lexeme) → sees (at p) ts ≡ false → choose p r s ts ≡ s ts
choose_rest p r s ts e = choose_by (sees (at p) ts) false r s ts e
