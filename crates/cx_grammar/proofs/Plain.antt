-- Languages that have no token of a set, as the token that ends every list. Such a token at the end of a list is never passed without a spelling, so that a fault always has a token.
use Rattle.std.proofs.Common.{◌≡◌, ℕ, zero, suc, ◌≤◌, Bool, true, false, List, [], ◌∷◌, ◌++◌, length, Option, Some, refl, sym, ◌∙◌, ap, subst, inl, inr, arith, length-append}
use Rattle.std.proofs.lemmas.List.{append-nil}
use Rattle.cx_base.specs.declared.rule.Rule.{Rule}
use Rattle.cx_grammar.specs.Language.{Language, one, the, passing, nothing, whole, ◌>>◌, ◌<$>◌, ◌∥◌, ◌⊳◌, ◌⊲◌, in_first, in_second, none_yet, some, present, maybe, many, SpellsMany, upto, such, unless, measured, with_tail, absent, there}
use Rattle.cx_grammar.specs.Exact.{Family}
use Rattle.cx_grammar.specs.Answers.{FaultAt}
use Rattle.cx_grammar.proofs.Heads.{not_both, passes}

-- no token is of the set
abbrev pub Free : {T : Type 0} → (T → Bool) → List T → Type 0
Free p [] = Unit {0}
Free p (t ∷ ts) = (p t ≡ false) × Free p ts

free_both : {T : Type 0} (p : T → Bool) (x y : List T) → Free p x → Free p y → Free p (x ++ y)
free_both p [] y a b = b
free_both p (t ∷ x) y a b = (a.0, free_both p x y a.1 b)

free_cut : {T : Type 0} (p : T → Bool) (x f k : List T) → x ≡ f ++ k → Free p f → Free p k → Free p x
free_cut p x f k e a b = let P : List _ → Type 0 = λ l. Free p l in subst P (sym e) (free_both p f k a b)

free_none : {T : Type 0} (p : T → Bool) (x : List T) → x ≡ [] → Free p x
free_none p x e = let P : List _ → Type 0 = λ l. Free p l in subst P (sym e) tt

free_one : {T : Type 0} (p : T → Bool) (x : List T) (t : T) → x ≡ t ∷ [] → p t ≡ false → Free p x
free_one p x t e c = let P : List _ → Type 0 = λ l. Free p l in subst P (sym e) (c, tt)

-- no spelling and no front has such a token
pub record Plain {T A : Type 0} (p : T → Bool) (g : Language T A) : Type 0 where
  pub spells : (x : List T) (w : A) → g.spells x w → Free p x
  pub begins : (x : List T) → g.begins x → Free p x

pub plain_one : {T A : Type 0} {p : T → Bool} (f : T → Option A) → ((t : T) (v : A) → f t ≡ Some v → p t ≡ false) → Plain p (one f)
plain_one {p = p} f k = record {
  spells = λ x w s. free_one p x s.token s.alone (k s.token w s.fits);
  begins = λ x b. elim b [ nothing none ↦ free_none p x none | whole v s ↦ free_one p x s.token s.alone (k s.token v s.fits) ];
}

pub plain_the : {T : Type 0} {p : T → Bool} (q : T → Bool) → ((t : T) → q t ≡ true → p t ≡ false) → Plain p (the q)
plain_the q k = plain_one (passing q) (λ t u e. k t (passes q t u e))

pub plain_both : {T A B : Type 0} {p : T → Bool} {g : Language T A} {h : Language T B} → Plain p g → Plain p h → Plain p (g >> h)
plain_both {p = p} a b = record {
  spells = λ x w s. free_cut p x s.front s.back s.cut (a.spells s.front w.0 s.first) (b.spells s.back w.1 s.second);
  begins = λ x c. elim c [ in_first d ↦ a.begins x d | in_second f k v cut s d ↦ free_cut p x f k cut (a.spells f v s) (b.begins k d) ];
}

pub plain_as : {T A B : Type 0} {p : T → Bool} {g : Language T A} (f : A → B) → Plain p g → Plain p (f <$> g)
plain_as f a = record { spells = λ x w s. a.spells x s.value s.part; begins = a.begins }

pub plain_present : {T A : Type 0} {p : T → Bool} {g : Language T A} → Plain p g → Plain p (present g)
plain_present {p = p} a = record { spells = a.spells; begins = λ x b. elim b [ none_yet none ↦ free_none p x none | some st c ↦ a.begins x c ] }

pub plain_or : {T A : Type 0} {p : T → Bool} {g h : Language T A} → Plain p g → Plain p h → Plain p (g ∥ h)
plain_or a b = record {
  spells = λ x w s. elim s [ inl c ↦ a.spells x w c | inr c ↦ b.spells x w c ];
  begins = λ x s. elim s [ inl c ↦ (plain_present a).begins x c | inr c ↦ (plain_present b).begins x c ];
}

pub plain_maybe : {T A : Type 0} {p : T → Bool} {g : Language T A} → Plain p g → Plain p (maybe g)
plain_maybe {p = p} a = record {
  spells = λ x w s. elim s [ inl c ↦ free_none p x c.part | inr c ↦ a.spells x c.value c.part ];
  begins = λ x s. elim s [ inl c ↦ free_none p x c | inr c ↦ (plain_present a).begins x c ];
}

many_free : {T A : Type 0} {p : T → Bool} {g : Language T A} → Plain p g → (x : List T) (w : List A) → SpellsMany g x w → Free p x
many_free {p = p} a x [] s = free_none p x s
many_free {p = p} a x (v ∷ vs) s = free_cut p x s.0 s.1 s.2 (a.spells s.0 v s.3) (many_free a s.1 vs s.4)

pub plain_many : {T A : Type 0} {p : T → Bool} {g : Language T A} → Plain p g → Plain p (many g)
plain_many {p = p} a = record {
  spells = λ x w s. many_free a x w s;
  begins = λ x b. free_cut p x b.front b.back b.cut (many_free a b.front b.turns b.whole) ((plain_present a).begins b.back b.next);
}

pub plain_upto : {T A : Type 0} {p : T → Bool} {g : Language T A} (most : ℕ) → Plain p g → Plain p (upto most g)
plain_upto {p = p} zero a = record { spells = λ x w s. free_none p x s.part; begins = λ x b. free_none p x b }
plain_upto {p = p} (suc most) a = let rest = plain_both (plain_present a) (plain_upto most a) in record {
  spells = λ x w s. elim s [ inl c ↦ rest.spells x c.value c.part | inr c ↦ free_none p x c.part ];
  begins = λ x s. elim s [ inl c ↦ rest.begins x c | inr c ↦ free_none p x c ];
}

pub plain_before : {T A : Type 0} {p : T → Bool} {g : Language T A} (q : T → Bool) → ((t : T) → q t ≡ true → p t ≡ false) → Plain p g → Plain p (q ⊳ g)
plain_before q k a = plain_as (λ pair. pair.1) (plain_both (plain_the q k) a)

pub plain_behind : {T A : Type 0} {p : T → Bool} {g : Language T A} (q : T → Bool) → ((t : T) → q t ≡ true → p t ≡ false) → Plain p g → Plain p (g ⊲ q)
plain_behind q k a = plain_as (λ pair. pair.0) (plain_both a (plain_the q k))

pub plain_such : {T A : Type 0} {p : T → Bool} {g : Language T A} (f : A → Bool) → Plain p g → Plain p (such f g)
plain_such f a = record { spells = λ x w s. a.spells x w s.part; begins = a.begins }

pub plain_unless : {T A : Type 0} {p : T → Bool} {g : Language T A} (test : List T → Bool) → Plain p g → Plain p (unless test g)
plain_unless test a = record { spells = λ x w s. a.spells x w s.part; begins = λ x b. a.begins x b.part }

pub plain_measured : {T A M : Type 0} {p : T → Bool} {g : Language T A} (f : List T → M) → Plain p g → Plain p (measured f g)
plain_measured f a = record { spells = λ x w s. a.spells x w.0 s.part; begins = a.begins }

pub plain_with_tail : {T A B : Type 0} {p : T → Bool} {g : Language T A} {h : Language T B} (f : A → Bool) → Plain p g → Plain p h → Plain p (with_tail f g h)
plain_with_tail f a b = let rest = plain_both (plain_such f a) (plain_present b) in record {
  spells = λ x w s. elim s [ inl c ↦ a.spells x c.value c.part | inr c ↦ rest.spells x c.value c.part ];
  begins = λ x s. elim s [ inl c ↦ a.begins x c | inr c ↦ rest.begins x c ];
}

pub plain_absent : {T A : Type 0} (p : T → Bool) → Plain {A = A} p absent
plain_absent p = record { spells = λ x w s. absurd s; begins = λ x b. free_none p x b }

pub plain_there : {T A : Type 0} {p : T → Bool} {g : Language T A} → Plain p g → Plain p (there g)
plain_there a = record { spells = a.spells; begins = a.begins }

-- ---- a list that ends with such a token

not_free : {T : Type 0} (p : T → Bool) (x : List T) (t : T) → p t ≡ true → Free p (x ++ t ∷ []) → ⊥
not_free p [] t e h = not_both e h.0
not_free p (u ∷ x) t e h = not_free p x t e h.1

nothing_left : {T : Type 0} (rest : List T) → length rest ≡ 0 → rest ≡ []
nothing_left [] e = refl
nothing_left (t ∷ rest) e = let l = length-append (t ∷ []) rest in absurd (omega arith)

module _ {T A : Type 0} (p : T → Bool) (G : Family T A) (levels : ℕ) (a : Plain p (G levels)) (front : List T) (t : T) (is : p t ≡ true) where
  begun_whole : (ts : List T) → ts ≡ front ++ t ∷ [] → ((w : A) → (G levels ⊲ p).spells ts w → ⊥) → (G levels ⊲ p).begins ts → ⊥
  begun_whole ts e none (in_first b) = not_free p front t is (let P : List T → Type 0 = λ l. Free p l in subst P e (a.begins ts b))
  begun_whole ts e none (in_second f k v cut s (nothing nil)) = not_free p front t is (let P : List T → Type 0 = λ l. Free p l in subst P (sym (cut ∙ (ap (λ l. f ++ l) nil ∙ append-nil f)) ∙ e) (a.spells f v s))
  begun_whole ts e none (in_second f k v cut s (whole u o)) = none v (record { value = (v, u); made = refl; part = record { front = f; back = k; cut = cut; first = s; second = o } })

  -- a fault of what ends with this token has a token
  pub fault_has_token : (ts : List T) (rule : Rule) (left : ℕ) → ts ≡ front ++ t ∷ [] → FaultAt (λ n. G n ⊲ p) levels ts rule left → 1 ≤ left
  fault_has_token ts rule zero e f = let nil = nothing_left f.rest f.size in let all : ts ≡ f.before = f.cut ∙ (ap (λ l. f.before ++ l) nil ∙ append-nil f.before) in
      absurd (begun_whole ts e f.none (let P : List T → Type 0 = λ l. (G levels ⊲ p).begins l in subst P (sym all) (f.begun f.before [] (sym (append-nil f.before)))))
  fault_has_token ts rule (suc left) e f = omega arith
