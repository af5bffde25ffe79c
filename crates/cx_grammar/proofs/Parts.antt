-- One token, a value made from another, alternatives, parts that may be left out, repetitions, levels.
use Rattle.std.proofs.Common.{◌≡◌, ℕ, zero, suc, ◌+◌, ◌≤◌, Bool, true, false, IsTrue, List, [], ◌∷◌, ◌++◌, length, Option, Some, refl, sym, ◌∙◌, ap, subst, inl, inr, ◌⊎◌, arith}
use Rattle.std.proofs.lemmas.List.{append-nil}
use Rattle.cx_base.specs.declared.rule.Rule.{Rule}
use Rattle.cx_base.specs.declared.rule.Rule.TheVariants.{Syntax, Nesting}
use Rattle.cx_grammar.specs.Language.{◌<$>◌, SpellsOne, nothing, whole, one, none_yet, some, present, either, empty, absent, there}
use Rattle.cx_grammar.specs.Exact.{Family, GoesOn, Within, Only, same, shorter, Core, Deepens, Reaches, Done, Stopped, Outcome, done, stop, Exact}
use Rattle.cx_grammar.specs.Reading.{made}
use Rattle.cx_grammar.proofs.Lists.{no_front}

-- a fault of syntax is none of nesting
pub not_nesting : Syntax ≡ Nesting → ⊥
not_nesting e = cc

-- ---- fronts of a list of none and of one

pub none_within : {T : Type 0} (x y : List T) → [] ≡ x ++ y → x ≡ []
none_within x y e = no_front x y (sym e)

pub front_of_one : {T : Type 0} (t : T) (x y : List T) → t ∷ [] ≡ x ++ y → (x ≡ []) ⊎ (x ≡ t ∷ [])
front_of_one t [] y e = inl refl
front_of_one t (s ∷ x) y e =
    let heads : s ≡ t = cc in
    let tails : [] ≡ x ++ y = cc in
    let none : x ≡ [] = none_within x y tails in inr cc

-- ---- one token

module _ {T A : Type 0} (f : T → Option A) (go : A → T → Bool) where
  spells_head : (t : T) (r x y : List T) (v : A) → t ∷ r ≡ x ++ y → SpellsOne f x v → (x ≡ t ∷ []) × (y ≡ r) × (f t ≡ Some v)
  spells_head t r x y v e s =
      let cut : t ∷ r ≡ s.token ∷ y = e ∙ ap (λ l. l ++ y) s.alone in
      let heads : t ≡ s.token = cc in
      let tails : y ≡ r = cc in
      (s.alone ∙ ap (λ u. u ∷ []) (sym heads), tails, ap f heads ∙ s.fits)

  pub exact_one : (least : ℕ) (t : T) (r : List T) (v : A) → f t ≡ Some v → Done (λ n. one f) go least (t ∷ r) v r
  exact_one least t r v fits = record {
    used = t ∷ [];
    spells = λ n p. record { token = t; alone = refl; fits = fits };
    core = record {
      cut = refl;
      begins = λ n p x y e. elim (front_of_one t x y e) [
        | inl none ↦ nothing none
        | inr all ↦ whole v (record { token = t; alone = all; fits = fits })
      ];
      only = λ n q x y w e s. let h = spells_head t r x y w e s in let fs : f t ≡ Some w = h.2 in same h.0 h.1 (cc);
      ends = λ n q x y e b. elim b [
        | nothing none ↦ (t ∷ [], ap (λ l. l ++ t ∷ []) (sym none))
        | whole w s ↦ let h = spells_head t r x y w e s in ([], sym (append-nil x ∙ h.0))
      ];
    };
  }

  -- no token, or one that is no part of the language
  pub exact_no : (least : ℕ) (ts : List T) → ((t : T) (r : List T) (v : A) → ts ≡ t ∷ r → f t ≡ Some v → ⊥) → Stopped (λ n. one f) go least ts Syntax (length ts)
  exact_no least ts never = record {
    used = [];
    rest = ts;
    size = refl;
    is = inl refl;
    deep = λ e. absurd (not_nesting e);
    core = record {
      cut = refl;
      begins = λ n p x y e. nothing (none_within x y e);
      only = λ n q x y w e s. absurd (never s.token y w (e ∙ ap (λ l. l ++ y) s.alone) s.fits);
      ends = λ n q x y e b. elim b [
        | nothing none ↦ ([], sym (append-nil x ∙ none))
        | whole w s ↦ absurd (never s.token y w (e ∙ ap (λ l. l ++ y) s.alone) s.fits)
      ];
    };
  }

-- ---- a value made from another

module _ {T A B : Type 0} (f : A → B) (G : Family T A) (go_g : A → T → Bool) (go : B → T → Bool)
    (after : (v : A) (t : T) → IsTrue (go_g v t) → IsTrue (go (f v) t)) where
  goes_on : (v : A) (y : List T) → GoesOn go_g v y → GoesOn go (f v) y
  goes_on v [] h = h
  goes_on v (t ∷ y) h = after v t h

  pub core_as : (least : ℕ) (R : ℕ → Type 0) (S : A → Type 0) (S' : B → Type 0) (ts used rest : List T) → ((v : A) → S v → S' (f v)) → Core G go_g least R S ts used rest → Core (λ n. f <$> G n) go least R S' ts used rest
  core_as least R S S' ts used rest k c = record {
    cut = c.cut;
    begins = c.begins;
    ends = c.ends;
    only = λ n q x y w e s. elim (c.only n q x y s.value e s.part) [
      | same a b d ↦ same a b (subst S' (sym s.made) (k s.value d))
      | shorter a b ↦ shorter a (let P : B → Type 0 = λ u. GoesOn go u y in subst P (sym s.made) (goes_on s.value y b))
    ];
  }

  pub deep_as : (rule : Rule) (used rest : List T) → Deepens rule G used rest → Deepens rule (λ n. f <$> G n) used rest
  deep_as rule used rest deep = λ e. let d = deep e in record { token = d.token; after = d.after; is = d.is; enough = d.enough; begins = d.begins }

  pub exact_as : (least : ℕ) (ts : List T) (o : Outcome T A) → Exact G go_g least ts o → Exact (λ n. f <$> G n) go least ts (made f o)
  exact_as least ts (done v rest) g = record {
    used = g.used;
    core = core_as least (λ n. Unit {0}) (λ w. w ≡ v) (λ w. w ≡ f v) ts g.used rest (λ w e. ap f e) g.core;
    spells = λ n p. record { value = v; made = refl; part = g.spells n p };
  }
  exact_as least ts (stop rule left) g = record {
    used = g.used;
    rest = g.rest;
    size = g.size;
    is = g.is;
    deep = deep_as rule g.used g.rest g.deep;
    core = core_as least (Reaches rule least) (λ w. ⊥) (λ w. ⊥) ts g.used g.rest (λ w h. h) g.core;
  }

-- ---- alternatives

-- At these tokens the other alternative has nothing but what the reader's outcome allows.
pub record Covered {T A : Type 0} (H : Family T A) (go : A → T → Bool) (R : ℕ → Type 0) (ts used : List T) : Type 0 where
  pub only : (n : ℕ) → R n → (x y : List T) (w : A) → ts ≡ x ++ y → (H n).spells x w → Within used x × GoesOn go w y
  pub ends : (n : ℕ) → R n → (x y : List T) → ts ≡ x ++ y → (H n).begins x → Within used x

module _ {T A : Type 0} (G H : Family T A) (go : A → T → Bool) where
  pub core_left : (least : ℕ) (R : ℕ → Type 0) (S : A → Type 0) (ts used rest : List T) → Covered H go R ts used → Core G go least R S ts used rest → Core (λ n. either (G n) (H n)) go least R S ts used rest
  core_left least R S ts used rest o c = record {
    cut = c.cut;
    begins = λ n p x y e. inl (c.begins n p x y e);
    only = λ n q x y w e s. elim s [ inl a ↦ c.only n q x y w e a | inr b ↦ let p = o.only n q x y w e b in shorter p.0 p.1 ];
    ends = λ n q x y e b. elim b [ inl a ↦ c.ends n q x y e a | inr b2 ↦ o.ends n q x y e b2 ];
  }

  pub core_right : (least : ℕ) (R : ℕ → Type 0) (S : A → Type 0) (ts used rest : List T) → Covered G go R ts used → Core H go least R S ts used rest → Core (λ n. either (G n) (H n)) go least R S ts used rest
  core_right least R S ts used rest o c = record {
    cut = c.cut;
    begins = λ n p x y e. inr (c.begins n p x y e);
    only = λ n q x y w e s. elim s [ inr a ↦ c.only n q x y w e a | inl b ↦ let p = o.only n q x y w e b in shorter p.0 p.1 ];
    ends = λ n q x y e b. elim b [ inr a ↦ c.ends n q x y e a | inl b2 ↦ o.ends n q x y e b2 ];
  }

  pub deep_left : (rule : Rule) (used rest : List T) → Deepens rule G used rest → Deepens rule (λ n. either (G n) (H n)) used rest
  deep_left rule used rest deep = λ e. let d = deep e in record { token = d.token; after = d.after; is = d.is; enough = d.enough; begins = λ n p. inl (d.begins n p) }

  pub deep_right : (rule : Rule) (used rest : List T) → Deepens rule H used rest → Deepens rule (λ n. either (G n) (H n)) used rest
  deep_right rule used rest deep = λ e. let d = deep e in record { token = d.token; after = d.after; is = d.is; enough = d.enough; begins = λ n p. inr (d.begins n p) }

  pub Others : Family T A → List T → Type 0
  Others K ts = (used : List T) → Covered K go (λ n. Unit {0}) ts used

  covered_at : (K : Family T A) (R : ℕ → Type 0) (ts used : List T) → Covered K go (λ n. Unit {0}) ts used → Covered K go R ts used
  covered_at K R ts used c = record { only = λ n q. c.only n tt; ends = λ n q. c.ends n tt }

  pub exact_left : (least : ℕ) (ts : List T) (o : Outcome T A) → ((used : List T) → Covered H go (λ n. Unit {0}) ts used) → Exact G go least ts o → Exact (λ n. either (G n) (H n)) go least ts o
  exact_left least ts (done v rest) c g = record {
    used = g.used;
    core = core_left least (λ n. Unit {0}) (λ w. w ≡ v) ts g.used rest (c g.used) g.core;
    spells = λ n p. inl (g.spells n p);
  }
  exact_left least ts (stop rule left) c g = record {
    used = g.used;
    rest = g.rest;
    size = g.size;
    is = g.is;
    deep = deep_left rule g.used g.rest g.deep;
    core = core_left least (Reaches rule least) (λ w. ⊥) ts g.used g.rest (covered_at H (Reaches rule least) ts g.used (c g.used)) g.core;
  }

  pub exact_right : (least : ℕ) (ts : List T) (o : Outcome T A) → ((used : List T) → Covered G go (λ n. Unit {0}) ts used) → Exact H go least ts o → Exact (λ n. either (G n) (H n)) go least ts o
  exact_right least ts (done v rest) c g = record {
    used = g.used;
    core = core_right least (λ n. Unit {0}) (λ w. w ≡ v) ts g.used rest (c g.used) g.core;
    spells = λ n p. inr (g.spells n p);
  }
  exact_right least ts (stop rule left) c g = record {
    used = g.used;
    rest = g.rest;
    size = g.size;
    is = g.is;
    deep = deep_right rule g.used g.rest g.deep;
    core = core_right least (Reaches rule least) (λ w. ⊥) ts g.used g.rest (covered_at G (Reaches rule least) ts g.used (c g.used)) g.core;
  }

-- Here each front of one alternative is a front of the other, and it spells nothing.
module _ {T A : Type 0} (G H : Family T A) (go : A → T → Bool) where
  core_shared_left : (least : ℕ) (R : ℕ → Type 0) (S : A → Type 0) (ts used rest : List T) → ((n : ℕ) (x y : List T) → ts ≡ x ++ y → (H n).begins x → (G n).begins x) → ((n : ℕ) (x y : List T) (w : A) → ts ≡ x ++ y → (H n).spells x w → ⊥)
      → Core G go least R S ts used rest → Core (λ n. either (G n) (H n)) go least R S ts used rest
  core_shared_left least R S ts used rest k u c = record {
    cut = c.cut;
    begins = λ n p x y e. inl (c.begins n p x y e);
    only = λ n q x y w e s. elim s [ inl a ↦ c.only n q x y w e a | inr b ↦ absurd (u n x y w e b) ];
    ends = λ n q x y e b. elim b [ inl a ↦ c.ends n q x y e a | inr b2 ↦ c.ends n q x y e (k n x y e b2) ];
  }

  core_shared_right : (least : ℕ) (R : ℕ → Type 0) (S : A → Type 0) (ts used rest : List T) → ((n : ℕ) (x y : List T) → ts ≡ x ++ y → (G n).begins x → (H n).begins x) → ((n : ℕ) (x y : List T) (w : A) → ts ≡ x ++ y → (G n).spells x w → ⊥)
      → Core H go least R S ts used rest → Core (λ n. either (G n) (H n)) go least R S ts used rest
  core_shared_right least R S ts used rest k u c = record {
    cut = c.cut;
    begins = λ n p x y e. inr (c.begins n p x y e);
    only = λ n q x y w e s. elim s [ inr a ↦ c.only n q x y w e a | inl b ↦ absurd (u n x y w e b) ];
    ends = λ n q x y e b. elim b [ inr a ↦ c.ends n q x y e a | inl b2 ↦ c.ends n q x y e (k n x y e b2) ];
  }

  pub shared_left : (least : ℕ) (ts : List T) (o : Outcome T A) → ((n : ℕ) (x y : List T) → ts ≡ x ++ y → (H n).begins x → (G n).begins x) → ((n : ℕ) (x y : List T) (w : A) → ts ≡ x ++ y → (H n).spells x w → ⊥) → Exact G go least ts o → Exact (λ n. either (G n) (H n)) go least ts o
  shared_left least ts (done v rest) k u g = record { used = g.used; spells = λ n p. inl (g.spells n p); core = core_shared_left least (λ n. Unit {0}) (λ w. w ≡ v) ts g.used rest k u g.core }
  shared_left least ts (stop rule left) k u g = record { used = g.used; rest = g.rest; size = g.size; is = g.is; deep = deep_left G H go rule g.used g.rest g.deep; core = core_shared_left least (Reaches rule least) (λ w. ⊥) ts g.used g.rest k u g.core }

  pub shared_right : (least : ℕ) (ts : List T) (o : Outcome T A) → ((n : ℕ) (x y : List T) → ts ≡ x ++ y → (G n).begins x → (H n).begins x) → ((n : ℕ) (x y : List T) (w : A) → ts ≡ x ++ y → (G n).spells x w → ⊥) → Exact H go least ts o → Exact (λ n. either (G n) (H n)) go least ts o
  shared_right least ts (done v rest) k u g = record { used = g.used; spells = λ n p. inr (g.spells n p); core = core_shared_right least (λ n. Unit {0}) (λ w. w ≡ v) ts g.used rest k u g.core }
  shared_right least ts (stop rule left) k u g = record { used = g.used; rest = g.rest; size = g.size; is = g.is; deep = deep_right G H go rule g.used g.rest g.deep; core = core_shared_right least (Reaches rule least) (λ w. ⊥) ts g.used g.rest k u g.core }

-- No front but the empty one begins an alternative whose first token is another, and it spells nothing.
pub record Elsewhere {T A : Type 0} (H : Family T A) (ts : List T) : Type 0 where
  pub empty : (n : ℕ) (w : A) → (H n).spells [] w → ⊥
  pub spells : (n : ℕ) (t : T) (x y : List T) (w : A) → ts ≡ t ∷ (x ++ y) → (H n).spells (t ∷ x) w → ⊥
  pub begins : (n : ℕ) (t : T) (x y : List T) → ts ≡ t ∷ (x ++ y) → (H n).begins (t ∷ x) → ⊥

module _ {T A : Type 0} (H : Family T A) (go : A → T → Bool) where
  covered_only : (ts used : List T) → Elsewhere H ts → (n : ℕ) (x y : List T) (w : A) → ts ≡ x ++ y → (H n).spells x w → Within used x × GoesOn go w y
  covered_only ts used o n [] y w e s = absurd (o.empty n w s)
  covered_only ts used o n (t ∷ x) y w e s = absurd (o.spells n t x y w e s)

  covered_ends : (ts used : List T) → Elsewhere H ts → (n : ℕ) (x y : List T) → ts ≡ x ++ y → (H n).begins x → Within used x
  covered_ends ts used o n [] y e b = (used, refl)
  covered_ends ts used o n (t ∷ x) y e b = absurd (o.begins n t x y e b)

  pub elsewhere : (ts : List T) → Elsewhere H ts → (used : List T) → Covered H go (λ n. Unit {0}) ts used
  elsewhere ts o used = record { only = λ n q x y w e s. covered_only ts used o n x y w e s; ends = λ n q x y e b. covered_ends ts used o n x y e b }

-- ---- an alternative that is there at all levels that are read

module _ {T A : Type 0} (G : Family T A) (go : A → T → Bool) where
  core_present : (least : ℕ) (R : ℕ → Type 0) (S : A → Type 0) (ts used rest : List T) → ((n : ℕ) → least ≤ n → (G n).stays ≡ true) → Core G go least R S ts used rest → Core (λ n. present (G n)) go least R S ts used rest
  core_present least R S ts used rest st c = record {
    cut = c.cut;
    only = c.only;
    begins = λ n p x y e. some (st n p) (c.begins n p x y e);
    ends = λ n q x y e b. elim b [ none_yet none ↦ (used, sym (ap (λ l. l ++ used) none)) | some s b2 ↦ c.ends n q x y e b2 ];
  }

  deep_present : (rule : Rule) (least : ℕ) (used rest : List T) → ((n : ℕ) → least ≤ n → (G n).stays ≡ true) → Deepens rule G used rest → Deepens rule (λ n. present (G n)) used rest
  deep_present rule least used rest st deep = λ e. let d = deep e in record {
    token = d.token;
    after = d.after;
    is = d.is;
    enough = least + d.enough;
    begins = λ n p. let q : least ≤ n = omega arith in let r : d.enough ≤ n = omega arith in some (st n q) (d.begins n r);
  }

  pub exact_present : (least : ℕ) (ts : List T) (o : Outcome T A) → ((n : ℕ) → least ≤ n → (G n).stays ≡ true) → Exact G go least ts o → Exact (λ n. present (G n)) go least ts o
  exact_present least ts (done v rest) st g = record { used = g.used; spells = g.spells; core = core_present least (λ n. Unit {0}) (λ w. w ≡ v) ts g.used rest st g.core }
  exact_present least ts (stop rule left) st g = record {
    used = g.used;
    rest = g.rest;
    size = g.size;
    is = g.is;
    deep = deep_present rule least g.used g.rest st g.deep;
    core = core_present least (Reaches rule least) (λ w. ⊥) ts g.used g.rest st g.core;
  }

  -- the token begins the alternative only with more levels
  pub exact_absent : (least : ℕ) (t : T) (r : List T) → (G least).stays ≡ false → ((x : List T) (w : A) → (G least).spells x w → ⊥)
      → (enough : ℕ) → ((n : ℕ) → enough ≤ n → (G n).stays ≡ true) → ((n : ℕ) → enough ≤ n → (G n).begins (t ∷ []))
      → Stopped (λ n. present (G n)) go least (t ∷ r) Nesting (length (t ∷ r))
  exact_absent least t r st never enough stays begins = record {
    used = [];
    rest = t ∷ r;
    size = refl;
    is = inr refl;
    deep = λ nesting. record { token = t; after = r; is = refl; enough = enough; begins = λ n p. some (stays n p) (begins n p) };
    core = record {
      cut = refl;
      begins = λ n p x y e. none_yet (none_within x y e);
      only = λ n q x y w e s. let P : ℕ → Type 0 = λ m. (G m).spells x w in absurd (never x w (subst P (q refl) s));
      ends = λ n q x y e b. elim b [ none_yet none ↦ ([], sym (append-nil x ∙ none)) | some s b2 ↦ let h : false ≡ true = sym st ∙ subst (λ (m : ℕ). (G m).stays ≡ true) (q refl) s in cc ];
    };
  }

-- ---- nothing

pub exact_empty : {T : Type 0} (go : Unit {0} → T → Bool) (least : ℕ) (ts : List T) → Done (λ n. empty) go least ts tt ts
exact_empty go least ts = record {
  used = [];
  spells = λ n p. refl;
  core = record {
    cut = refl;
    begins = λ n p x y e. none_within x y e;
    only = λ n q x y w e s. same s (sym (e ∙ ap (λ l. l ++ y) s)) refl;
    ends = λ n q x y e b. ([], sym (append-nil x ∙ b));
  };
}

-- ---- a level deeper

abbrev pub below : {T A : Type 0} → Family T A → Family T A
below L zero = absent
below L (suc n) = there (L n)

module _ {T A : Type 0} (L : Family T A) (go : A → T → Bool) where
  deeper_begins : (least : ℕ) (S : A → Type 0) (R : ℕ → Type 0) (ts used rest : List T) → Core L go least R S ts used rest → (n : ℕ) → suc least ≤ n → (x y : List T) → used ≡ x ++ y → (below L n).begins x
  deeper_begins least S R ts used rest c zero p x y e = absurd (omega arith)
  deeper_begins least S R ts used rest c (suc n) p x y e = let q : least ≤ n = omega arith in c.begins n q x y e

  deeper_only : (least : ℕ) (S : A → Type 0) (R R' : ℕ → Type 0) (ts used rest : List T) → ((n : ℕ) → R' (suc n) → R n) → Core L go least R S ts used rest
      → (n : ℕ) → R' n → (x y : List T) (w : A) → ts ≡ x ++ y → (below L n).spells x w → Only go S used rest x y w
  deeper_only least S R R' ts used rest k c zero q x y w e s = absurd s
  deeper_only least S R R' ts used rest k c (suc n) q x y w e s = c.only n (k n q) x y w e s

  deeper_ends : (least : ℕ) (S : A → Type 0) (R R' : ℕ → Type 0) (ts used rest : List T) → ((n : ℕ) → R' (suc n) → R n) → Core L go least R S ts used rest
      → (n : ℕ) → R' n → (x y : List T) → ts ≡ x ++ y → (below L n).begins x → Within used x
  deeper_ends least S R R' ts used rest k c zero q x y e b = (used, sym (ap (λ l. l ++ used) b))
  deeper_ends least S R R' ts used rest k c (suc n) q x y e b = c.ends n (k n q) x y e b

  core_deeper : (least : ℕ) (S : A → Type 0) (R R' : ℕ → Type 0) (ts used rest : List T) → ((n : ℕ) → R' (suc n) → R n) → Core L go least R S ts used rest → Core (below L) go (suc least) R' S ts used rest
  core_deeper least S R R' ts used rest k c = record { cut = c.cut; begins = deeper_begins least S R ts used rest c; only = deeper_only least S R R' ts used rest k c; ends = deeper_ends least S R R' ts used rest k c }

  reaches_down : (rule : Rule) (least n : ℕ) → Reaches rule (suc least) (suc n) → Reaches rule least n
  reaches_down rule least n r = λ e. let same_level = r e in omega arith

  deeper_spells : (least : ℕ) (used : List T) (v : A) → ((n : ℕ) → least ≤ n → (L n).spells used v) → (n : ℕ) → suc least ≤ n → (below L n).spells used v
  deeper_spells least used v s zero p = absurd (omega arith)
  deeper_spells least used v s (suc n) p = let q : least ≤ n = omega arith in s n q

  deep_begins : (enough : ℕ) (x : List T) → ((n : ℕ) → enough ≤ n → (L n).begins x) → (n : ℕ) → suc enough ≤ n → (below L n).begins x
  deep_begins enough x b zero p = absurd (omega arith)
  deep_begins enough x b (suc n) p = let q : enough ≤ n = omega arith in b n q

  deep_deeper : (rule : Rule) (used rest : List T) → Deepens rule L used rest → Deepens rule (below L) used rest
  deep_deeper rule used rest deep = λ e. let d = deep e in record { token = d.token; after = d.after; is = d.is; enough = suc d.enough; begins = deep_begins d.enough (used ++ d.token ∷ []) d.begins }

  pub exact_deeper : (least : ℕ) (ts : List T) (o : Outcome T A) → Exact L go least ts o → Exact (below L) go (suc least) ts o
  exact_deeper least ts (done v rest) g = record {
    used = g.used;
    spells = deeper_spells least g.used v g.spells;
    core = core_deeper least (λ w. w ≡ v) (λ n. Unit {0}) (λ n. Unit {0}) ts g.used rest (λ n q. q) g.core;
  }
  exact_deeper least ts (stop rule left) g = record {
    used = g.used;
    rest = g.rest;
    size = g.size;
    is = g.is;
    deep = deep_deeper rule g.used g.rest g.deep;
    core = core_deeper least (λ w. ⊥) (Reaches rule least) (Reaches rule (suc least)) ts g.used g.rest (λ n q. reaches_down rule least n q) g.core;
  }

-- ---- two languages that are the same

pub record Same {T A : Type 0} (G H : Family T A) : Type 0 where
  pub spells : (n : ℕ) (x : List T) (w : A) → (G n).spells x w → (H n).spells x w
  pub spelled : (n : ℕ) (x : List T) (w : A) → (H n).spells x w → (G n).spells x w
  pub begins : (n : ℕ) (x : List T) → (G n).begins x → (H n).begins x
  pub begun : (n : ℕ) (x : List T) → (H n).begins x → (G n).begins x

module _ {T A : Type 0} (G H : Family T A) (go : A → T → Bool) (s : Same G H) where
  core_same : (least : ℕ) (R : ℕ → Type 0) (S : A → Type 0) (ts used rest : List T) → Core G go least R S ts used rest → Core H go least R S ts used rest
  core_same least R S ts used rest c = record {
    cut = c.cut;
    begins = λ n p x y e. s.begins n x (c.begins n p x y e);
    only = λ n q x y w e h. c.only n q x y w e (s.spelled n x w h);
    ends = λ n q x y e b. c.ends n q x y e (s.begun n x b);
  }

  deep_same : (rule : Rule) (used rest : List T) → Deepens rule G used rest → Deepens rule H used rest
  deep_same rule used rest deep = λ e. let d = deep e in record { token = d.token; after = d.after; is = d.is; enough = d.enough; begins = λ n p. s.begins n (used ++ d.token ∷ []) (d.begins n p) }

  pub exact_same : (least : ℕ) (ts : List T) (o : Outcome T A) → Exact G go least ts o → Exact H go least ts o
  exact_same least ts (done v rest) g = record { used = g.used; spells = λ n p. s.spells n g.used v (g.spells n p); core = core_same least (λ n. Unit {0}) (λ w. w ≡ v) ts g.used rest g.core }
  exact_same least ts (stop rule left) g = record { used = g.used; rest = g.rest; size = g.size; is = g.is; deep = deep_same rule g.used g.rest g.deep; core = core_same least (Reaches rule least) (λ w. ⊥) ts g.used g.rest g.core }
