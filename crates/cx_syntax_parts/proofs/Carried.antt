-- What holds of each value that a language spells, and what is spelled in another language too where the value is such.
use Rattle.std.proofs.Common.{Bool, List, [], ◌∷◌, Option, Some, None, sym, subst, inl, inr}
use Rattle.cx_grammar.specs.Language.{Language, ◌<$>◌, ◌∥◌, ◌⊳◌, ◌⊲◌, maybe, many, SpellsMany, there}

abbrev pub Each : {A : Type 0} → (A → Type 0) → List A → Type 0
Each p [] = Unit {0}
Each p (v ∷ vs) = p v × Each p vs

abbrev pub Perhaps : {A : Type 0} → (A → Type 0) → Option A → Type 0
Perhaps p None = Unit {0}
Perhaps p (Some v) = p v

-- ---- of each value

pub record Holds {T A : Type 0} (p : A → Type 0) (g : Language T A) : Type 0 where
  pub at : (x : List T) (v : A) → g.spells x v → p v

pub holds_as : {T A B : Type 0} {g : Language T A} {p : A → Type 0} (q : B → Type 0) (f : A → B) → ((v : A) → p v → q (f v)) → Holds p g → Holds q (f <$> g)
holds_as q f k h = record { at = λ x w s. subst q (sym s.made) (k s.value (h.at x s.value s.part)) }

pub holds_before : {T A : Type 0} {g : Language T A} {p : A → Type 0} (t : T → Bool) → Holds p g → Holds p (t ⊳ g)
holds_before {p = p} t h = record { at = λ x w s. subst p (sym s.made) (h.at s.part.back s.value.1 s.part.second) }

pub holds_behind : {T A : Type 0} {g : Language T A} {p : A → Type 0} (t : T → Bool) → Holds p g → Holds p (g ⊲ t)
holds_behind {p = p} t h = record { at = λ x w s. subst p (sym s.made) (h.at s.part.front s.value.0 s.part.first) }

pub holds_or : {T A : Type 0} {g h : Language T A} {p : A → Type 0} → Holds p g → Holds p h → Holds p (g ∥ h)
holds_or a b = record { at = λ x w s. elim s [ inl c ↦ a.at x w c | inr c ↦ b.at x w c ] }

many_hold : {T A : Type 0} {g : Language T A} {p : A → Type 0} → Holds p g → (x : List T) (vs : List A) → SpellsMany g x vs → Each p vs
many_hold h x [] s = tt
many_hold h x (v ∷ vs) s = (h.at s.0 v s.3, many_hold h s.1 vs s.4)

pub holds_many : {T A : Type 0} {g : Language T A} {p : A → Type 0} → Holds p g → Holds (Each p) (many g)
holds_many h = record { at = many_hold h }

pub holds_maybe : {T A : Type 0} {g : Language T A} {p : A → Type 0} → Holds p g → Holds (Perhaps p) (maybe g)
holds_maybe {p = p} h = record { at = λ x w s. elim s [ inl a ↦ subst (Perhaps p) (sym a.made) tt | inr a ↦ subst (Perhaps p) (sym a.made) (h.at x a.value a.part) ] }

pub holds_there : {T A : Type 0} {g : Language T A} {p : A → Type 0} → Holds p g → Holds p (there g)
holds_there h = record { at = h.at }

-- ---- where the value is such

pub record Carries {T A : Type 0} (p : A → Type 0) (g h : Language T A) : Type 0 where
  pub at : (x : List T) (v : A) → p v → g.spells x v → h.spells x v

pub carries_same : {T A : Type 0} (p : A → Type 0) (g : Language T A) → Carries p g g
carries_same p g = record { at = λ x v i s. s }

pub carries_as : {T A B : Type 0} {g h : Language T A} {p : A → Type 0} (q : B → Type 0) (f : A → B) → ((v : A) → q (f v) → p v) → Carries p g h → Carries q (f <$> g) (f <$> h)
carries_as q f k c = record { at = λ x w i s. record { value = s.value; made = s.made; part = c.at x s.value (k s.value (subst q s.made i)) s.part } }

pub carries_before : {T A : Type 0} {g h : Language T A} {p : A → Type 0} (t : T → Bool) → Carries p g h → Carries p (t ⊳ g) (t ⊳ h)
carries_before {p = p} t c = record { at = λ x w i s. record { value = s.value; made = s.made; part = record { front = s.part.front; back = s.part.back; cut = s.part.cut; first = s.part.first; second = c.at s.part.back s.value.1 (subst p s.made i) s.part.second } } }

pub carries_behind : {T A : Type 0} {g h : Language T A} {p : A → Type 0} (t : T → Bool) → Carries p g h → Carries p (g ⊲ t) (h ⊲ t)
carries_behind {p = p} t c = record { at = λ x w i s. record { value = s.value; made = s.made; part = record { front = s.part.front; back = s.part.back; cut = s.part.cut; first = c.at s.part.front s.value.0 (subst p s.made i) s.part.first; second = s.part.second } } }

pub carries_or : {T A : Type 0} {g g2 h h2 : Language T A} {p : A → Type 0} → Carries p g g2 → Carries p h h2 → Carries p (g ∥ h) (g2 ∥ h2)
carries_or a b = record { at = λ x w i s. elim s [ inl c ↦ inl (a.at x w i c) | inr c ↦ inr (b.at x w i c) ] }

many_carry : {T A : Type 0} {g h : Language T A} {p : A → Type 0} → Carries p g h → (x : List T) (vs : List A) → Each p vs → SpellsMany g x vs → SpellsMany h x vs
many_carry c x [] i s = s
many_carry c x (v ∷ vs) i s = (s.0, s.1, s.2, c.at s.0 v i.0 s.3, many_carry c s.1 vs i.1 s.4)

pub carries_many : {T A : Type 0} {g h : Language T A} {p : A → Type 0} → Carries p g h → Carries (Each p) (many g) (many h)
carries_many c = record { at = many_carry c }

pub carries_maybe : {T A : Type 0} {g h : Language T A} {p : A → Type 0} → Carries p g h → Carries (Perhaps p) (maybe g) (maybe h)
carries_maybe {p = p} c = record { at = λ x w i s. elim s [ inl a ↦ inl a | inr a ↦ inr (record { value = a.value; made = a.made; part = c.at x a.value (subst (Perhaps p) a.made i) a.part }) ] }

pub carries_there : {T A : Type 0} {g h : Language T A} {p : A → Type 0} → Carries p g h → Carries p (there g) (there h)
carries_there c = record { at = c.at }
