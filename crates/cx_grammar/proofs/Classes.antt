-- Sets of tokens by their class, where the classes are the variants of an enum: what holds of all is checked by computing it.
use mathlib.Core.Path.{◌≡◌, refl, sym, ◌∙◌, ap}
use mathlib.Core.Logic.{inl, inr}
use mathlib.Core.Bool.{Bool, true, false, not}
use mathlib.Core.List.{List, [], ◌∷◌}
use Rattle.std.specs.Prelude.{◌&&◌, ◌||◌}
use denote.Struct.Field.{Field}
use denote.Enum.Declared.{Record, Choice}
use Rattle.cx_grammar.specs.Sets.{of}
use Rattle.cx_grammar.proofs.Heads.{Apart, Sub}

-- ---- all variants of an enum without fields

abbrev pub each_choice : (Fss : List (List Field)) → (Choice Fss → Bool) → Bool
each_choice [] p = true
each_choice ([] ∷ Fss) p = p (inl tt) && each_choice Fss (λ c. p (inr c))
each_choice ((F ∷ Fs) ∷ Fss) p = false

left_of : (b c : Bool) → (b && c) ≡ true → b ≡ true
left_of true c e = refl
left_of false c e = e

right_of : (b c : Bool) → (b && c) ≡ true → c ≡ true
right_of true c e = e
right_of false c e = cc

each_sound : (Fss : List (List Field)) (p : Choice Fss → Bool) → each_choice Fss p ≡ true → (c : Choice Fss) → p c ≡ true
each_sound [] p e c = absurd c
each_sound ([] ∷ Fss) p e (inl u) = left_of (p (inl tt)) (each_choice Fss (λ c. p (inr c))) e
each_sound ([] ∷ Fss) p e (inr c) = each_sound Fss (λ d. p (inr d)) (right_of (p (inl tt)) (each_choice Fss (λ d. p (inr d))) e) c
each_sound ((F ∷ Fs) ∷ Fss) p e c = absurd (let h : false ≡ true = e in cc)

-- a type all of whose values can be tried
pub record Finite (C : Type 0) : Type 0 where
  pub each : (C → Bool) → Bool
  pub all : (p : C → Bool) → each p ≡ true → (c : C) → p c ≡ true

pub enum_all : (N : Record) (p : N.D → Bool) → each_choice N.parts (λ c. p (N.make c)) ≡ true → (d : N.D) → p d ≡ true
enum_all N p e d = sym (ap p (N.eta d)) ∙ each_sound N.parts (λ c. p (N.make c)) e (N.as_values d)

-- `enum` of the module `specs.contracts.M.E` is the record of the enum E
abbrev pub variants : (N : Record) → Finite N.D
variants N = record { each = λ p. each_choice N.parts (λ c. p (N.make c)); all = enum_all N }

-- ---- sets

not_true : {b : Bool} → not b ≡ true → b ≡ true → ⊥
not_true h e = let p : not true ≡ true = sym (ap not e) ∙ h in cc

or_not : {b c : Bool} → (not b || c) ≡ true → b ≡ true → c ≡ true
or_not {b = b} {c = c} h e = ap (λ v. not v || c) (sym e) ∙ h

module _ {T C : Type 0} (f : Finite C) (class : T → C) (q p : C → Bool) where
  pub apart_by : f.each (λ c. not (q c && p c)) ≡ true → Apart (of class q) (of class p)
  apart_by e t a b = not_true (f.all (λ c. not (q c && p c)) e (class t)) (ap (λ v. v && p (class t)) a ∙ b)

  pub sub_by : f.each (λ c. not (q c) || p c) ≡ true → Sub (of class q) (of class p)
  sub_by e t a = or_not {b = q (class t)} {c = p (class t)} (f.all (λ c. not (q c) || p c) e (class t)) a
