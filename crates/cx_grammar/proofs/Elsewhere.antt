-- Alternatives that the next token does not begin.
use Rattle.std.proofs.Common.{◌≡◌, ℕ, false, IsTrue, List, [], ◌∷◌, ◌++◌, Option, Some, sym, ◌∙◌, ap, subst, inl, inr, append_assoc}
use Rattle.cx_grammar.specs.Language.{◌>>◌, ◌<$>◌, SpellsOne, nothing, whole, one, in_first, in_second, none_yet, some, present, either}
use Rattle.cx_grammar.specs.Exact.{Family}
use Rattle.cx_grammar.proofs.Lists.{no_front}
use Rattle.cx_grammar.proofs.Parts.{Elsewhere}

pub not_false : IsTrue false → ⊥
not_false h = cc

module _ {T A : Type 0} (f : T → Option A) where
  one_spells : (ts : List T) → ((t : T) (r : List T) (v : A) → ts ≡ t ∷ r → f t ≡ Some v → ⊥) → (t : T) (x y : List T) (w : A) → ts ≡ t ∷ (x ++ y) → SpellsOne f (t ∷ x) w → ⊥
  one_spells ts k t x y w e s = let alone = s.alone in let heads : s.token ≡ t = cc in k t (x ++ y) w e (ap f (sym heads) ∙ s.fits)

  pub elsewhere_one : (ts : List T) → ((t : T) (r : List T) (v : A) → ts ≡ t ∷ r → f t ≡ Some v → ⊥) → Elsewhere (λ n. one f) ts
  elsewhere_one ts k = record {
    empty = λ n w s. let alone = s.alone in cc;
    spells = λ n t x y w e s. one_spells ts k t x y w e s;
    begins = λ n t x y e b. elim b [ nothing none ↦ cc | whole v s ↦ one_spells ts k t x y v e s ];
  }

module _ {T A B : Type 0} (G : Family T A) (H : Family T B) (ts : List T) (o : Elsewhere G ts) where
  front_spelled : (n : ℕ) (t : T) (x y f k : List T) (w : A) → ts ≡ t ∷ (x ++ y) → t ∷ x ≡ f ++ k → (G n).spells f w → ⊥
  front_spelled n t x y [] k w e cut s = o.empty n w s
  front_spelled n t x y (u ∷ f) k w e cut s =
      let heads : u ≡ t = cc in let tails : x ≡ f ++ k = cc in let P : T → Type 0 = λ z. (G n).spells (z ∷ f) w in
      o.spells n t f (k ++ y) w (e ∙ ap (λ l. t ∷ l) (ap (λ l. l ++ y) tails ∙ append_assoc f k y)) (subst P heads s)

  pub elsewhere_both : Elsewhere (λ n. G n >> H n) ts
  elsewhere_both = record {
    empty = λ n w s. o.empty n w.0 (let none : s.front ≡ [] = no_front s.front s.back (sym s.cut) in let P : List T → Type 0 = λ l. (G n).spells l w.0 in subst P none s.first);
    spells = λ n t x y w e s. front_spelled n t x y s.front s.back w.0 e s.cut s.first;
    begins = λ n t x y e b. elim b [ in_first b1 ↦ o.begins n t x y e b1 | in_second f k w cut s bk ↦ front_spelled n t x y f k w e cut s ];
  }

pub elsewhere_as : {T A B : Type 0} (f : A → B) (G : Family T A) (ts : List T) → Elsewhere G ts → Elsewhere (λ n. f <$> G n) ts
elsewhere_as f G ts o = record {
  empty = λ n w s. o.empty n s.value s.part;
  spells = λ n t x y w e s. o.spells n t x y s.value e s.part;
  begins = λ n t x y e b. o.begins n t x y e b;
}

pub elsewhere_either : {T A : Type 0} (G H : Family T A) (ts : List T) → Elsewhere G ts → Elsewhere H ts → Elsewhere (λ n. either (G n) (H n)) ts
elsewhere_either G H ts g h = record {
  empty = λ n w s. elim s [ inl a ↦ g.empty n w a | inr b ↦ h.empty n w b ];
  spells = λ n t x y w e s. elim s [ inl a ↦ g.spells n t x y w e a | inr b ↦ h.spells n t x y w e b ];
  begins = λ n t x y e b. elim b [ inl a ↦ g.begins n t x y e a | inr b2 ↦ h.begins n t x y e b2 ];
}

pub elsewhere_present : {T A : Type 0} (G : Family T A) (ts : List T) → Elsewhere G ts → Elsewhere (λ n. present (G n)) ts
elsewhere_present G ts g = record {
  empty = g.empty;
  spells = g.spells;
  begins = λ n t x y e b. elim b [ none_yet none ↦ cc | some st b2 ↦ g.begins n t x y e b2 ];
}
