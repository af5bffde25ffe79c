-- A language all of whose fronts and spellings are those of another goes no further than that one, whatever the values are.
use Rattle.std.proofs.Common.{◌≡◌, ℕ, Bool, List, ◌++◌, Option, refl, sym, ◌∙◌, ap, subst, inl, inr, append_assoc}
use Rattle.cx_grammar.specs.Language.{◌>>◌, ◌<$>◌, ◌∥◌, maybe, such, measured, in_first, in_second, none_yet, some}
use Rattle.cx_grammar.specs.Exact.{Family, Within}
use Rattle.cx_grammar.proofs.Unless.{within_trans}
use Rattle.cx_syntax.proofs.Fronts.{Never, none_front}

pub record Under {T A B : Type 0} (K : Family T A) (L : Family T B) : Type 0 where
  pub spells : (n : ℕ) (x : List T) (w : A) → (K n).spells x w → (v : B) × (L n).spells x v
  pub begins : (n : ℕ) (x : List T) → (K n).begins x → (L n).begins x

pub never_under : {T A B : Type 0} {K : Family T A} {L : Family T B} {ts used : List T} → Under K L → Never L ts used → Never K ts used
never_under u s = record { only = λ n x y w e z. let v = u.spells n x w z in s.only n x y v.0 e v.1; ends = λ n x y e b. s.ends n x y e (u.begins n x b) }

pub under_refl : {T A : Type 0} (L : Family T A) → Under L L
under_refl L = record { spells = λ n x w s. (w, s); begins = λ n x b. b }

pub under_trans : {T A B C : Type 0} {J : Family T A} {K : Family T B} {L : Family T C} → Under J K → Under K L → Under J L
under_trans u v = record { spells = λ n x w s. let a = u.spells n x w s in v.spells n x a.0 a.1; begins = λ n x b. v.begins n x (u.begins n x b) }

pub under_as : {T A B C : Type 0} {K : Family T A} {L : Family T B} (f : A → C) → Under K L → Under (λ n. f <$> K n) L
under_as f u = record { spells = λ n x w s. u.spells n x s.value s.part; begins = u.begins }

pub under_measured : {T A B M : Type 0} {K : Family T A} {L : Family T B} (f : List T → M) → Under K L → Under (λ n. measured f (K n)) L
under_measured f u = record { spells = λ n x w s. u.spells n x w.0 s.part; begins = u.begins }

-- in a sequence
pub under_both : {T A B C D : Type 0} {G : Family T A} {Gs : Family T B} {H : Family T C} {Hs : Family T D} → Under G Gs → Under H Hs → Under (λ n. G n >> H n) (λ n. Gs n >> Hs n)
under_both u v = record {
  spells = λ n x w s. let a = u.spells n s.front w.0 s.first in let b = v.spells n s.back w.1 s.second in ((a.0, b.0), record { front = s.front; back = s.back; cut = s.cut; first = a.1; second = b.1 });
  begins = λ n x b. elim b [ in_first c ↦ in_first (u.begins n x c) | in_second f k w cut s c ↦ let a = u.spells n f w s in in_second f k a.0 cut a.1 (v.begins n k c) ];
}

-- three parts
module _ {T A B C : Type 0} (G : Family T A) (H : Family T B) (K : Family T C) where
  three_spelled : (n : ℕ) (x : List T) (w : A × (B × C)) → (G n >> (H n >> K n)).spells x w → (v : (A × B) × C) × ((G n >> H n) >> K n).spells x v
  three_spelled n x w s = let b = s.second in (
    ((w.0, w.1.0), w.1.1),
    record {
      front = s.front ++ b.front;
      back = b.back;
      cut = s.cut ∙ (ap (λ l. s.front ++ l) b.cut ∙ sym (append_assoc s.front b.front b.back));
      first = record { front = s.front; back = b.front; cut = refl; first = s.first; second = b.first };
      second = b.second;
    },
  )

  three_begun : (n : ℕ) (x : List T) → (G n >> (H n >> K n)).begins x → ((G n >> H n) >> K n).begins x
  three_begun n x (in_first b) = in_first (in_first b)
  three_begun n x (in_second f k v cut s (in_first b)) = in_first (in_second f k v cut s b)
  three_begun n x (in_second f k v cut s (in_second f2 k2 w cut2 z b)) = in_second (f ++ f2) k2 (v, w) (cut ∙ (ap (λ l. f ++ l) cut2 ∙ sym (append_assoc f f2 k2)))
      (record { front = f; back = f2; cut = refl; first = s; second = z }) b

  pub under_three : Under (λ n. G n >> (H n >> K n)) (λ n. (G n >> H n) >> K n)
  under_three = record { spells = three_spelled; begins = three_begun }

-- longer fronts
pub never_more : {T A : Type 0} {L : Family T A} {ts used more : List T} → Within more used → Never L ts used → Never L ts more
never_more {used = used} {more = more} w s = record { only = s.only; ends = λ n x y e b. within_trans more used x w (s.ends n x y e b) }

pub under_such : {T A B : Type 0} {K : Family T A} {L : Family T B} (p : A → Bool) → Under K L → Under (λ n. such p (K n)) L
under_such p u = record { spells = λ n x w s. u.spells n x w s.part; begins = u.begins }

-- a value is made of what another spells
pub under_into : {T A B : Type 0} (f : A → B) (L : Family T A) → Under L (λ n. f <$> L n)
under_into f L = record { spells = λ n x w s. (f w, record { value = w; made = refl; part = s }); begins = λ n x b. b }

module _ {T A B C : Type 0} (G : Family T A) (H : Family T B) (K : Family T C) where
  after_spelled : (n : ℕ) (x : List T) (w : (A × B) × C) → ((G n >> H n) >> K n).spells x w → (v : A × (B × C)) × (G n >> (H n >> K n)).spells x v
  after_spelled n x w s = let a = s.first in (
    (w.0.0, (w.0.1, w.1)),
    record {
      front = a.front;
      back = a.back ++ s.back;
      cut = s.cut ∙ (ap (λ l. l ++ s.back) a.cut ∙ append_assoc a.front a.back s.back);
      first = a.first;
      second = record { front = a.back; back = s.back; cut = refl; first = a.second; second = s.second };
    },
  )

  after_begun : (n : ℕ) (x : List T) → ((G n >> H n) >> K n).begins x → (G n >> (H n >> K n)).begins x
  after_begun n x (in_first (in_first b)) = in_first b
  after_begun n x (in_first (in_second f k v cut s b)) = in_second f k v cut s (in_first b)
  after_begun n x (in_second f k v cut s b) = in_second s.front (s.back ++ k) v.0 (cut ∙ (ap (λ l. l ++ k) s.cut ∙ append_assoc s.front s.back k)) s.first (in_second s.back k v.1 refl s.second b)

  pub under_after : Under (λ n. (G n >> H n) >> K n) (λ n. G n >> (H n >> K n))
  under_after = record { spells = after_spelled; begins = after_begun }

-- a first part that may be left out, and one that is one of two
module _ {T A B : Type 0} {P : Family T A} {G : Family T B} {ts used : List T} where
  left_out : (g : Never G ts used) (p : Never (λ n. P n >> G n) ts used) (n : ℕ) (x y : List T) (w : Option A × B) → ts ≡ x ++ y → (maybe (P n) >> G n).spells x w → ⊥
  left_out g p n x y w e s = elim s.first [
    | inl a ↦ let same_part = s.cut ∙ ap (λ l. l ++ s.back) a.part in g.only n x y w.1 e (let Q : List T → Type 0 = λ l. (G n).spells l w.1 in subst Q (sym same_part) s.second)
    | inr a ↦ p.only n x y (a.value, w.1) e (record { front = s.front; back = s.back; cut = s.cut; first = a.part; second = s.second })
  ]

  left_begun : (g : Never G ts used) (p : Never (λ n. P n >> G n) ts used) (n : ℕ) (x y : List T) → ts ≡ x ++ y → (maybe (P n) >> G n).begins x → Within used x
  left_begun g p n x y e (in_first (inl none)) = none_front used x none
  left_begun g p n x y e (in_first (inr (none_yet none))) = none_front used x none
  left_begun g p n x y e (in_first (inr (some st b))) = p.ends n x y e (in_first b)
  left_begun g p n x y e (in_second f k v cut (inl a) b) = let same_part = cut ∙ ap (λ l. l ++ k) a.part in g.ends n x y e (let Q : List T → Type 0 = λ l. (G n).begins l in subst Q (sym same_part) b)
  left_begun g p n x y e (in_second f k v cut (inr a) b) = p.ends n x y e (in_second f k a.value cut a.part b)

  pub never_perhaps : Never G ts used → Never (λ n. P n >> G n) ts used → Never (λ n. maybe (P n) >> G n) ts used
  never_perhaps g p = record { only = left_out g p; ends = left_begun g p }

module _ {T A B : Type 0} {G H : Family T A} {K : Family T B} {ts used : List T} where
  or_only : (g : Never (λ n. G n >> K n) ts used) (h : Never (λ n. H n >> K n) ts used) (n : ℕ) (x y : List T) (w : A × B) → ts ≡ x ++ y → ((G n ∥ H n) >> K n).spells x w → ⊥
  or_only g h n x y w e s = elim s.first [
    | inl a ↦ g.only n x y w e (record { front = s.front; back = s.back; cut = s.cut; first = a; second = s.second })
    | inr a ↦ h.only n x y w e (record { front = s.front; back = s.back; cut = s.cut; first = a; second = s.second })
  ]

  or_begun : (g : Never (λ n. G n >> K n) ts used) (h : Never (λ n. H n >> K n) ts used) (n : ℕ) (x y : List T) → ts ≡ x ++ y → ((G n ∥ H n) >> K n).begins x → Within used x
  or_begun g h n x y e (in_first (inl (none_yet none))) = none_front used x none
  or_begun g h n x y e (in_first (inr (none_yet none))) = none_front used x none
  or_begun g h n x y e (in_first (inl (some st b))) = g.ends n x y e (in_first b)
  or_begun g h n x y e (in_first (inr (some st b))) = h.ends n x y e (in_first b)
  or_begun g h n x y e (in_second f k v cut (inl a) b) = g.ends n x y e (in_second f k v cut a b)
  or_begun g h n x y e (in_second f k v cut (inr a) b) = h.ends n x y e (in_second f k v cut a b)

  pub never_or : Never (λ n. G n >> K n) ts used → Never (λ n. H n >> K n) ts used → Never (λ n. (G n ∥ H n) >> K n) ts used
  never_or g h = record { only = or_only g h; ends = or_begun g h }
