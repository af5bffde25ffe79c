-- Alternatives that begin with the same part.
use Rattle.std.proofs.Common.{◌≡◌, ℕ, Bool, true, false, ◌&&◌, ◌||◌, List, [], refl, sym, ◌∙◌, ap, subst, inl, inr, ◌⊎◌}
use Rattle.cx_grammar.specs.Language.{◌>>◌, ◌∥◌, in_first, in_second, none_yet, some, present}
use Rattle.cx_grammar.specs.Exact.{Family}
use Rattle.cx_grammar.proofs.Parts.{Same}

and_left : (b c : Bool) → (b && c) ≡ true → b ≡ true
and_left true c e = refl
and_left false c e = e

and_right : (b c : Bool) → (b && c) ≡ true → c ≡ true
and_right true c e = e
and_right false c e = cc

and_both : (b c : Bool) → b ≡ true → c ≡ true → (b && c) ≡ true
and_both b c e f = ap (λ v. v && c) e ∙ f

or_one : (b c : Bool) → (b || c) ≡ true → (b ≡ true) ⊎ (c ≡ true)
or_one true c e = inl refl
or_one false c e = inr e

or_first : (b c : Bool) → b ≡ true → (b || c) ≡ true
or_first true c e = refl
or_first false c e = cc

or_last : (b c : Bool) → c ≡ true → (b || c) ≡ true
or_last true c e = refl
or_last false c e = e

module _ {T A B : Type 0} (G : Family T A) (H K : Family T B) (blank_g : (n : ℕ) → (G n).begins []) (blank_h : (n : ℕ) → (H n).begins []) (blank_k : (n : ℕ) → (K n).begins []) where
  abbrev apart_lang : Family T (A × B)
  apart_lang n = (G n >> H n) ∥ (G n >> K n)

  abbrev joint_lang : Family T (A × B)
  joint_lang n = present (G n >> (H n ∥ K n))

  to_spells : (n : ℕ) (x : List T) (w : A × B) → (apart_lang n).spells x w → (joint_lang n).spells x w
  to_spells n x w (inl s) = record { front = s.front; back = s.back; cut = s.cut; first = s.first; second = inl s.second }
  to_spells n x w (inr s) = record { front = s.front; back = s.back; cut = s.cut; first = s.first; second = inr s.second }

  from_spells : (n : ℕ) (x : List T) (w : A × B) → (joint_lang n).spells x w → (apart_lang n).spells x w
  from_spells n x w s = elim s.second [ inl a ↦ inl (record { front = s.front; back = s.back; cut = s.cut; first = s.first; second = a }) | inr b ↦ inr (record { front = s.front; back = s.back; cut = s.cut; first = s.first; second = b }) ]

  to_begins : (n : ℕ) (x : List T) → (apart_lang n).begins x → (joint_lang n).begins x
  to_begins n x (inl (none_yet e)) = none_yet e
  to_begins n x (inr (none_yet e)) = none_yet e
  to_begins n x (inl (some st (in_first b))) = some (and_both (G n).stays ((H n).stays || (K n).stays) (and_left (G n).stays (H n).stays st) (or_first (H n).stays (K n).stays (and_right (G n).stays (H n).stays st))) (in_first b)
  to_begins n x (inl (some st (in_second f k v cut s b))) = some (and_both (G n).stays ((H n).stays || (K n).stays) (and_left (G n).stays (H n).stays st) (or_first (H n).stays (K n).stays (and_right (G n).stays (H n).stays st))) (in_second f k v cut s (inl (some (and_right (G n).stays (H n).stays st) b)))
  to_begins n x (inr (some st (in_first b))) = some (and_both (G n).stays ((H n).stays || (K n).stays) (and_left (G n).stays (K n).stays st) (or_last (H n).stays (K n).stays (and_right (G n).stays (K n).stays st))) (in_first b)
  to_begins n x (inr (some st (in_second f k v cut s b))) = some (and_both (G n).stays ((H n).stays || (K n).stays) (and_left (G n).stays (K n).stays st) (or_last (H n).stays (K n).stays (and_right (G n).stays (K n).stays st))) (in_second f k v cut s (inr (some (and_right (G n).stays (K n).stays st) b)))

  -- a front of the first part alone, or with nothing of the second, by whichever alternative is there
  by_either : (n : ℕ) (x : List T) → (G n).stays ≡ true → ((H n).stays ≡ true) ⊎ ((K n).stays ≡ true) → ((G n >> H n).begins x) × ((G n >> K n).begins x) → (apart_lang n).begins x
  by_either n x g (inl h) b = inl (some (and_both (G n).stays (H n).stays g h) b.0)
  by_either n x g (inr k) b = inr (some (and_both (G n).stays (K n).stays g k) b.1)

  from_begins : (n : ℕ) (x : List T) → (joint_lang n).begins x → (apart_lang n).begins x
  from_begins n x (none_yet e) = inl (none_yet e)
  from_begins n x (some st (in_first b)) = by_either n x (and_left (G n).stays ((H n).stays || (K n).stays) st) (or_one (H n).stays (K n).stays (and_right (G n).stays ((H n).stays || (K n).stays) st)) (in_first b, in_first b)
  from_begins n x (some st (in_second f k v cut s (inl (some h b)))) = inl (some (and_both (G n).stays (H n).stays (and_left (G n).stays ((H n).stays || (K n).stays) st) h) (in_second f k v cut s b))
  from_begins n x (some st (in_second f k v cut s (inr (some h b)))) = inr (some (and_both (G n).stays (K n).stays (and_left (G n).stays ((H n).stays || (K n).stays) st) h) (in_second f k v cut s b))
  from_begins n x (some st (in_second f k v cut s (inl (none_yet e)))) = by_either n x (and_left (G n).stays ((H n).stays || (K n).stays) st) (or_one (H n).stays (K n).stays (and_right (G n).stays ((H n).stays || (K n).stays) st))
      (in_second f k v cut s (subst (λ (l : List T). (H n).begins l) (sym e) (blank_h n)), in_second f k v cut s (subst (λ (l : List T). (K n).begins l) (sym e) (blank_k n)))
  from_begins n x (some st (in_second f k v cut s (inr (none_yet e)))) = by_either n x (and_left (G n).stays ((H n).stays || (K n).stays) st) (or_one (H n).stays (K n).stays (and_right (G n).stays ((H n).stays || (K n).stays) st))
      (in_second f k v cut s (subst (λ (l : List T). (H n).begins l) (sym e) (blank_h n)), in_second f k v cut s (subst (λ (l : List T). (K n).begins l) (sym e) (blank_k n)))

  -- `g h | g k` is `g (h | k)`
  pub either_both : Same apart_lang joint_lang
  either_both = record { spells = to_spells; spelled = from_spells; begins = to_begins; begun = from_begins }
