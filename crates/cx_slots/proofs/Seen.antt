-- Slots that are read or written, and what is seen of them.
use Rattle.std.proofs.Common.{◌≡◌, ℕ, zero, suc, ◌+◌, List, [], ◌∷◌, ◌++◌, length, refl, ap, ◌∙◌, arith, slice_get}
use Rattle.std.proofs.Math.ListN.{set}
use Rattle.std.specs.Prelude.{option_map}
use Rattle.cx_state.specs.Objects.{Path}
use Rattle.cx_layout.specs.declared.place.Place.{Place}
use Rattle.cx_slots.specs.declared.slot.SlotView.{SlotView}
use Rattle.cx_slots.specs.Slots.{slot_seen, slots_seen}

module _ (path : Place → Path) where
  pub seen_length : (l : List SlotView) → length (slots_seen path l) ≡ length l
  seen_length [] = refl
  seen_length (x ∷ l) = ap suc (seen_length l)

  pub seen_set : (l : List SlotView) (i : ℕ) (y : SlotView) → slots_seen path (set l i y) ≡ set (slots_seen path l) i (slot_seen path y)
  seen_set [] i y = refl
  seen_set (x ∷ l) zero y = refl
  seen_set (x ∷ l) (suc i) y = ap (λ k. slot_seen path x ∷ k) (seen_set l i y)

  pub seen_get : (l : List SlotView) (i : ℕ) → slice_get (slots_seen path l) i ≡ option_map (slot_seen path) (slice_get l i)
  seen_get [] i = refl
  seen_get (x ∷ l) zero = refl
  seen_get (x ∷ l) (suc i) = seen_get l i

-- the slots of a part are among those of the whole
pub slot_in : {A : Type 0} (front inner back : List A) (n k : ℕ) → length front ≡ n → slice_get (front ++ (inner ++ back)) (n + k) ≡ slice_get (inner ++ back) k
slot_in [] inner back n k h = let w : n + k ≡ k = (let v : 0 ≡ n = h in omega arith) in ap (slice_get (inner ++ back)) w
slot_in (x ∷ front) inner back zero k h = absurd (cc)
slot_in (x ∷ front) inner back (suc n) k h =
    let w : suc n + k ≡ suc (n + k) = omega arith in
    let v : length front ≡ n = cc in
    ap (slice_get (x ∷ (front ++ (inner ++ back)))) w ∙ slot_in front inner back n k v

-- the first of them
pub slot_first : {A : Type 0} (front inner back : List A) (n : ℕ) → length front ≡ n → slice_get (front ++ (inner ++ back)) n ≡ slice_get (inner ++ back) 0
slot_first front inner back n h = let w : n ≡ n + 0 = omega arith in ap (slice_get (front ++ (inner ++ back))) w ∙ slot_in front inner back n 0 h
