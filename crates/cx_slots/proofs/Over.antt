-- Lists written over others.
use Rattle.std.proofs.Common.{◌≡◌, ℕ, zero, suc, ◌+◌, List, [], ◌∷◌, ◌++◌, length, refl, sym, ap, ◌∙◌, arith}
use Rattle.std.proofs.Math.ListN.{set}
use Rattle.cx_slots.specs.Fresh.{cover, over}

cover_none : {A : Type 0} (l : List A) → cover l [] ≡ l
cover_none [] = refl
cover_none (x ∷ l) = refl

cover_length : {A : Type 0} (l m : List A) → length (cover l m) ≡ length l
cover_length [] [] = refl
cover_length (x ∷ l) [] = refl
cover_length [] (y ∷ m) = refl
cover_length (x ∷ l) (y ∷ m) = ap suc (cover_length l m)

pub over_length : {A : Type 0} (l : List A) (a : ℕ) (m : List A) → length (over l a m) ≡ length l
over_length l zero m = cover_length l m
over_length [] (suc a) m = refl
over_length (x ∷ l) (suc a) m = ap suc (over_length l a m)

pub over_none : {A : Type 0} (l : List A) (a : ℕ) → over l a [] ≡ l
over_none l zero = cover_none l
over_none [] (suc a) = refl
over_none (x ∷ l) (suc a) = ap (λ k. x ∷ k) (over_none l a)

cover_twice : {A : Type 0} (l m k : List A) → over (cover l m) (length m) k ≡ cover l (m ++ k)
cover_twice [] [] k = refl
cover_twice (x ∷ l) [] k = refl
cover_twice [] (y ∷ m) k = refl
cover_twice (x ∷ l) (y ∷ m) k = ap (λ t. y ∷ t) (cover_twice l m k)

over_twice_at : {A : Type 0} (l : List A) (a : ℕ) (m k : List A) → over (over l a m) (a + length m) k ≡ over l a (m ++ k)
over_twice_at l zero m k = let w : 0 + length m ≡ length m = omega arith in ap (λ n. over (cover l m) n k) w ∙ cover_twice l m k
over_twice_at [] (suc a) m k = let w : suc a + length m ≡ suc (a + length m) = omega arith in ap (λ n. over [] n k) w
over_twice_at (x ∷ l) (suc a) m k =
    let w : suc a + length m ≡ suc (a + length m) = omega arith in
    ap (λ n. over (x ∷ over l a m) n k) w ∙ ap (λ t. x ∷ t) (over_twice_at l a m k)

-- one after the other
pub over_twice : {A : Type 0} (l : List A) (a b : ℕ) (m k : List A) → b ≡ a + length m → over (over l a m) b k ≡ over l a (m ++ k)
over_twice l a b m k e = ap (λ n. over (over l a m) n k) e ∙ over_twice_at l a m k

pub set_over : {A : Type 0} (l : List A) (a : ℕ) (y : A) → set l a y ≡ over l a (y ∷ [])
set_over [] zero y = refl
set_over [] (suc a) y = refl
set_over (x ∷ l) zero y = ap (λ k. y ∷ k) (sym (cover_none l))
set_over (x ∷ l) (suc a) y = ap (λ k. x ∷ k) (set_over l a y)

cover_all : {A : Type 0} (i m b : List A) → length i ≡ length m → cover (i ++ b) m ≡ m ++ b
cover_all [] [] b e = cover_none b
cover_all [] (y ∷ m) b e = absurd (cc)
cover_all (x ∷ i) [] b e = absurd (cc)
cover_all (x ∷ i) (y ∷ m) b e = ap (λ k. y ∷ k) (cover_all i m b (cc))

-- a part written over
pub over_part : {A : Type 0} (f i m b : List A) (a : ℕ) → length f ≡ a → length i ≡ length m → over (f ++ (i ++ b)) a m ≡ f ++ (m ++ b)
over_part [] i m b zero e h = cover_all i m b h
over_part [] i m b (suc a) e h = absurd (cc)
over_part (x ∷ f) i m b zero e h = absurd (cc)
over_part (x ∷ f) i m b (suc a) e h = ap (λ k. x ∷ k) (over_part f i m b a (cc) h)

-- all of it
pub over_whole : {A : Type 0} (l m : List A) → length l ≡ length m → over l 0 m ≡ m
over_whole [] [] e = refl
over_whole [] (y ∷ m) e = absurd (cc)
over_whole (x ∷ l) [] e = absurd (cc)
over_whole (x ∷ l) (y ∷ m) e = ap (λ k. y ∷ k) (over_whole l m (cc))
