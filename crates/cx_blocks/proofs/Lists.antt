-- Lists that are mapped, read, cut, and changed at one place.
use Rattle.std.proofs.Common.{◌≡◌, ℕ, zero, suc, ◌+◌, ◌-◌, ◌<◌, ◌≤◌, List, [], ◌∷◌, ◌++◌, length, map, take, sum, Option, None, Some, ◌⊎◌, inl, inr, refl, sym, ap, subst, ◌∙◌, slice_get, slice_set, get_or, arith}
use Rattle.std.specs.Prelude.{option_map}
use Rattle.cx_type_defs.proofs.Lists.{some_inj}
use Rattle.cx_type_defs.specs.Tables.{changed_at}
use Rattle.cx_types.proofs.Totals.{sum-cons}

pub get_map : {A B : Type 0} (f : A → B) (xs : List A) (i : ℕ) → slice_get (map f xs) i ≡ option_map f (slice_get xs i)
get_map f [] i = refl
get_map f (x ∷ xs) zero = refl
get_map f (x ∷ xs) (suc i) = get_map f xs i

pub length_map : {A B : Type 0} (f : A → B) (xs : List A) → length (map f xs) ≡ length xs
length_map f [] = refl
length_map f (x ∷ xs) = ap suc (length_map f xs)

pub get_at : {A : Type 0} (xs : List A) (i : ℕ) → i < length xs → (x : A) × (slice_get xs i ≡ Some x)
get_at [] i h = absurd (omega arith)
get_at (x ∷ xs) zero h = (x, refl)
get_at (x ∷ xs) (suc i) h = get_at xs i (omega arith)

pub get_within : {A : Type 0} (xs : List A) (i : ℕ) (x : A) → slice_get xs i ≡ Some x → i < length xs
get_within [] i x e = absurd (cc)
get_within (a ∷ xs) zero x e = omega arith
get_within (a ∷ xs) (suc i) x e = omega (arith, get_within xs i x e)

pub get_or_is : {A : Type 0} (xs : List A) (n : ℕ) (x d : A) → slice_get xs n ≡ Some x → get_or xs n d ≡ x
get_or_is [] n x d e = absurd (cc)
get_or_is (a ∷ xs) zero x d e = some_inj a x e
get_or_is (a ∷ xs) (suc n) x d e = get_or_is xs n x d e

-- the item that an index lends
pub lent : {A : Type 0} (xs : List A) (n : ℕ) (y : A) → n < length xs → y ≡ get_or xs n y → slice_get xs n ≡ Some y
lent xs n y l h = let x = get_at xs n l in x.1 ∙ ap Some (sym (h ∙ get_or_is xs n x.0 y x.1))

pub map_set : {A B : Type 0} (f : A → B) (xs : List A) (n : ℕ) (y : A) → map f (slice_set xs n y) ≡ slice_set (map f xs) n (f y)
map_set f [] n y = refl
map_set f (x ∷ xs) zero y = refl
map_set f (x ∷ xs) (suc n) y = ap (λ l. f x ∷ l) (map_set f xs n y)

pub set_still : {A : Type 0} (xs : List A) (n : ℕ) (x : A) → slice_get xs n ≡ Some x → slice_set xs n x ≡ xs
set_still [] n x e = absurd (cc)
set_still (a ∷ xs) zero x e = ap (λ y. y ∷ xs) (sym (some_inj a x e))
set_still (a ∷ xs) (suc n) x e = ap (λ l. a ∷ l) (set_still xs n x e)

pub set_changed : {A : Type 0} (h : A → A) (xs : List A) (n : ℕ) (x : A) → slice_get xs n ≡ Some x → slice_set xs n (h x) ≡ changed_at h xs n
set_changed h [] n x e = absurd (cc)
set_changed h (a ∷ xs) zero x e = ap (λ y. h y ∷ xs) (sym (some_inj a x e))
set_changed h (a ∷ xs) (suc n) x e = ap (λ l. a ∷ l) (set_changed h xs n x e)

pub get_set : {A : Type 0} (xs : List A) (n : ℕ) (y : A) (m : ℕ) (z : A) → slice_get (slice_set xs n y) m ≡ Some z → ((m ≡ n) × (z ≡ y)) ⊎ (slice_get xs m ≡ Some z)
get_set [] n y m z e = absurd (cc)
get_set (x ∷ xs) zero y zero z e = inl (refl, sym (some_inj y z e))
get_set (x ∷ xs) zero y (suc m) z e = inr e
get_set (x ∷ xs) (suc n) y zero z e = inr e
get_set (x ∷ xs) (suc n) y (suc m) z e = elim (get_set xs n y m z e) as (λ _. ((suc m ≡ suc n) × (z ≡ y)) ⊎ (slice_get xs m ≡ Some z)) [ inl h ↦ inl (ap suc h.0, h.1) | inr h ↦ inr h ]

pub get_take : {A : Type 0} (xs : List A) (m n : ℕ) → n < m → slice_get (take m xs) n ≡ slice_get xs n
get_take [] zero n l = absurd (omega arith)
get_take [] (suc m) n l = refl
get_take (x ∷ xs) zero n l = absurd (omega arith)
get_take (x ∷ xs) (suc m) zero l = refl
get_take (x ∷ xs) (suc m) (suc n) l = get_take xs m n (omega arith)

pub take_within : {A : Type 0} (xs : List A) (m n : ℕ) (x : A) → slice_get (take m xs) n ≡ Some x → n < m
take_within [] zero n x e = absurd (cc)
take_within [] (suc m) n x e = absurd (cc)
take_within (a ∷ xs) zero n x e = absurd (cc)
take_within (a ∷ xs) (suc m) zero x e = omega arith
take_within (a ∷ xs) (suc m) (suc n) x e = omega (arith, take_within xs m n x e)

pub map_take : {A B : Type 0} (f : A → B) (m : ℕ) (xs : List A) → map f (take m xs) ≡ take m (map f xs)
map_take f zero [] = refl
map_take f zero (x ∷ xs) = refl
map_take f (suc m) [] = refl
map_take f (suc m) (x ∷ xs) = ap (λ l. f x ∷ l) (map_take f m xs)

pub map_more : {A B : Type 0} (f : A → B) (xs ys : List A) → map f (xs ++ ys) ≡ map f xs ++ map f ys
map_more f [] ys = refl
map_more f (x ∷ xs) ys = ap (λ l. f x ∷ l) (map_more f xs ys)

pub map_same : {A B : Type 0} (f g : A → B) (xs : List A) → ((n : ℕ) (x : A) → slice_get xs n ≡ Some x → f x ≡ g x) → map f xs ≡ map g xs
map_same f g [] h = refl
map_same f g (x ∷ xs) h = ap (λ y. y ∷ map f xs) (h 0 x refl) ∙ ap (λ l. g x ∷ l) (map_same f g xs (λ n y e. h (suc n) y e))

pub sum_take : (m : ℕ) (xs : List ℕ) → sum (take m xs) ≤ sum xs
sum_take zero [] = omega arith
sum_take zero (x ∷ xs) = omega arith
sum_take (suc m) [] = omega arith
sum_take (suc m) (x ∷ xs) = let a = sum-cons x (take m xs) in let b = sum-cons x xs in let c = sum_take m xs in omega arith

pub sum_less : (xs : List ℕ) (n x : ℕ) → slice_get xs n ≡ Some x → sum (slice_set xs n 0) ≡ sum xs - x
sum_less xs n x e = let w = go xs n x e in omega arith
  where
    go : (xs : List ℕ) (n x : ℕ) → slice_get xs n ≡ Some x → sum (slice_set xs n 0) + x ≡ sum xs
    go [] n x e = absurd (cc)
    go (a ∷ xs) zero x e = let w : a ≡ x = some_inj a x e in let u = sum-cons a xs in let v = sum-cons 0 xs in omega arith
    go (a ∷ xs) (suc n) x e = let w = go xs n x e in let u = sum-cons a xs in let v = sum-cons a (slice_set xs n 0) in omega arith

-- the item that an index lends is the one that was read
pub same_lent : {A : Type 0} (xs : List A) (n : ℕ) (x y : A) → slice_get xs n ≡ Some x → y ≡ get_or xs n y → (slice_get xs n ≡ Some y) × (x ≡ y)
same_lent xs n x y e h = let z = lent xs n y (get_within xs n x e) h in (z, some_inj x y (sym e ∙ z))

pub take_front : {A : Type 0} (xs ys : List A) (n : ℕ) → n ≡ length xs → take n (xs ++ ys) ≡ xs
take_front [] [] zero e = refl
take_front [] (y ∷ ys) zero e = refl
take_front [] ys (suc n) e = absurd (cc)
take_front (x ∷ xs) ys zero e = absurd (cc)
take_front (x ∷ xs) ys (suc n) e = ap (λ l. x ∷ l) (take_front xs ys n (cc))
