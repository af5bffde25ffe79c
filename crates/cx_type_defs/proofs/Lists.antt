-- Lemmas on options, on lists item by item, and on lists along which each item stays or grows.
use Rattle.std.specs.Cmp.{IsEquivalence}
use Rattle.std.specs.List.{IsDistinct, AllByRecursion}
use Rattle.std.proofs.Common.{◌≡◌, ℕ, zero, suc, ◌<◌, ◌≤◌, Bool, true, false, true≢false, List, [], ◌∷◌, ◌++◌, length, set, Option, None, Some, ◌⊎◌, inl, inr, refl, sym, ap, subst, ◌∙◌, slice_get, get_or, arith}
use Rattle.std.specs.Prelude.{option_map, option_and_then, is_some, IsSome}
use Rattle.cx_type_defs.specs.Tables.{Along, changed_at}
use Rattle.cx_type_defs.specs.Questions.{From, Always, By, given, both, each, joined}

pub some_inj : {A : Type 0} (a b : A) → Some a ≡ Some b → a ≡ b
some_inj a b e = cc

pub option_and_then-some : {A B : Type 0} (f : A → Option B) (o : Option A) (b : B) → option_and_then f o ≡ Some b → (a : A) × (o ≡ Some a) × (f a ≡ Some b)
option_and_then-some f None b e = absurd (cc)
option_and_then-some f (Some a) b e = (a, refl, e)

pub option_map-some : {A B : Type 0} (f : A → B) (o : Option A) (b : B) → option_map f o ≡ Some b → (a : A) × (o ≡ Some a) × (f a ≡ b)
option_map-some f None b e = absurd (cc)
option_map-some f (Some a) b e = (a, refl, some_inj (f a) b e)

pub both-some : {R : Type 0} (a : Option R) (b : Option (List R)) (rs : List R) → both a b ≡ Some rs → (x : R) × (xs : List R) × (a ≡ Some x) × (b ≡ Some xs) × (x ∷ xs ≡ rs)
both-some (Some x) (Some xs) rs e = (x, xs, refl, refl, some_inj (x ∷ xs) rs e)
both-some (Some x) None rs e = absurd (cc)
both-some None (Some xs) rs e = absurd (cc)
both-some None None rs e = absurd (cc)

pub joined-some : {R : Type 0} (f : List R → List R → R) (a b : Option (List R)) (r : R) → joined f a b ≡ Some r → (xs : List R) × (ys : List R) × (a ≡ Some xs) × (b ≡ Some ys) × (f xs ys ≡ r)
joined-some f (Some xs) (Some ys) r e = (xs, ys, refl, refl, some_inj (f xs ys) r e)
joined-some f (Some xs) None r e = absurd (cc)
joined-some f None (Some ys) r e = absurd (cc)
joined-some f None None r e = absurd (cc)

pub option_value : {A : Type 0} (o : Option A) → IsSome o → (x : A) × (o ≡ Some x)
option_value None h = absurd (cc)
option_value (Some x) h = (x, refl)

pub some-is : {A : Type 0} (o : Option A) (x : A) → o ≡ Some x → IsSome o
some-is o x e = ap is_some e

-- what is answered by f is answered so by g
pub record Keeps {A R : Type 0} (f g : A → Option R) : Type 0 where
  pub keep : (x : A) (r : R) → f x ≡ Some r → g x ≡ Some r

pub each-keeps : {A R : Type 0} (f g : A → Option R) → Keeps f g → (xs : List A) (rs : List R) → each f xs ≡ Some rs → each g xs ≡ Some rs
each-keeps f g h [] rs e = e
each-keeps f g h (x ∷ xs) rs e =
    let i = both-some (f x) (each f xs) rs e in
    let a : g x ≡ Some i.0 = h.keep x i.0 i.2 in
    let b : each g xs ≡ Some i.1 = each-keeps f g h xs i.1 i.3 in
    ap (λ o. both o (each g xs)) a ∙ ap (λ o. both (Some i.0) o) b ∙ ap Some i.4

pub each-at : {A R : Type 0} (f : A → Option R) (xs : List A) (rs : List R) → each f xs ≡ Some rs → (i : ℕ) (x : A) → slice_get xs i ≡ Some x → (r : R) × (f x ≡ Some r)
each-at f [] rs e i x at = absurd (cc)
each-at {A} {R} f (y ∷ ys) rs e zero x at =
    let i = both-some (f y) (each f ys) rs e in
    subst (λ (z : A). (r : R) × (f z ≡ Some r)) (some_inj y x at) (i.0, i.2)
each-at f (y ∷ ys) rs e (suc k) x at = let i = both-some (f y) (each f ys) rs e in each-at f ys i.1 i.3 k x at

pub given-keeps : {A R : Type 0} (m : From A R) (a b : Option A) → ((x : A) → a ≡ Some x → b ≡ Some x) → (r : R) → given m a ≡ Some r → given m b ≡ Some r
given-keeps (Always x) a b h r e = e
given-keeps (By f) a b h r e = let i = option_map-some f a r e in ap (option_map f) (h i.0 i.1) ∙ ap Some i.2

-- Along

module _ {A : Type 0} (R : A → A → Type 0) where
  pub Along-at : (xs ys : List A) → Along R xs ys → (i : ℕ) (x : A) → slice_get xs i ≡ Some x → (y : A) × (slice_get ys i ≡ Some y) × R x y
  Along-at [] ys g i x e = absurd (cc)
  Along-at (a ∷ xs) [] g i x e = absurd g
  Along-at (a ∷ xs) (b ∷ ys) g zero x e = (b, refl, subst (λ z. R z b) (some_inj a x e) g.0)
  Along-at (a ∷ xs) (b ∷ ys) g (suc i) x e = Along-at xs ys g.1 i x e

  pub Along-same : ((x : A) → R x x) → (xs : List A) → Along R xs xs
  Along-same same [] = tt
  Along-same same (x ∷ xs) = (same x, Along-same same xs)

  pub Along-more : ((x : A) → R x x) → (xs ys : List A) → Along R xs (xs ++ ys)
  Along-more same [] ys = tt
  Along-more same (x ∷ xs) ys = (same x, Along-more same xs ys)

  pub Along-then : ((x y z : A) → R x y → R y z → R x z) → (xs ys zs : List A) → Along R xs ys → Along R ys zs → Along R xs zs
  Along-then trans [] ys zs g h = tt
  Along-then trans (x ∷ xs) [] zs g h = absurd g
  Along-then trans (x ∷ xs) (y ∷ ys) [] g h = absurd h
  Along-then trans (x ∷ xs) (y ∷ ys) (z ∷ zs) g h = (trans x y z g.0 h.0, Along-then trans xs ys zs g.1 h.1)

  pub Along-set : ((x : A) → R x x) → (xs : List A) (i : ℕ) (x y : A) → slice_get xs i ≡ Some x → R x y → Along R xs (set xs i y)
  Along-set same [] i x y e r = tt
  Along-set same (a ∷ xs) zero x y e r = (subst (λ z. R z y) (sym (some_inj a x e)) r, Along-same same xs)
  Along-set same (a ∷ xs) (suc i) x y e r = (same a, Along-set same xs i x y e r)

  pub Along-length : (xs ys : List A) → Along R xs ys → length xs ≤ length ys
  Along-length [] ys g = omega arith
  Along-length (x ∷ xs) [] g = absurd g
  Along-length (x ∷ xs) (y ∷ ys) g = omega (arith, Along-length xs ys g.1)

-- items by their place

pub slice_get-within : {A : Type 0} (xs : List A) (i : ℕ) → i < length xs → (x : A) × (slice_get xs i ≡ Some x)
slice_get-within [] i h = absurd (omega arith)
slice_get-within (x ∷ xs) zero h = (x, refl)
slice_get-within (x ∷ xs) (suc i) h = slice_get-within xs i (omega arith)

pub within-slice_get : {A : Type 0} (xs : List A) (i : ℕ) (x : A) → slice_get xs i ≡ Some x → i < length xs
within-slice_get [] i x e = absurd (cc)
within-slice_get (y ∷ ys) zero x e = omega arith
within-slice_get (y ∷ ys) (suc i) x e = omega (arith, within-slice_get ys i x e)

pub slice_get-more : {A : Type 0} (xs ys : List A) (i : ℕ) (x : A) → slice_get xs i ≡ Some x → slice_get (xs ++ ys) i ≡ Some x
slice_get-more [] ys i x e = absurd (cc)
slice_get-more (a ∷ xs) ys zero x e = e
slice_get-more (a ∷ xs) ys (suc i) x e = slice_get-more xs ys i x e

pub slice_get-last : {A : Type 0} (xs : List A) (y : A) → slice_get (xs ++ y ∷ []) (length xs) ≡ Some y
slice_get-last [] y = refl
slice_get-last (x ∷ xs) y = slice_get-last xs y

-- an item of a list that got one more is an item of the list, or the new one
pub slice_get-push : {A : Type 0} (xs : List A) (y : A) (i : ℕ) (x : A) → slice_get (xs ++ y ∷ []) i ≡ Some x → (slice_get xs i ≡ Some x) ⊎ ((i ≡ length xs) × (x ≡ y))
slice_get-push [] y zero x e = inr (refl, sym (some_inj y x e))
slice_get-push [] y (suc i) x e = absurd (cc)
slice_get-push (a ∷ xs) y zero x e = inl e
slice_get-push (a ∷ xs) y (suc i) x e =
    elim (slice_get-push xs y i x e) as (λ _. (slice_get xs i ≡ Some x) ⊎ ((suc i ≡ suc (length xs)) × (x ≡ y))) [ inl h ↦ inl h | inr h ↦ inr (ap suc h.0, h.1) ]

pub slice_get-set_same : {A : Type 0} (xs : List A) (i : ℕ) (x y : A) → slice_get xs i ≡ Some x → slice_get (set xs i y) i ≡ Some y
slice_get-set_same [] i x y e = absurd (cc)
slice_get-set_same (a ∷ xs) zero x y e = refl
slice_get-set_same (a ∷ xs) (suc i) x y e = slice_get-set_same xs i x y e

-- an item of a list in which one was replaced is the new one, or stood there
pub slice_get-set : {A : Type 0} (xs : List A) (k : ℕ) (y : A) (i : ℕ) (x : A) → slice_get (set xs k y) i ≡ Some x → ((i ≡ k) × (x ≡ y)) ⊎ ((i ≡ k → ⊥) × (slice_get xs i ≡ Some x))
slice_get-set [] k y i x e = absurd (cc)
slice_get-set (a ∷ xs) zero y zero x e = inl (refl, sym (some_inj y x e))
slice_get-set (a ∷ xs) zero y (suc i) x e = inr ((λ z. omega arith), e)
slice_get-set (a ∷ xs) (suc k) y zero x e = inr ((λ z. omega arith), e)
slice_get-set (a ∷ xs) (suc k) y (suc i) x e =
    elim (slice_get-set xs k y i x e) as (λ _. ((suc i ≡ suc k) × (x ≡ y)) ⊎ ((suc i ≡ suc k → ⊥) × (slice_get xs i ≡ Some x)))
    [ inl h ↦ inl (ap suc h.0, h.1) | inr h ↦ inr ((λ z. let w : i ≡ k = omega arith in h.0 w), h.1) ]

-- a list of distinct items has each at one place

pub All-at : {A : Type 0} (P : A → Type 0) (xs : List A) → AllByRecursion P xs → (i : ℕ) (x : A) → slice_get xs i ≡ Some x → P x
All-at P [] h i x e = absurd (cc)
All-at P (a ∷ xs) h zero x e = subst P (some_inj a x e) h.0
All-at P (a ∷ xs) h (suc i) x e = All-at P xs h.1 i x e

pub distinct-at : {A : Type 0} (eq : A → A → Bool) → IsEquivalence eq → (xs : List A) → IsDistinct eq xs → (x k : A) (i j : ℕ) → slice_get xs i ≡ Some k → eq x k ≡ true → slice_get xs j ≡ Some x → j ≡ i
unfolding IsDistinct
distinct-at eq laws [] d x k i j e t f = absurd (cc)
distinct-at eq laws (a ∷ xs) d x k zero zero e t f = refl
distinct-at eq laws (a ∷ xs) d x k zero (suc j) e t f =
    let n : eq a x ≡ false = All-at (λ y. eq a y ≡ false) xs d.0 j x f in
    let m : eq x a ≡ true = subst (λ z. eq x z ≡ true) (sym (some_inj a k e)) t in
    absurd (true≢false (sym m ∙ laws.symm x a ∙ n))
distinct-at eq laws (a ∷ xs) d x k (suc i) zero e t f =
    let n : eq a k ≡ false = All-at (λ y. eq a y ≡ false) xs d.0 i k e in
    let m : eq a k ≡ true = subst (λ z. eq z k ≡ true) (sym (some_inj a x f)) t in
    absurd (true≢false (sym m ∙ n))
distinct-at eq laws (a ∷ xs) d x k (suc i) (suc j) e t f = ap suc (distinct-at eq laws xs d.1 x k i j e t f)

changed_at_or : {A : Type 0} (f : A → A) (xs : List A) (i : ℕ) (d : A) → i < length xs → set xs i (f (get_or xs i d)) ≡ changed_at f xs i
changed_at_or f [] i d h = refl
changed_at_or f (x ∷ xs) zero d h = refl
changed_at_or f (x ∷ xs) (suc i) d h = ap (λ l. x ∷ l) (changed_at_or f xs i d (omega arith))

-- an item that is read, changed and written back
pub changed_at_set : {A : Type 0} (f : A → A) (xs : List A) (i : ℕ) (x : A) → i < length xs → x ≡ get_or xs i x → set xs i (f x) ≡ changed_at f xs i
changed_at_set f xs i x h e = ap (λ z. set xs i (f z)) e ∙ changed_at_or f xs i x h

-- the item that was changed
pub slice_get-changed_same : {A : Type 0} (f : A → A) (xs : List A) (k : ℕ) (x : A) → slice_get xs k ≡ Some x → slice_get (changed_at f xs k) k ≡ Some (f x)
slice_get-changed_same f [] k x e = absurd (cc)
slice_get-changed_same f (y ∷ ys) zero x e = ap (λ z. Some (f z)) (some_inj y x e)
slice_get-changed_same f (y ∷ ys) (suc k) x e = slice_get-changed_same f ys k x e
