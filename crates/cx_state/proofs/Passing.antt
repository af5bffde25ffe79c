-- Lists all of whose items have a property, and the first item that passes a test.
use Rattle.std.proofs.Common.{◌≡◌, Bool, true, false, List, [], ◌∷◌, ◌++◌, map, reverse, Option, None, Some, refl, sym, ap, subst, ◌∙◌, if◌then◌else◌}
use Rattle.std.specs.Prelude.{option_and_then}
use Rattle.std.specs.List.{find, AllByRecursion}
use Rattle.std.proofs.lemmas.Grind.{reverse_onto}
use Rattle.cx_type_defs.proofs.Lists.{some_inj}

pub AllByRecursion-append : {A : Type 0} (P : A → Type 0) (xs ys : List A) → AllByRecursion P xs → AllByRecursion P ys → AllByRecursion P (xs ++ ys)
AllByRecursion-append P [] ys h g = g
AllByRecursion-append P (x ∷ xs) ys h g = (h.0, AllByRecursion-append P xs ys h.1 g)

pub AllByRecursion-map : {A B : Type 0} (P : B → Type 0) (f : A → B) (xs : List A) → AllByRecursion (λ x. P (f x)) xs → AllByRecursion P (map f xs)
AllByRecursion-map P f [] h = tt
AllByRecursion-map P f (x ∷ xs) h = (h.0, AllByRecursion-map P f xs h.1)

pub AllByRecursion-with : {A : Type 0} (P Q : A → Type 0) → ((x : A) → P x → Q x) → (xs : List A) → AllByRecursion P xs → AllByRecursion Q xs
AllByRecursion-with P Q f [] h = tt
AllByRecursion-with P Q f (x ∷ xs) h = (f x h.0, AllByRecursion-with P Q f xs h.1)

pub AllByRecursion-reverse : {A : Type 0} (P : A → Type 0) (xs : List A) → AllByRecursion P xs → AllByRecursion P (reverse xs)
AllByRecursion-reverse P [] h = tt
AllByRecursion-reverse P (x ∷ xs) h = subst (AllByRecursion P) (sym (reverse_onto xs x [])) (AllByRecursion-append P (reverse xs) (x ∷ []) (AllByRecursion-reverse P xs h.1) (h.0, tt))

pub AllByRecursion-always : {A : Type 0} (P : A → Type 0) → ((x : A) → P x) → (xs : List A) → AllByRecursion P xs
AllByRecursion-always P h [] = tt
AllByRecursion-always P h (x ∷ xs) = (h x, AllByRecursion-always P h xs)

pub AllByRecursion-if : {A : Type 0} (P : A → Type 0) (b : Bool) (xs : List A) → AllByRecursion P xs → AllByRecursion P (if b then xs else [])
AllByRecursion-if P true xs h = h
AllByRecursion-if P false xs h = tt

first-same : {A : Type 0} (b c : Bool) (x : A) (o p : Option A) → b ≡ c → o ≡ p → (if b then Some x else o) ≡ (if c then Some x else p)
first-same b c x o p e f = ap (λ z. if z then Some x else o) e ∙ ap (λ z. if c then Some x else z) f

pub find-same : {A : Type 0} (f g : A → Bool) (xs : List A) → AllByRecursion (λ x. f x ≡ g x) xs → find f xs ≡ find g xs
find-same f g [] h = refl
find-same f g (x ∷ xs) h = first-same (f x) (g x) x (find f xs) (find g xs) h.0 (find-same f g xs h.1)

first-of : {A : Type 0} (P : A → Type 0) (b : Bool) (x : A) (o : Option A) → P x → ((y : A) → o ≡ Some y → P y) → (y : A) → (if b then Some x else o) ≡ Some y → P y
first-of P true x o h g y e = subst P (some_inj x y e) h
first-of P false x o h g y e = g y e

pub find-in : {A : Type 0} (P : A → Type 0) (f : A → Bool) (xs : List A) → AllByRecursion P xs → (y : A) → find f xs ≡ Some y → P y
find-in P f [] h y e = absurd (cc)
find-in P f (x ∷ xs) h y e = first-of P (f x) x (find f xs) h.0 (λ z. find-in P f xs h.1 z) y e

pub then-same : {A B : Type 0} (o : Option A) (f h : A → Option B) → ((q : A) → o ≡ Some q → f q ≡ h q) → option_and_then f o ≡ option_and_then h o
then-same None f h e = refl
then-same (Some q) f h e = e q refl

pub find-first : {A : Type 0} (f : A → Bool) (x : A) (xs : List A) → find f (x ∷ xs) ≡ None → (f x ≡ false) × (find f xs ≡ None)
find-first f x xs e = parts (f x) x (find f xs) e
  where
    parts : {A : Type 0} (b : Bool) (x : A) (o : Option A) → (if b then Some x else o) ≡ None → (b ≡ false) × (o ≡ None)
    parts true x o e = absurd (cc)
    parts false x o e = (refl, e)

pub find-none : {A : Type 0} (f : A → Bool) (xs : List A) → find f xs ≡ None → AllByRecursion (λ x. f x ≡ false) xs
find-none f [] e = tt
find-none f (x ∷ xs) e = let h = find-first f x xs e in (h.0, find-none f xs h.1)
