-- What a change at one place does there and elsewhere: in lists, in lists of trees, in trees along steps, and in objects
-- along paths.
use Rattle.std.proofs.Common.{◌≡◌, ℕ, zero, suc, ◌==◌, Bool, true, false, true≢false, ◌&&◌, ◌||◌, not, List, [], ◌∷◌, ◌++◌, length, Option, None, Some, ◌⊎◌, inl, inr, refl, sym, ap, subst, ◌∙◌, slice_get, eqb-true, eq-eqb, ne_eqb, if◌then◌else◌}
use Rattle.std.proofs.lemmas.Bool.{cases_Bool, eqb-false, not-true}
use Rattle.std.specs.Prelude.{option_map, option_and_then}
use Rattle.cx_type_defs.specs.declared.ids.Step.{Step}
use Rattle.cx_type_defs.specs.declared.ids.Step.TheVariants as step
use Rattle.cx_type_defs.specs.Tables.{changed_at}
use Rattle.cx_state.specs.Objects.{Path, Tree, Trees, Row, Class, Active, End, More, Object, Objects, tree_at, tree_changed, part, part_changed, below, changed, at, put, same_step, same_steps, same_bool, same_path}
use Rattle.cx_state.specs.Elsewhere.{is_front, is_aside, IsAside, within}

-- items of lists

pub changed_at-here : {A : Type 0} (f : A → A) (xs : List A) (i : ℕ) → slice_get (changed_at f xs i) i ≡ option_map f (slice_get xs i)
changed_at-here f [] i = refl
changed_at-here f (x ∷ xs) zero = refl
changed_at-here f (x ∷ xs) (suc i) = changed_at-here f xs i

pub changed_at-other : {A : Type 0} (f : A → A) (xs : List A) (i j : ℕ) → (j ≡ i → ⊥) → slice_get (changed_at f xs i) j ≡ slice_get xs j
changed_at-other f [] i j n = refl
changed_at-other f (x ∷ xs) zero zero n = absurd (n refl)
changed_at-other f (x ∷ xs) zero (suc j) n = refl
changed_at-other f (x ∷ xs) (suc i) zero n = refl
changed_at-other f (x ∷ xs) (suc i) (suc j) n = changed_at-other f xs i j (λ e. n (ap suc e))

pub changed_at-twice : {A : Type 0} (f g : A → A) (xs : List A) (i : ℕ) → changed_at g (changed_at f xs i) i ≡ changed_at (λ x. g (f x)) xs i
changed_at-twice f g [] i = refl
changed_at-twice f g (x ∷ xs) zero = refl
changed_at-twice f g (x ∷ xs) (suc i) = ap (λ l. x ∷ l) (changed_at-twice f g xs i)

pub changed_at-swap : {A : Type 0} (f g : A → A) (xs : List A) (i j : ℕ) → (j ≡ i → ⊥) → changed_at g (changed_at f xs i) j ≡ changed_at f (changed_at g xs j) i
changed_at-swap f g [] i j n = refl
changed_at-swap f g (x ∷ xs) zero zero n = absurd (n refl)
changed_at-swap f g (x ∷ xs) zero (suc j) n = refl
changed_at-swap f g (x ∷ xs) (suc i) zero n = refl
changed_at-swap f g (x ∷ xs) (suc i) (suc j) n = ap (λ l. x ∷ l) (changed_at-swap f g xs i j (λ e. n (ap suc e)))

-- what two functions make of the one item is the same
pub changed_at-same : {A : Type 0} (f g : A → A) (xs : List A) (i : ℕ) → ((x : A) → slice_get xs i ≡ Some x → f x ≡ g x) → changed_at f xs i ≡ changed_at g xs i
changed_at-same f g [] i h = refl
changed_at-same f g (x ∷ xs) zero h = ap (λ y. y ∷ xs) (h x refl)
changed_at-same f g (x ∷ xs) (suc i) h = ap (λ l. x ∷ l) (changed_at-same f g xs i h)

pub changed_at-still : {A : Type 0} (xs : List A) (i : ℕ) → changed_at (λ x. x) xs i ≡ xs
changed_at-still [] i = refl
changed_at-still (x ∷ xs) zero = refl
changed_at-still (x ∷ xs) (suc i) = ap (λ l. x ∷ l) (changed_at-still xs i)

pub changed_at-length : {A : Type 0} (f : A → A) (xs : List A) (i : ℕ) → length (changed_at f xs i) ≡ length xs
changed_at-length f [] i = refl
changed_at-length f (x ∷ xs) zero = refl
changed_at-length f (x ∷ xs) (suc i) = ap suc (changed_at-length f xs i)

-- trees of lists

pub tree_changed-here : (f : Tree → Tree) (xs : Trees) (i : ℕ) → tree_at (tree_changed f xs i) i ≡ option_map f (tree_at xs i)
tree_changed-here f End i = refl
tree_changed-here f (More x xs) zero = refl
tree_changed-here f (More x xs) (suc i) = tree_changed-here f xs i

pub tree_changed-other : (f : Tree → Tree) (xs : Trees) (i j : ℕ) → (j ≡ i → ⊥) → tree_at (tree_changed f xs i) j ≡ tree_at xs j
tree_changed-other f End i j n = refl
tree_changed-other f (More x xs) zero zero n = absurd (n refl)
tree_changed-other f (More x xs) zero (suc j) n = refl
tree_changed-other f (More x xs) (suc i) zero n = refl
tree_changed-other f (More x xs) (suc i) (suc j) n = tree_changed-other f xs i j (λ e. n (ap suc e))

pub tree_changed-twice : (f g : Tree → Tree) (xs : Trees) (i : ℕ) → tree_changed g (tree_changed f xs i) i ≡ tree_changed (λ x. g (f x)) xs i
tree_changed-twice f g End i = refl
tree_changed-twice f g (More x xs) zero = refl
tree_changed-twice f g (More x xs) (suc i) = ap (More x) (tree_changed-twice f g xs i)

pub tree_changed-swap : (f g : Tree → Tree) (xs : Trees) (i j : ℕ) → (j ≡ i → ⊥) → tree_changed g (tree_changed f xs i) j ≡ tree_changed f (tree_changed g xs j) i
tree_changed-swap f g End i j n = refl
tree_changed-swap f g (More x xs) zero zero n = absurd (n refl)
tree_changed-swap f g (More x xs) zero (suc j) n = refl
tree_changed-swap f g (More x xs) (suc i) zero n = refl
tree_changed-swap f g (More x xs) (suc i) (suc j) n = ap (More x) (tree_changed-swap f g xs i j (λ e. n (ap suc e)))

pub tree_changed-same : (f g : Tree → Tree) (xs : Trees) (i : ℕ) → ((x : Tree) → tree_at xs i ≡ Some x → f x ≡ g x) → tree_changed f xs i ≡ tree_changed g xs i
tree_changed-same f g End i h = refl
tree_changed-same f g (More x xs) zero h = ap (λ y. More y xs) (h x refl)
tree_changed-same f g (More x xs) (suc i) h = ap (More x) (tree_changed-same f g xs i h)

pub tree_changed-still : (xs : Trees) (i : ℕ) → tree_changed (λ x. x) xs i ≡ xs
tree_changed-still End i = refl
tree_changed-still (More x xs) zero = refl
tree_changed-still (More x xs) (suc i) = ap (More x) (tree_changed-still xs i)

-- comparing steps and paths

pub and-left : (a b : Bool) → (a && b) ≡ true → a ≡ true
and-left true b e = refl
and-left false b e = absurd (cc)

pub and-right : (a b : Bool) → (a && b) ≡ true → b ≡ true
and-right true b e = e
and-right false b e = absurd (cc)

pub and-both : (a b : Bool) → a ≡ true → b ≡ true → (a && b) ≡ true
and-both a b e d = ap (λ c. c && b) e ∙ d

pub same_step-true : (s u : Step) → same_step s u ≡ true → s ≡ u
same_step-true (step.Base i) (step.Base j) e = ap step.Base (eqb-true i j e)
same_step-true (step.Field i) (step.Field j) e = ap step.Field (eqb-true i j e)
same_step-true (step.Elem i) (step.Elem j) e = ap step.Elem (eqb-true i j e)
same_step-true s u e = absurd (cc)

pub same_step-refl : (s : Step) → same_step s s ≡ true
same_step-refl (step.Base i) = eq-eqb i i refl
same_step-refl (step.Field i) = eq-eqb i i refl
same_step-refl (step.Elem i) = eq-eqb i i refl

pub same_step-is : (s u : Step) → s ≡ u → same_step s u ≡ true
same_step-is s u e = subst (λ w. same_step s w ≡ true) e (same_step-refl s)

pub same_steps-refl : (ss : List Step) → same_steps ss ss ≡ true
same_steps-refl [] = refl
same_steps-refl (s ∷ ss) = and-both (same_step s s) (same_steps ss ss) (same_step-refl s) (same_steps-refl ss)

pub same_steps-is : (ss us : List Step) → ss ≡ us → same_steps ss us ≡ true
same_steps-is ss us e = subst (λ w. same_steps ss w ≡ true) e (same_steps-refl ss)

pub same_steps-true : (ss us : List Step) → same_steps ss us ≡ true → ss ≡ us
same_steps-true [] [] e = refl
same_steps-true (s ∷ ss) (u ∷ us) e =
    ap (λ w. w ∷ ss) (same_step-true s u (and-left (same_step s u) (same_steps ss us) e)) ∙ ap (λ l. u ∷ l) (same_steps-true ss us (and-right (same_step s u) (same_steps ss us) e))
same_steps-true ss us e = absurd (cc)

pub same_bool-true : (a b : Bool) → same_bool a b ≡ true → a ≡ b
same_bool-true true b e = sym e
same_bool-true false true e = absurd (cc)
same_bool-true false false e = refl

pub same_bool-refl : (a : Bool) → same_bool a a ≡ true
same_bool-refl true = refl
same_bool-refl false = refl

pub same_path-true : (p q : Path) → same_path p q ≡ true → p ≡ q
same_path-true p q e =
    let l = and-left ((p.object == q.object) && same_steps p.steps q.steps) (same_bool p.past q.past) e in
    let o : p.object ≡ q.object = eqb-true p.object q.object (and-left (p.object == q.object) (same_steps p.steps q.steps) l) in
    let s : p.steps ≡ q.steps = same_steps-true p.steps q.steps (and-right (p.object == q.object) (same_steps p.steps q.steps) l) in
    let m : p.past ≡ q.past = same_bool-true p.past q.past (and-right ((p.object == q.object) && same_steps p.steps q.steps) (same_bool p.past q.past) e) in
    ap (λ z. record { object = z; steps = p.steps; past = p.past }) o ∙ ap (λ z. record { object = q.object; steps = z; past = p.past }) s ∙ ap (λ z. record { object = q.object; steps = q.steps; past = z }) m

pub same_path-refl : (p : Path) → same_path p p ≡ true
same_path-refl p =
    and-both ((p.object == p.object) && same_steps p.steps p.steps) (same_bool p.past p.past)
    (and-both (p.object == p.object) (same_steps p.steps p.steps) (eq-eqb p.object p.object refl) (same_steps-refl p.steps)) (same_bool-refl p.past)

pub same_path-is : (p q : Path) → p ≡ q → same_path p q ≡ true
same_path-is p q e = subst (λ w. same_path p w ≡ true) e (same_path-refl p)

-- parts of a tree

on_active-here : (b : Bool) (f : Tree → Tree) (x : Tree) → (if b then Some (if b then f x else x) else None) ≡ option_map f (if b then Some x else None)
on_active-here true f x = refl
on_active-here false f x = refl

on_active-other : (a b : Bool) (f : Tree → Tree) (x : Tree) → (a ≡ true → b ≡ true → ⊥) → (if a then Some (if b then f x else x) else None) ≡ (if a then Some x else None)
on_active-other true true f x n = absurd (n refl refl)
on_active-other true false f x n = refl
on_active-other false b f x n = refl

on_active-twice : (b : Bool) (f g : Tree → Tree) (x : Tree) → (if b then g (if b then f x else x) else (if b then f x else x)) ≡ (if b then g (f x) else x)
on_active-twice true f g x = refl
on_active-twice false f g x = refl

on_active-swap : (a b : Bool) (f g : Tree → Tree) (x : Tree) → (a ≡ true → b ≡ true → ⊥) → (if a then g (if b then f x else x) else (if b then f x else x)) ≡ (if b then f (if a then g x else x) else (if a then g x else x))
on_active-swap true true f g x n = absurd (n refl refl)
on_active-swap true false f g x n = refl
on_active-swap false true f g x n = refl
on_active-swap false false f g x n = refl

on_active-same : (b : Bool) (f g : Tree → Tree) (x : Tree) → ((y : Tree) → (if b then Some x else None) ≡ Some y → f y ≡ g y) → (if b then f x else x) ≡ (if b then g x else x)
on_active-same true f g x h = h x refl
on_active-same false f g x h = refl

on_active-still : (b : Bool) (x : Tree) → (if b then x else x) ≡ x
on_active-still true x = refl
on_active-still false x = refl

-- a union's active member isn't both of two members
not_both : (m i j : ℕ) → (i == j) ≡ false → (m == j) ≡ true → (m == i) ≡ true → ⊥
not_both m i j n a b = eqb-false i j n (sym (eqb-true m i b) ∙ eqb-true m j a)

pub part_changed-here : (f : Tree → Tree) (x : Tree) (s : Step) → part (part_changed f x s) s ≡ option_map f (part x s)
part_changed-here f (Row xs) (step.Elem i) = tree_changed-here f xs i
part_changed-here f (Class p bs ms) (step.Base i) = tree_changed-here f bs i
part_changed-here f (Class p bs ms) (step.Field i) = tree_changed-here f ms i
part_changed-here f (Active m x) (step.Field i) = on_active-here (m == i) f x
part_changed-here f x s = refl

pub part_changed-other : (f : Tree → Tree) (x : Tree) (s u : Step) → same_step s u ≡ false → part (part_changed f x s) u ≡ part x u
part_changed-other f (Row xs) (step.Elem i) (step.Elem j) n = tree_changed-other f xs i j (λ e. eqb-false i j n (sym e))
part_changed-other f (Class p bs ms) (step.Base i) (step.Base j) n = tree_changed-other f bs i j (λ e. eqb-false i j n (sym e))
part_changed-other f (Class p bs ms) (step.Field i) (step.Field j) n = tree_changed-other f ms i j (λ e. eqb-false i j n (sym e))
part_changed-other f (Active m x) (step.Field i) (step.Field j) n = on_active-other (m == j) (m == i) f x (not_both m i j n)
part_changed-other f x s u n = refl

pub part_changed-twice : (f g : Tree → Tree) (x : Tree) (s : Step) → part_changed g (part_changed f x s) s ≡ part_changed (λ y. g (f y)) x s
part_changed-twice f g (Row xs) (step.Elem i) = ap Row (tree_changed-twice f g xs i)
part_changed-twice f g (Class p bs ms) (step.Base i) = ap (λ l. Class p l ms) (tree_changed-twice f g bs i)
part_changed-twice f g (Class p bs ms) (step.Field i) = ap (λ l. Class p bs l) (tree_changed-twice f g ms i)
part_changed-twice f g (Active m x) (step.Field i) = ap (Active m) (on_active-twice (m == i) f g x)
part_changed-twice f g x s = refl

pub part_changed-swap : (f g : Tree → Tree) (x : Tree) (s u : Step) → same_step s u ≡ false → part_changed g (part_changed f x s) u ≡ part_changed f (part_changed g x u) s
part_changed-swap f g (Row xs) (step.Elem i) (step.Elem j) n = ap Row (tree_changed-swap f g xs i j (λ e. eqb-false i j n (sym e)))
part_changed-swap f g (Class p bs ms) (step.Base i) (step.Base j) n = ap (λ l. Class p l ms) (tree_changed-swap f g bs i j (λ e. eqb-false i j n (sym e)))
part_changed-swap f g (Class p bs ms) (step.Field i) (step.Field j) n = ap (λ l. Class p bs l) (tree_changed-swap f g ms i j (λ e. eqb-false i j n (sym e)))
part_changed-swap f g (Active m x) (step.Field i) (step.Field j) n = ap (Active m) (on_active-swap (m == j) (m == i) f g x (not_both m i j n))
part_changed-swap f g (Row xs) (step.Base i) (step.Base j) n = refl
part_changed-swap f g (Row xs) (step.Base i) (step.Field j) n = refl
part_changed-swap f g (Row xs) (step.Base i) (step.Elem j) n = refl
part_changed-swap f g (Row xs) (step.Field i) (step.Base j) n = refl
part_changed-swap f g (Row xs) (step.Field i) (step.Field j) n = refl
part_changed-swap f g (Row xs) (step.Field i) (step.Elem j) n = refl
part_changed-swap f g (Class p bs ms) (step.Elem i) (step.Base j) n = refl
part_changed-swap f g (Class p bs ms) (step.Elem i) (step.Field j) n = refl
part_changed-swap f g (Class p bs ms) (step.Elem i) (step.Elem j) n = refl
part_changed-swap f g (Active m x) (step.Base i) (step.Base j) n = refl
part_changed-swap f g (Active m x) (step.Base i) (step.Field j) n = refl
part_changed-swap f g (Active m x) (step.Base i) (step.Elem j) n = refl
part_changed-swap f g (Active m x) (step.Elem i) (step.Base j) n = refl
part_changed-swap f g (Active m x) (step.Elem i) (step.Field j) n = refl
part_changed-swap f g (Active m x) (step.Elem i) (step.Elem j) n = refl
part_changed-swap f g x s u n = refl

pub part_changed-same : (f g : Tree → Tree) (x : Tree) (s : Step) → ((y : Tree) → part x s ≡ Some y → f y ≡ g y) → part_changed f x s ≡ part_changed g x s
part_changed-same f g (Row xs) (step.Elem i) h = ap Row (tree_changed-same f g xs i h)
part_changed-same f g (Class p bs ms) (step.Base i) h = ap (λ l. Class p l ms) (tree_changed-same f g bs i h)
part_changed-same f g (Class p bs ms) (step.Field i) h = ap (λ l. Class p bs l) (tree_changed-same f g ms i h)
part_changed-same f g (Active m x) (step.Field i) h = ap (Active m) (on_active-same (m == i) f g x h)
part_changed-same f g x s h = refl

pub part_changed-still : (x : Tree) (s : Step) → part_changed (λ y. y) x s ≡ x
part_changed-still (Row xs) (step.Elem i) = ap Row (tree_changed-still xs i)
part_changed-still (Class p bs ms) (step.Base i) = ap (λ l. Class p l ms) (tree_changed-still bs i)
part_changed-still (Class p bs ms) (step.Field i) = ap (λ l. Class p bs l) (tree_changed-still ms i)
part_changed-still (Active m x) (step.Field i) = ap (Active m) (on_active-still (m == i) x)
part_changed-still x s = refl

-- along steps

pub and_then-map : {A B C : Type 0} (f : B → Option C) (g : A → B) (o : Option A) → option_and_then f (option_map g o) ≡ option_and_then (λ x. f (g x)) o
and_then-map f g None = refl
and_then-map f g (Some x) = refl

pub map-and_then : {A B C : Type 0} (f : B → C) (g : A → Option B) (o : Option A) → option_and_then (λ x. option_map f (g x)) o ≡ option_map f (option_and_then g o)
map-and_then f g None = refl
map-and_then f g (Some x) = refl

pub and_then-same : {A B : Type 0} (f g : A → Option B) → ((x : A) → f x ≡ g x) → (o : Option A) → option_and_then f o ≡ option_and_then g o
and_then-same f g h None = refl
and_then-same f g h (Some x) = h x

pub and_then-and_then : {A B C : Type 0} (f : B → Option C) (g : A → Option B) (o : Option A) → option_and_then (λ x. option_and_then f (g x)) o ≡ option_and_then f (option_and_then g o)
and_then-and_then f g None = refl
and_then-and_then f g (Some x) = refl

pub below-changed_here : (f : Tree → Tree) (x : Tree) (ss : List Step) → below (changed f x ss) ss ≡ option_map f (below x ss)
below-changed_here f x [] = refl
below-changed_here f x (s ∷ ss) =
    ap (option_and_then (λ y. below y ss)) (part_changed-here (λ y. changed f y ss) x s)
    ∙ and_then-map (λ y. below y ss) (λ y. changed f y ss) (part x s)
    ∙ and_then-same (λ y. below (changed f y ss) ss) (λ y. option_map f (below y ss)) (λ y. below-changed_here f y ss) (part x s)
    ∙ map-and_then f (λ y. below y ss) (part x s)

pub changed-same : (f g : Tree → Tree) (x : Tree) (ss : List Step) → ((y : Tree) → below x ss ≡ Some y → f y ≡ g y) → changed f x ss ≡ changed g x ss
changed-same f g x [] h = h x refl
changed-same f g x (s ∷ ss) h =
    part_changed-same (λ y. changed f y ss) (λ y. changed g y ss) x s (λ y e. changed-same f g y ss (λ z d. h z (ap (option_and_then (λ w. below w ss)) e ∙ d)))

pub changed-still : (x : Tree) (ss : List Step) → changed (λ y. y) x ss ≡ x
changed-still x [] = refl
changed-still x (s ∷ ss) = part_changed-same (λ y. changed (λ z. z) y ss) (λ y. y) x s (λ y e. changed-still y ss) ∙ part_changed-still x s

pub changed-twice : (f g : Tree → Tree) (x : Tree) (ss : List Step) → changed g (changed f x ss) ss ≡ changed (λ y. g (f y)) x ss
changed-twice f g x [] = refl
changed-twice f g x (s ∷ ss) =
    part_changed-twice (λ y. changed f y ss) (λ y. changed g y ss) x s
    ∙ part_changed-same (λ y. changed g (changed f y ss) ss) (λ y. changed (λ z. g (f z)) y ss) x s (λ y e. changed-twice f g y ss)

pub below-append : (x : Tree) (ss us : List Step) → below x (ss ++ us) ≡ option_and_then (λ y. below y us) (below x ss)
below-append x [] us = refl
below-append x (s ∷ ss) us =
    and_then-same (λ y. below y (ss ++ us)) (λ y. option_and_then (λ z. below z us) (below y ss)) (λ y. below-append y ss us) (part x s)
    ∙ and_then-and_then (λ z. below z us) (λ y. below y ss) (part x s)

pub changed-append : (f : Tree → Tree) (x : Tree) (ss us : List Step) → changed f x (ss ++ us) ≡ changed (λ y. changed f y us) x ss
changed-append f x [] us = refl
changed-append f x (s ∷ ss) us = part_changed-same (λ y. changed f y (ss ++ us)) (λ y. changed (λ z. changed f z us) y ss) x s (λ y e. changed-append f y ss us)

-- neither list of steps is a front of the other
pub record StepsAside (ss us : List Step) : Type 0 where
  pub not_first : is_front ss us ≡ false
  pub not_second : is_front us ss ≡ false

-- they part at their first steps, or go on aside
aside-more : (s : Step) (ss us : List Step) → StepsAside (s ∷ ss) (s ∷ us) → StepsAside ss us
aside-more s ss us h = record { not_first = sym (ap (λ b. b && is_front ss us) (same_step-refl s)) ∙ h.not_first; not_second = sym (ap (λ b. b && is_front us ss) (same_step-refl s)) ∙ h.not_second }

pub below-changed_aside : (f : Tree → Tree) (x : Tree) (ss us : List Step) → StepsAside ss us → below (changed f x ss) us ≡ below x us
below-changed_aside f x [] us h = absurd (true≢false h.not_first)
below-changed_aside f x (s ∷ ss) [] h = absurd (true≢false h.not_second)
below-changed_aside f x (s ∷ ss) (u ∷ us) h = elim (cases_Bool (same_step s u)) as (λ _. below (changed f x (s ∷ ss)) (u ∷ us) ≡ below x (u ∷ us)) [
  | inl e ↦ (
      let c : s ≡ u = same_step-true s u e in
      let k : StepsAside ss us = aside-more s ss us (subst (λ w. StepsAside (s ∷ ss) (w ∷ us)) (sym c) h) in
      subst (λ w. below (changed f x (s ∷ ss)) (w ∷ us) ≡ below x (w ∷ us)) c (
      ap (option_and_then (λ y. below y us)) (part_changed-here (λ y. changed f y ss) x s)
      ∙ and_then-map (λ y. below y us) (λ y. changed f y ss) (part x s)
      ∙ and_then-same (λ y. below (changed f y ss) us) (λ y. below y us) (λ y. below-changed_aside f y ss us k) (part x s)))
  | inr e ↦ ap (option_and_then (λ y. below y us)) (part_changed-other (λ y. changed f y ss) x s u e)
]

pub changed-swap : (f g : Tree → Tree) (x : Tree) (ss us : List Step) → StepsAside ss us → changed g (changed f x ss) us ≡ changed f (changed g x us) ss
changed-swap f g x [] us h = absurd (true≢false h.not_first)
changed-swap f g x (s ∷ ss) [] h = absurd (true≢false h.not_second)
changed-swap f g x (s ∷ ss) (u ∷ us) h = elim (cases_Bool (same_step s u)) as (λ _. changed g (changed f x (s ∷ ss)) (u ∷ us) ≡ changed f (changed g x (u ∷ us)) (s ∷ ss)) [
  | inl e ↦ (
      let c : s ≡ u = same_step-true s u e in
      let k : StepsAside ss us = aside-more s ss us (subst (λ w. StepsAside (s ∷ ss) (w ∷ us)) (sym c) h) in
      subst (λ w. changed g (changed f x (s ∷ ss)) (w ∷ us) ≡ changed f (changed g x (w ∷ us)) (s ∷ ss)) c (
      part_changed-twice (λ y. changed f y ss) (λ y. changed g y us) x s
      ∙ part_changed-same (λ y. changed g (changed f y ss) us) (λ y. changed f (changed g y us) ss) x s (λ y d. changed-swap f g y ss us k)
      ∙ sym (part_changed-twice (λ y. changed g y us) (λ y. changed f y ss) x s)))
  | inr e ↦ part_changed-swap (λ y. changed f y ss) (λ y. changed g y us) x s u e
]

-- objects along paths

-- two paths are of different objects, or of one where their steps part in some way
pub data Parted (p q : Path) (Apart : Type 0) : Type 0 where
  InOthers : (q.object ≡ p.object → ⊥) → Parted p q Apart
  InOne : q.object ≡ p.object → Apart → Parted p q Apart

pub parted : (p q : Path) (Apart : Type 0) → ((p.object == q.object) ≡ true → Apart) → Parted p q Apart
parted p q Apart h = elim (cases_Bool (p.object == q.object)) as (λ _. Parted p q Apart) [
  | inl e ↦ InOne (sym (eqb-true p.object q.object e)) (h e)
  | inr e ↦ InOthers (λ d. eqb-false p.object q.object e (sym d))
]

steps-aside : (p q : Path) → IsAside p q → (p.object == q.object) ≡ true → StepsAside p.steps q.steps
steps-aside p q h e =
    let a : (not (is_front p.steps q.steps) && not (is_front q.steps p.steps)) ≡ true = sym (ap (λ b. not b || not (is_front p.steps q.steps) && not (is_front q.steps p.steps)) e) ∙ h in
    record {
      not_first = not-true (is_front p.steps q.steps) (and-left (not (is_front p.steps q.steps)) (not (is_front q.steps p.steps)) a);
      not_second = not-true (is_front q.steps p.steps) (and-right (not (is_front p.steps q.steps)) (not (is_front q.steps p.steps)) a);
    }

-- the object with what stands at the end of the steps changed by f
abbrev pub with_changed : (Tree → Tree) → List Step → Object → Object
with_changed f ss o = record o { tree = changed f o.tree ss }

pub put-object : (f : Tree → Tree) (os : Objects) (p : Path) → slice_get (put f os p) p.object ≡ option_map (with_changed f p.steps) (slice_get os p.object)
put-object f os p = changed_at-here (with_changed f p.steps) os p.object

pub put-others : (f : Tree → Tree) (os : Objects) (p : Path) (i : ℕ) → (i ≡ p.object → ⊥) → slice_get (put f os p) i ≡ slice_get os i
put-others f os p i n = changed_at-other (with_changed f p.steps) os p.object i n

pub put-length : (f : Tree → Tree) (os : Objects) (p : Path) → length (put f os p) ≡ length os
put-length f os p = changed_at-length (with_changed f p.steps) os p.object

pub at-put : (f : Tree → Tree) (os : Objects) (p : Path) → at (put f os p) p ≡ option_map f (at os p)
at-put f os p =
    ap (option_and_then (λ (o : Object). below o.tree p.steps)) (put-object f os p)
    ∙ and_then-map (λ (o : Object). below o.tree p.steps) (with_changed f p.steps) (slice_get os p.object)
    ∙ and_then-same (λ (o : Object). below (changed f o.tree p.steps) p.steps) (λ (o : Object). option_map f (below o.tree p.steps)) (λ o. below-changed_here f o.tree p.steps) (slice_get os p.object)
    ∙ map-and_then f (λ (o : Object). below o.tree p.steps) (slice_get os p.object)

-- what is asked of the object at another path is told as before the change, if it is so of the changed object
module _ {B : Type 0} (f : Tree → Tree) (os : Objects) (p q : Path) (Apart : Type 0) (k : Object → Option B) (h : Apart → (o : Object) → k (with_changed f p.steps o) ≡ k o) where
  pub asked-parted : Parted p q Apart → option_and_then k (slice_get (put f os p) q.object) ≡ option_and_then k (slice_get os q.object)
  asked-parted (InOthers n) = ap (option_and_then k) (put-others f os p q.object n)
  asked-parted (InOne e a) =
      ap (λ i. option_and_then k (slice_get (put f os p) i)) e
      ∙ ap (option_and_then k) (put-object f os p)
      ∙ and_then-map k (with_changed f p.steps) (slice_get os p.object)
      ∙ and_then-same (λ o. k (with_changed f p.steps o)) k (h a) (slice_get os p.object)
      ∙ ap (λ i. option_and_then k (slice_get os i)) (sym e)

pub at-put_aside : (f : Tree → Tree) (os : Objects) (p q : Path) → IsAside p q → at (put f os p) q ≡ at os q
at-put_aside f os p q h =
    asked-parted f os p q (StepsAside p.steps q.steps) (λ (o : Object). below o.tree q.steps) (λ a o. below-changed_aside f o.tree p.steps q.steps a)
    (parted p q (StepsAside p.steps q.steps) (steps-aside p q h))

pub put-same : (f g : Tree → Tree) (os : Objects) (p : Path) → ((x : Tree) → at os p ≡ Some x → f x ≡ g x) → put f os p ≡ put g os p
put-same f g os p h =
    changed_at-same (with_changed f p.steps) (with_changed g p.steps) os p.object
    (λ o e. ap (λ x. record o { tree = x }) (changed-same f g o.tree p.steps (λ x d. h x (ap (option_and_then (λ (w : Object). below w.tree p.steps)) e ∙ d))))

pub put-still : (f : Tree → Tree) (os : Objects) (p : Path) → ((x : Tree) → at os p ≡ Some x → f x ≡ x) → put f os p ≡ os
put-still f os p h =
    put-same f (λ x. x) os p h
    ∙ changed_at-same (with_changed (λ x. x) p.steps) (λ o. o) os p.object (λ o e. ap (λ x. record o { tree = x }) (changed-still o.tree p.steps))
    ∙ changed_at-still os p.object

pub put-twice : (f g : Tree → Tree) (os : Objects) (p : Path) → put g (put f os p) p ≡ put (λ x. g (f x)) os p
put-twice f g os p =
    changed_at-twice (with_changed f p.steps) (with_changed g p.steps) os p.object
    ∙ changed_at-same (λ o. with_changed g p.steps (with_changed f p.steps o)) (with_changed (λ x. g (f x)) p.steps) os p.object (λ o e. ap (λ x. record o { tree = x }) (changed-twice f g o.tree p.steps))

put-swap_parted : (f g : Tree → Tree) (os : Objects) (p q : Path) → Parted p q (StepsAside p.steps q.steps) → put g (put f os p) q ≡ put f (put g os q) p
put-swap_parted f g os p q (InOthers n) = changed_at-swap (with_changed f p.steps) (with_changed g q.steps) os p.object q.object n
put-swap_parted f g os p q (InOne e h) =
    ap (λ i. changed_at (with_changed g q.steps) (put f os p) i) e
    ∙ changed_at-twice (with_changed f p.steps) (with_changed g q.steps) os p.object
    ∙ changed_at-same (λ o. with_changed g q.steps (with_changed f p.steps o)) (λ o. with_changed f p.steps (with_changed g q.steps o)) os p.object (λ o d. ap (λ x. record o { tree = x }) (changed-swap f g o.tree p.steps q.steps h))
    ∙ sym (changed_at-twice (with_changed g q.steps) (with_changed f p.steps) os p.object)
    ∙ ap (λ i. put f (changed_at (with_changed g q.steps) os i) p) (sym e)

pub put-swap : (f g : Tree → Tree) (os : Objects) (p q : Path) → IsAside p q → put g (put f os p) q ≡ put f (put g os q) p
put-swap f g os p q h = put-swap_parted f g os p q (parted p q (StepsAside p.steps q.steps) (steps-aside p q h))

pub at-within : (os : Objects) (p : Path) (ss : List Step) (past : Bool) → at os (within p ss past) ≡ option_and_then (λ x. below x ss) (at os p)
at-within os p ss past =
    and_then-same (λ (o : Object). below o.tree (p.steps ++ ss)) (λ (o : Object). option_and_then (λ x. below x ss) (below o.tree p.steps)) (λ o. below-append o.tree p.steps ss) (slice_get os p.object)
    ∙ and_then-and_then (λ x. below x ss) (λ (o : Object). below o.tree p.steps) (slice_get os p.object)

pub put-within : (f : Tree → Tree) (os : Objects) (p : Path) (ss : List Step) (past : Bool) → put f os (within p ss past) ≡ put (λ x. changed f x ss) os p
put-within f os p ss past =
    changed_at-same (with_changed f (p.steps ++ ss)) (with_changed (λ x. changed f x ss) p.steps) os p.object (λ o e. ap (λ x. record o { tree = x }) (changed-append f o.tree p.steps ss))

pub at-above : (f : Tree → Tree) (os : Objects) (p : Path) (ss : List Step) (past : Bool) → at (put f os (within p ss past)) p ≡ option_map (λ x. changed f x ss) (at os p)
at-above f os p ss past = ap (λ n. at n p) (put-within f os p ss past) ∙ at-put (λ x. changed f x ss) os p

-- which paths lie aside

is_front-append : (ss us : List Step) → is_front ss (ss ++ us) ≡ true
is_front-append [] us = refl
is_front-append (s ∷ ss) us = and-both (same_step s s) (is_front ss (ss ++ us)) (same_step-refl s) (is_front-append ss us)

is_front-rest : (ss us : List Step) → is_front ss us ≡ true → (vs : List Step) × (us ≡ ss ++ vs)
is_front-rest [] us e = (us, refl)
is_front-rest (s ∷ ss) [] e = absurd (cc)
is_front-rest (s ∷ ss) (u ∷ us) e =
    let d : s ≡ u = same_step-true s u (and-left (same_step s u) (is_front ss us) e) in
    let r = is_front-rest ss us (and-right (same_step s u) (is_front ss us) e) in
    (r.0, ap (λ w. w ∷ us) (sym d) ∙ ap (λ l. s ∷ l) r.1)

aside-false : (a b c : Bool) → (not a || not b && not c) ≡ false → (a ≡ true) × ((b ≡ true) ⊎ (c ≡ true))
aside-false false b c e = absurd (cc)
aside-false true true c e = (refl, inl refl)
aside-false true false true e = (refl, inr refl)
aside-false true false false e = absurd (cc)

-- of two paths that aren't aside one goes on where the other ends, or they end alike
pub not-aside : (p q : Path) → is_aside p q ≡ false → (p.object ≡ q.object) × (((ss : List Step) × (q.steps ≡ p.steps ++ ss)) ⊎ ((ss : List Step) × (p.steps ≡ q.steps ++ ss)))
not-aside p q e =
    let c = aside-false (p.object == q.object) (is_front p.steps q.steps) (is_front q.steps p.steps) e in (
      eqb-true p.object q.object c.0,
      elim c.1 as (λ _. ((ss : List Step) × (q.steps ≡ p.steps ++ ss)) ⊎ ((ss : List Step) × (p.steps ≡ q.steps ++ ss))) [
        | inl a ↦ inl (is_front-rest p.steps q.steps a)
        | inr b ↦ inr (is_front-rest q.steps p.steps b)
      ],
    )

pub within-not_aside : (p : Path) (ss : List Step) (past : Bool) → is_aside p (within p ss past) ≡ false
within-not_aside p ss past =
    ap (λ a. not a || not (is_front p.steps (p.steps ++ ss)) && not (is_front (p.steps ++ ss) p.steps)) (eq-eqb p.object p.object refl)
    ∙ ap (λ a. not a && not (is_front (p.steps ++ ss) p.steps)) (is_front-append p.steps ss)

either-way : (a b : Bool) → (a && b) ≡ (b && a)
either-way true true = refl
either-way true false = refl
either-way false true = refl
either-way false false = refl

same_number-either : (m n : ℕ) → (m == n) ≡ (n == m)
same_number-either m n = elim (cases_Bool (m == n)) as (λ _. (m == n) ≡ (n == m)) [
  | inl y ↦ y ∙ sym (eq-eqb n m (sym (eqb-true m n y)))
  | inr n' ↦ n' ∙ sym (ne_eqb n m (λ d. eqb-false m n n' (sym d)))
]

pub aside-either : (p q : Path) → is_aside p q ≡ is_aside q p
aside-either p q =
    ap (λ a. not a || not (is_front p.steps q.steps) && not (is_front q.steps p.steps)) (same_number-either p.object q.object)
    ∙ ap (λ a. not (q.object == p.object) || a) (either-way (not (is_front p.steps q.steps)) (not (is_front q.steps p.steps)))
