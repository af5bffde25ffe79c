-- A change of what a path leads to changes no answer outside of it: no rule, and no value that is read.
use Rattle.std.proofs.Common.{◌≡◌, ◌==◌, Bool, true, false, ◌&&◌, ◌||◌, not, cond, List, [], ◌∷◌, map, Option, None, Some, Ok, is_some, inl, inr, All, refl, sym, ap, subst, ◌∙◌, slice_get, slice_index_or, unwrap_or, true≢false, arith, if◌then◌else◌}
use Rattle.std.specs.List.{list_any, find}
use Rattle.std.specs.Prelude.{option_map, option_and_then}
use Rattle.std.proofs.lemmas.Bool.{cases_Bool, not-true, not-false, or_parts}
use Rattle.std.proofs.lemmas.List.Elements.{All-nil, All-cons, All-head, All-tail, All-append, All-map, All-weaker}
use Rattle.cx_base.specs.declared.rule.Rule.{Rule}
use Rattle.cx_base.specs.declared.rule.Rule.TheVariants as rule
use Rattle.cx_type_defs.specs.declared.ids.Step.{Step}
use Rattle.cx_type_defs.specs.declared.ids.Step.TheVariants as step
use Rattle.cx_type_defs.specs.declared.kind.TypeRow.{TypeRow}
use Rattle.cx_type_defs.specs.Tables.{Tables}
use Rattle.cx_type_defs.proofs.Lists.{option_and_then-some}
use Rattle.cx_state.specs.declared.kind.Phase.{Phase}
use Rattle.cx_state.specs.declared.kind.Phase.TheVariants as phase
use Rattle.cx_state.specs.declared.kind.Scalar.{Scalar}
use Rattle.cx_state.specs.Objects.{Path, Tree, Leaf, Row, Class, Union, Active, End, Object, Objects, same_step, part, part_changed, below, changed, at, put}
use Rattle.cx_state.specs.Places.{row_part, root_row, row_of}
use Rattle.cx_state.specs.Conditions.{Access, Part, Outer, Load, Which, Store, Init, Activate, Advance, Call, Dynamic, Release, order, is_opaque, is_here, listed, on_way, passes, is_union, stops, is_dead, is_deciding, is_before, is_indeterminate, is_sealed, sealed, all_bases, enclosing, class_below, decides, dynamic_in, is_out_of_lifetime, lacks_outer, holds, broken}
use Rattle.cx_state.specs.Steps.{unless, scalar_of, load, member_of, active, init, store, with_place, dynamic_class, Write, access_of, write}
use Rattle.cx_state.specs.Steps as steps
use Rattle.cx_state.specs.Elsewhere.{is_front, is_outside}
use Rattle.cx_state.proofs.Paths.{and-left, and-right, and-both, same_step-true, same_step-refl, part_changed-here, part_changed-other, map-and_then, parted, asked-parted, with_changed, put-object, below-changed_here}
use Rattle.cx_state.proofs.Rules.{broken-at, broken-none, none-find}
use Rattle.cx_state.proofs.Elsewhere.{unless-ok, write-there, here-not_opaque}

-- what a tree is in itself, its parts aside
abbrev pub face : Tree → Tree
face (Leaf v) = Leaf v
face (Row xs) = Row End
face (Class p bases members) = Class p End End
face Union = Union
face (Active m x) = Active m Union

pub face-part_changed : (f : Tree → Tree) (x : Tree) (s : Step) → face (part_changed f x s) ≡ face x
face-part_changed f (Row xs) (step.Elem i) = refl
face-part_changed f (Class p bs ms) (step.Base i) = refl
face-part_changed f (Class p bs ms) (step.Field i) = refl
face-part_changed f (Active m x) (step.Field i) = refl
face-part_changed f x s = refl

-- the tests look at faces alone

union-face : (x : Tree) → is_union (face x) ≡ is_union x
union-face (Leaf v) = refl
union-face (Row xs) = refl
union-face (Class p bs ms) = refl
union-face Union = refl
union-face (Active m x) = refl

dead-face : (x : Tree) → is_dead (face x) ≡ is_dead x
dead-face (Leaf v) = refl
dead-face (Row xs) = refl
dead-face (Class p bs ms) = refl
dead-face Union = refl
dead-face (Active m x) = refl

deciding-face : (x : Tree) → is_deciding (face x) ≡ is_deciding x
deciding-face (Leaf v) = refl
deciding-face (Row xs) = refl
deciding-face (Class p bs ms) = refl
deciding-face Union = refl
deciding-face (Active m x) = refl

before-face : (to : Phase) (x : Tree) → is_before to (face x) ≡ is_before to x
before-face to (Leaf v) = refl
before-face to (Row xs) = refl
before-face to (Class p bs ms) = refl
before-face to Union = refl
before-face to (Active m x) = refl

indeterminate-face : (x : Tree) → is_indeterminate (face x) ≡ is_indeterminate x
indeterminate-face (Leaf v) = refl
indeterminate-face (Row xs) = refl
indeterminate-face (Class p bs ms) = refl
indeterminate-face Union = refl
indeterminate-face (Active m x) = refl

sealed-face : (r : TypeRow) (x : Tree) → is_sealed r (face x) ≡ is_sealed r x
sealed-face r (Leaf v) = refl
sealed-face r (Row xs) = refl
sealed-face r (Class phase.Unborn bs ms) = refl
sealed-face r (Class phase.Bases bs ms) = refl
sealed-face r (Class phase.Body bs ms) = refl
sealed-face r (Class phase.Alive bs ms) = refl
sealed-face r (Class phase.Ending bs ms) = refl
sealed-face r (Class phase.EndingBases bs ms) = refl
sealed-face r (Class phase.Ended bs ms) = refl
sealed-face r Union = refl
sealed-face r (Active m x) = refl

-- a test that looks at faces alone answers the same after a change of a part
by-face : {B : Type 0} (test : Tree → B) → ((x : Tree) → test (face x) ≡ test x) → (f : Tree → Tree) (x : Tree) (s : Step) → test (part_changed f x s) ≡ test x
by-face test looks f x s = sym (looks (part_changed f x s)) ∙ ap test (face-part_changed f x s) ∙ looks x

module _ (f : Tree → Tree) (x : Tree) (s u : Step) {B : Type 0} (k : Option Tree → B) where
  of-changed : ((y : Tree) → k (Some (f y)) ≡ k (Some y)) → (o : Option Tree) → k (option_map f o) ≡ k o
  of-changed h None = refl
  of-changed h (Some y) = h y

  -- what is told of one part is told of it after a change of this part, or another, if it is told of the changed one
  pub over-part : (same_step s u ≡ true → (y : Tree) → k (Some (f y)) ≡ k (Some y)) → k (part (part_changed f x s) u) ≡ k (part x u)
  over-part h = elim (cases_Bool (same_step s u)) as (λ _. k (part (part_changed f x s) u) ≡ k (part x u)) [
    | inl e ↦ ap k (subst (λ w. part (part_changed f x s) w ≡ option_map f (part x w)) (same_step-true s u e) (part_changed-here f x s)) ∙ of-changed (h e) (part x u)
    | inr e ↦ ap k (part_changed-other f x s u e)
  ]

-- where the first steps of both are the same, the rest isn't a front either
rest-outside : (s u : Step) (ps us : List Step) → is_front (s ∷ ps) (u ∷ us) ≡ false → same_step s u ≡ true → is_front ps us ≡ false
rest-outside s u ps us n e = sym (ap (λ b. b && is_front ps us) e) ∙ n

-- faces along steps that don't lead through the changed part

pub below-face : (f : Tree → Tree) (x : Tree) (ps us : List Step) → is_front ps us ≡ false → option_map face (below (changed f x ps) us) ≡ option_map face (below x us)
below-face f x [] us n = absurd (true≢false n)
below-face f x (s ∷ ps) [] n = ap Some (face-part_changed (λ y. changed f y ps) x s)
below-face f x (s ∷ ps) (u ∷ us) n =
    over-part (λ y. changed f y ps) x s u (λ o. option_map face (option_and_then (λ y. below y us) o)) (λ e y. below-face f y ps us (rest-outside s u ps us n e))

passes-face : (test : Tree → Bool) → ((x : Tree) → test (face x) ≡ test x) → (o : Option Tree) → passes test (option_map face o) ≡ passes test o
passes-face test looks None = refl
passes-face test looks (Some x) = looks x

module _ (f : Tree → Tree) (x : Tree) (ps us : List Step) (n : is_front ps us ≡ false) where
  pub passes-outside : (test : Tree → Bool) → ((x : Tree) → test (face x) ≡ test x) → passes test (below (changed f x ps) us) ≡ passes test (below x us)
  passes-outside test looks = sym (passes-face test looks (below (changed f x ps) us)) ∙ ap (passes test) (below-face f x ps us n) ∙ passes-face test looks (below x us)

-- a test of the parts on the way

pub way-outside : (test : Tree × Step → Bool) → ((f : Tree → Tree) (x : Tree) (s u : Step) → test (part_changed f x s, u) ≡ test (x, u)) → (f : Tree → Tree) (x : Tree) (ps us : List Step) → is_front ps us ≡ false → list_any test (on_way (changed f x ps) us) ≡ list_any test (on_way x us)
way-outside test looks f x [] us n = absurd (true≢false n)
way-outside test looks f x (s ∷ ps) [] n = refl
way-outside test looks f x (s ∷ ps) (u ∷ us) n =
    ap (λ b. b || list_any test (unwrap_or (option_map (λ y. on_way y us) (part (changed f x (s ∷ ps)) u)) [])) (looks (λ y. changed f y ps) x s u)
    ∙ ap (λ b. test (x, u) || b) (over-part (λ y. changed f y ps) x s u (λ o. list_any test (unwrap_or (option_map (λ y. on_way y us) o) [])) (λ e y. way-outside test looks f y ps us (rest-outside s u ps us n e)))

stops-kept : (f : Tree → Tree) (x : Tree) (s u : Step) → stops (part_changed f x s, u) ≡ stops (x, u)
stops-kept f x s u =
    ap (λ b. b && not (is_some (part (part_changed f x s) u))) (by-face is_union union-face f x s)
    ∙ ap (λ b. is_union x && not b) (over-part f x s u is_some (λ e y. refl))

dead-kept : (f : Tree → Tree) (x : Tree) (s u : Step) → is_dead (part_changed f x s) ≡ is_dead x
dead-kept f x s u = by-face is_dead dead-face f x s

-- const parts on the way

sealed-row : (t : Tables) (us : List Step) (y z : Tree) → ((q : TypeRow) → sealed t q y us ≡ sealed t q z us) → (row : Option TypeRow) → unwrap_or (option_and_then (λ (q : TypeRow). option_map (λ w. sealed t q w us) (Some y)) row) false ≡ unwrap_or (option_and_then (λ (q : TypeRow). option_map (λ w. sealed t q w us) (Some z)) row) false
sealed-row t us y z h None = refl
sealed-row t us y z h (Some q) = h q

pub sealed-outside : (t : Tables) (r : TypeRow) (f : Tree → Tree) (x : Tree) (ps us : List Step) → is_front ps us ≡ false → sealed t r (changed f x ps) us ≡ sealed t r x us
sealed-outside t r f x [] us n = absurd (true≢false n)
sealed-outside t r f x (s ∷ ps) [] n = by-face (is_sealed r) (sealed-face r) (λ y. changed f y ps) x s
sealed-outside t r f x (s ∷ ps) (u ∷ us) n =
    ap (λ b. b || unwrap_or (option_and_then (λ (q : TypeRow). option_map (λ y. sealed t q y us) (part (changed f x (s ∷ ps)) u)) (row_part t r u)) false) (by-face (is_sealed r) (sealed-face r) (λ y. changed f y ps) x s)
    ∙ ap (λ b. is_sealed r x || b) (over-part (λ y. changed f y ps) x s u (λ o. unwrap_or (option_and_then (λ (q : TypeRow). option_map (λ y. sealed t q y us) o) (row_part t r u)) false)
    (λ e y. sealed-row t us (changed f y ps) y (λ q. sealed-outside t q f y ps us (rest-outside s u ps us n e)) (row_part t r u)))

-- the enclosing objects

front-then : (ps us ss : List Step) → is_front ps us ≡ true → is_front us ss ≡ true → is_front ps ss ≡ true
front-then [] us ss a b = refl
front-then (s ∷ ps) [] ss a b = absurd (cc)
front-then (s ∷ ps) (u ∷ us) [] a b = absurd (cc)
front-then (s ∷ ps) (u ∷ us) (v ∷ ss) a b =
    let d : s ≡ u = same_step-true s u (and-left (same_step s u) (is_front ps us) a) in
    and-both (same_step s v) (is_front ps ss) (ap (λ w. same_step w v) d ∙ and-left (same_step u v) (is_front us ss) b)
    (front-then ps us ss (and-right (same_step s u) (is_front ps us) a) (and-right (same_step u v) (is_front us ss) b))

front-outside : (ps us ss : List Step) → is_front ps ss ≡ false → is_front us ss ≡ true → is_front ps us ≡ false
front-outside ps us ss n b = elim (cases_Bool (is_front ps us)) as (λ _. is_front ps us ≡ false) [
  | inl a ↦ absurd (true≢false (sym (front-then ps us ss a b) ∙ n))
  | inr e ↦ e
]

abbrev Fronts : List Step → List (List Step) → Type 0
Fronts ss = All (λ us. is_front us ss ≡ true)

itself-front : (b : Bool) (ss : List Step) → Fronts ss (if b then [] ∷ [] else [])
itself-front true ss = All-cons (λ us. is_front us ss ≡ true) [] [] refl (All-nil (λ us. is_front us ss ≡ true))
itself-front false ss = All-nil (λ us. is_front us ss ≡ true)

enclosing-fronts : (ss : List Step) → Fronts ss (enclosing ss)
enclosing-fronts [] = All-cons (λ us. is_front us [] ≡ true) [] [] refl (All-nil (λ us. is_front us [] ≡ true))
enclosing-fronts (s ∷ ss) =
    All-append (λ us. is_front us (s ∷ ss) ≡ true) (if all_bases (s ∷ ss) then [] ∷ [] else []) (map (λ us. s ∷ us) (enclosing ss))
    (itself-front (all_bases (s ∷ ss)) (s ∷ ss))
    (All-map (λ us. is_front us (s ∷ ss) ≡ true) (λ us. s ∷ us) (enclosing ss)
    (All-weaker (λ us. is_front us ss ≡ true) (λ us. is_front (s ∷ us) (s ∷ ss) ≡ true) (λ us e. and-both (same_step s s) (is_front us ss) (same_step-refl s) e) (enclosing ss) (enclosing-fronts ss)))

find-same : {A : Type 0} (f g : A → Bool) (xs : List A) → All (λ a. f a ≡ g a) xs → find f xs ≡ find g xs
find-same f g [] h = refl
find-same f g (x ∷ xs) h =
    ap (λ b. cond b (Some x) (find f xs)) (All-head (λ a. f a ≡ g a) x xs h)
    ∙ ap (λ o. cond (g x) (Some x) o) (find-same f g xs (All-tail (λ a. f a ≡ g a) x xs h))

-- the conditions at an object of which a part is changed, for steps that don't lead through this part

module _ (t : Tables) (f : Tree → Tree) (ps : List Step) (o : Object) (ss : List Step) (n : is_front ps ss ≡ false) where
  decides-same : (us : List Step) → is_front us ss ≡ true → decides (with_changed f ps o) us ≡ decides o us
  decides-same us b = ap (λ c. is_opaque o.birth || c) (passes-outside f o.tree ps us (front-outside ps us ss n b) is_deciding deciding-face)

  pub dynamic-same : dynamic_in t (with_changed f ps o) ss ≡ dynamic_in t o ss
  dynamic-same =
      ap (option_and_then (λ us. option_map (λ c. (c, us)) (class_below t o us)))
      (find-same (decides (with_changed f ps o)) (decides o) (enclosing ss) (All-weaker (λ us. is_front us ss ≡ true) (λ us. decides (with_changed f ps o) us ≡ decides o us) decides-same (enclosing ss) (enclosing-fronts ss)))

  dead-same : passes is_dead (below (changed f o.tree ps) ss) ≡ passes is_dead (below o.tree ss)
  dead-same = passes-outside f o.tree ps ss n is_dead dead-face

  lifetime-same : (access : Access) → is_out_of_lifetime t (with_changed f ps o) access ss ≡ is_out_of_lifetime t o access ss
  lifetime-same (Advance to) = ap not (passes-outside f o.tree ps ss n (is_before to) (before-face to))
  lifetime-same Dynamic = ap (λ b. b || not (is_some (dynamic_in t (with_changed f ps o) ss))) dead-same ∙ ap (λ d. passes is_dead (below o.tree ss) || not (is_some d)) dynamic-same
  lifetime-same Part = dead-same
  lifetime-same (Outer c) = dead-same
  lifetime-same Load = dead-same
  lifetime-same Which = dead-same
  lifetime-same Store = dead-same
  lifetime-same Init = dead-same
  lifetime-same Activate = dead-same
  lifetime-same Call = dead-same
  lifetime-same Release = dead-same

  outer-same : (access : Access) → lacks_outer t (with_changed f ps o) access ss ≡ lacks_outer t o access ss
  outer-same (Outer c) = refl
  outer-same access = refl

  sealed-same : (row : Option TypeRow) → list_any (λ (r : TypeRow). sealed t r (changed f o.tree ps) ss) (listed row) ≡ list_any (λ (r : TypeRow). sealed t r o.tree ss) (listed row)
  sealed-same None = refl
  sealed-same (Some r) = ap (λ b. b || false) (sealed-outside t r f o.tree ps ss n)

pub holds-same : (t : Tables) (f : Tree → Tree) (ps : List Step) (o : Object) (q : Path) → is_front ps q.steps ≡ false → (access : Access) (r : Rule) → holds t (with_changed f ps o) q access r ≡ holds t o q access r
holds-same t f ps o q n access rule.InactiveMember = ap (λ b. not (is_opaque o.birth) && b) (way-outside stops stops-kept f o.tree ps q.steps n)
holds-same t f ps o q n access rule.OutOfLifetime =
    ap (λ b. not (is_opaque o.birth) && (b || is_out_of_lifetime t (with_changed f ps o) access q.steps)) (way-outside (λ w. is_dead w.0) dead-kept f o.tree ps q.steps n)
    ∙ ap (λ b. not (is_opaque o.birth) && (list_any (λ w. is_dead w.0) (on_way o.tree q.steps) || b)) (lifetime-same t f ps o q.steps n access)
holds-same t f ps o q n access rule.Indeterminate = passes-outside f o.tree ps q.steps n is_indeterminate indeterminate-face
holds-same t f ps o q n access rule.ConstWrite = sealed-same t f ps o q.steps n (root_row t o)
holds-same t f ps o q n access rule.DownCast = outer-same t f ps o q.steps n access
holds-same t f ps o q n access r = refl

-- the rules and what is read at a path outside

find-alike : {A : Type 0} (f g : A → Bool) → ((a : A) → f a ≡ g a) → (xs : List A) → find f xs ≡ find g xs
find-alike f g h xs = find-same f g xs (λ k d l. h (slice_index_or xs k d))

steps-outside : (p q : Path) → is_outside p q ≡ true → (p.object == q.object) ≡ true → is_front p.steps q.steps ≡ false
steps-outside p q h e = sym (ap (λ b. b && is_front p.steps q.steps) e) ∙ not-true ((p.object == q.object) && is_front p.steps q.steps) h

module _ {B : Type 0} (f : Tree → Tree) (os : Objects) (p q : Path) (out : is_outside p q ≡ true) (k : Object → Option B) (h : is_front p.steps q.steps ≡ false → (o : Object) → k (with_changed f p.steps o) ≡ k o) where
  asked-outside : option_and_then k (slice_get (put f os p) q.object) ≡ option_and_then k (slice_get os q.object)
  asked-outside = asked-parted f os p q (is_front p.steps q.steps ≡ false) k h (parted p q (is_front p.steps q.steps ≡ false) (steps-outside p q out))

pub broken-outside : (t : Tables) (f : Tree → Tree) (os : Objects) (p q : Path) (access : Access) → is_outside p q ≡ true → broken t (put f os p) q access ≡ broken t os q access
broken-outside t f os p q access h =
    asked-outside f os p q h (λ (o : Object). find (holds t o q access) (order access))
    (λ n o. find-alike (holds t (with_changed f p.steps o) q access) (holds t o q access) (λ r. holds-same t f p.steps o q n access r) (order access))

-- what is told of the face at a path
face-at : (f : Tree → Tree) (os : Objects) (p q : Path) → is_outside p q ≡ true → option_map face (at (put f os p) q) ≡ option_map face (at os q)
face-at f os p q h =
    sym (map-and_then face (λ (o : Object). below o.tree q.steps) (slice_get (put f os p) q.object))
    ∙ asked-outside f os p q h (λ (o : Object). option_map face (below o.tree q.steps)) (λ n o. below-face f o.tree p.steps q.steps n)
    ∙ map-and_then face (λ (o : Object). below o.tree q.steps) (slice_get os q.object)

scalar-face : (o : Option Tree) → scalar_of (option_map face o) ≡ scalar_of o
scalar-face None = refl
scalar-face (Some (Leaf v)) = refl
scalar-face (Some (Row xs)) = refl
scalar-face (Some (Class p bs ms)) = refl
scalar-face (Some Union) = refl
scalar-face (Some (Active m x)) = refl

member-face : (o : Option Tree) → member_of (option_map face o) ≡ member_of o
member-face None = refl
member-face (Some (Leaf v)) = refl
member-face (Some (Row xs)) = refl
member-face (Some (Class p bs ms)) = refl
member-face (Some Union) = refl
member-face (Some (Active m x)) = refl

pub load-outside : (t : Tables) (f : Tree → Tree) (os : Objects) (p q : Path) → is_outside p q ≡ true → load t (put f os p) q ≡ load t os q
load-outside t f os p q h =
    ap (λ r. unless r (scalar_of (at (put f os p) q))) (broken-outside t f os p q Load h)
    ∙ ap (unless (broken t os q Load)) (sym (scalar-face (at (put f os p) q)) ∙ ap scalar_of (face-at f os p q h) ∙ scalar-face (at os q))

pub active-outside : (t : Tables) (f : Tree → Tree) (os : Objects) (p q : Path) → is_outside p q ≡ true → active t (put f os p) q ≡ active t os q
active-outside t f os p q h =
    ap (λ r. unless r (member_of (at (put f os p) q))) (broken-outside t f os p q Which h)
    ∙ ap (unless (broken t os q Which)) (sym (member-face (at (put f os p) q)) ∙ ap member_of (face-at f os p q h) ∙ member-face (at os q))

pub dynamic-outside : (t : Tables) (f : Tree → Tree) (os : Objects) (p q : Path) → is_outside p q ≡ true → dynamic_class t (put f os p) q ≡ dynamic_class t os q
dynamic-outside t f os p q h =
    ap (λ r. unless r (option_map (with_place q) (option_and_then (λ (o : Object). dynamic_in t o q.steps) (slice_get (put f os p) q.object)))) (broken-outside t f os p q Dynamic h)
    ∙ ap (λ d. unless (broken t os q Dynamic) (option_map (with_place q) d))
    (asked-outside f os p q h (λ (o : Object). dynamic_in t o q.steps) (λ n o. dynamic-same t f p.steps o q.steps n))

-- what was stored is read

-- a change at the end of steps changes nothing on the way there
pub way-along : (test : Tree × Step → Bool) → ((f : Tree → Tree) (x : Tree) (s u : Step) → test (part_changed f x s, u) ≡ test (x, u)) → (f : Tree → Tree) (x : Tree) (ss : List Step) → list_any test (on_way (changed f x ss) ss) ≡ list_any test (on_way x ss)
way-along test looks f x [] = refl
way-along test looks f x (s ∷ ss) =
    ap (λ b. b || list_any test (unwrap_or (option_map (λ y. on_way y ss) (part (changed f x (s ∷ ss)) s)) [])) (looks (λ y. changed f y ss) x s s)
    ∙ ap (λ b. test (x, s) || b) (over-part (λ y. changed f y ss) x s s (λ o. list_any test (unwrap_or (option_map (λ y. on_way y ss) o) [])) (λ e y. way-along test looks f y ss))

module _ (t : Tables) (os : Objects) (p : Path) (v : Scalar Path) (new : Objects) (o : Object) (there : slice_get os p.object ≡ Some o) (stored : store t os p v ≡ Ok new) (known : is_indeterminate (Leaf v) ≡ false) where
  abbrev written : Tree → Tree
  written x = Leaf v

  unbroken : All (λ q. holds t o p Store q ≡ false) (order Store)
  unbroken = broken-none t os p Store (unless-ok (broken t os p Store) (put written os p) new stored).0 o there

  near : is_opaque o.birth ≡ false
  near = here-not_opaque o.birth (not-false (is_here o.birth) (unbroken 2 rule.Dangling (omega arith)))

  no_stop : list_any stops (on_way o.tree p.steps) ≡ false
  no_stop = sym (ap (λ b. not b && list_any stops (on_way o.tree p.steps)) near) ∙ unbroken 3 rule.Dangling (omega arith)

  none_dead : list_any (λ w. is_dead w.0) (on_way o.tree p.steps) ≡ false
  none_dead = (or_parts (list_any (λ w. is_dead w.0) (on_way o.tree p.steps)) (passes is_dead (below o.tree p.steps)) (sym (ap (λ b. not b && (list_any (λ w. is_dead w.0) (on_way o.tree p.steps) || passes is_dead (below o.tree p.steps))) near) ∙ unbroken 4 rule.Dangling (omega arith))).0

  leaf-passes : (test : Tree → Bool) → test (Leaf v) ≡ false → (x : Option Tree) → passes test (option_map written x) ≡ false
  leaf-passes test e None = refl
  leaf-passes test e (Some x) = e

  passes-written : (test : Tree → Bool) → test (Leaf v) ≡ false → passes test (below (changed written o.tree p.steps) p.steps) ≡ false
  passes-written test e = ap (passes test) (below-changed_here written o.tree p.steps) ∙ leaf-passes test e (below o.tree p.steps)

  abbrev Fails : Rule → Type 0
  Fails r = holds t (with_changed written p.steps o) p Load r ≡ false

  stop_fails : Fails rule.InactiveMember
  stop_fails =
      ap (λ b. not b && list_any stops (on_way (changed written o.tree p.steps) p.steps)) near
      ∙ way-along stops stops-kept written o.tree p.steps ∙ no_stop

  death_fails : Fails rule.OutOfLifetime
  death_fails =
      ap (λ b. not b && (list_any (λ w. is_dead w.0) (on_way (changed written o.tree p.steps) p.steps) || passes is_dead (below (changed written o.tree p.steps) p.steps))) near
      ∙ ap (λ b. b || passes is_dead (below (changed written o.tree p.steps) p.steps)) (way-along (λ w. is_dead w.0) dead-kept written o.tree p.steps ∙ none_dead)
      ∙ passes-written is_dead refl

  all_fail : All Fails (order Load)
  all_fail =
      All-cons Fails rule.Dangling (rule.PastEnd ∷ rule.NotUsable ∷ rule.InactiveMember ∷ rule.OutOfLifetime ∷ rule.Indeterminate ∷ []) (unbroken 0 rule.Dangling (omega arith))
      (All-cons Fails rule.PastEnd (rule.NotUsable ∷ rule.InactiveMember ∷ rule.OutOfLifetime ∷ rule.Indeterminate ∷ []) (unbroken 1 rule.Dangling (omega arith))
      (All-cons Fails rule.NotUsable (rule.InactiveMember ∷ rule.OutOfLifetime ∷ rule.Indeterminate ∷ []) near
      (All-cons Fails rule.InactiveMember (rule.OutOfLifetime ∷ rule.Indeterminate ∷ []) stop_fails
      (All-cons Fails rule.OutOfLifetime (rule.Indeterminate ∷ []) death_fails
      (All-cons Fails rule.Indeterminate [] (passes-written is_indeterminate known) (All-nil Fails))))))

  pub stored-unbroken : broken t new p Load ≡ None
  stored-unbroken =
      ap (λ n. broken t n p Load) (sym (unless-ok (broken t os p Store) (put written os p) new stored).1)
      ∙ broken-at t (put written os p) p Load (with_changed written p.steps o) (put-object written os p ∙ ap (option_map (with_changed written p.steps)) there)
      ∙ none-find (holds t (with_changed written p.steps o) p Load) (order Load) all_fail

pub stored-read : (t : Tables) (os : Objects) (p : Path) (v : Scalar Path) (new : Objects) (x : Tree) → store t os p v ≡ Ok new → at os p ≡ Some x → is_indeterminate (Leaf v) ≡ false → load t new p ≡ Ok v
stored-read t os p v new x e a known =
    let i = option_and_then-some (λ (o : Object). below o.tree p.steps) (slice_get os p.object) x a in
    ap (λ r. unless r (scalar_of (at new p))) (stored-unbroken t os p v new i.0 i.1 e known)
    ∙ ap (λ o. Ok (scalar_of o)) (write-there t os p (steps.Store v) new x e a)

pub init-read : (t : Tables) (os : Objects) (p : Path) (v w : Scalar Path) (new : Objects) (x : Tree) → init t os p v ≡ Ok new → at os p ≡ Some x → load t new p ≡ Ok w → w ≡ v
init-read t os p v w new x e a l = sym (unless-ok (broken t new p Load) (scalar_of (at new p)) w l).1 ∙ ap scalar_of (write-there t os p (steps.Init v) new x e a)

-- each step that writes is such a change

module _ (t : Tables) (os : Objects) (p : Path) (new : Objects) (q : Path) (out : is_outside p q ≡ true) (access : Access) where
  from-put : (f : Tree → Tree) (o : Option Rule) → unless o (put f os p) ≡ Ok new → broken t new q access ≡ broken t os q access
  from-put f o e = ap (λ n. broken t n q access) (sym (unless-ok o (put f os p) new e).1) ∙ broken-outside t f os p q access out

  pub write-outside : (w : Write) → write t os p w ≡ Ok new → broken t new q access ≡ broken t os q access
  write-outside w e = from-put (steps.written t (row_of t os p) w) (broken t os p (access_of w)) e

pub stored-elsewhere : (t : Tables) (os : Objects) (p q : Path) (v : Scalar Path) (new : Objects) → is_outside p q ≡ true → store t os p v ≡ Ok new → load t new q ≡ load t os q
stored-elsewhere t os p q v new out e = ap (λ n. load t n q) (sym (unless-ok (broken t os p Store) (put (λ _. Leaf v) os p) new e).1) ∙ load-outside t (λ _. Leaf v) os p q out
