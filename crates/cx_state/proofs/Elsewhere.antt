-- What each step on objects changes, and that it changes nothing else.
use Rattle.std.proofs.Common.{◌≡◌, ℕ, zero, suc, ◌==◌, ◌<◌, ◌≤◌, Bool, true, false, ◌&&◌, ◌||◌, not, List, [], ◌∷◌, ◌++◌, length, take, Option, None, Some, Ok, inl, inr, refl, sym, ap, subst, ◌∙◌, slice_get, arith, eqb-true, eq-eqb, ne_eqb, length-append, length-take, if◌then◌else◌}
use Rattle.std.specs.List.{list_any, find}
use Rattle.std.specs.Prelude.{option_map, option_and_then}
use Rattle.std.proofs.lemmas.Bool.{cases_Bool, not-false, or_parts, and_right, eqb-false}
use Rattle.std.proofs.lemmas.Bool.Decides.{eqb_tells}
use Rattle.std.proofs.lemmas.Option.{slice_get_past, slice_get_within}
use Rattle.cx_base.specs.declared.rule.Rule.{Rule}
use Rattle.cx_base.specs.declared.rule.Rule.TheVariants as rule
use Rattle.cx_base.specs.declared.limits.Limits.{Limits}
use Rattle.cx_type_defs.specs.declared.ids.Step.{Step}
use Rattle.cx_type_defs.specs.declared.ids.Step.TheVariants as step
use Rattle.cx_type_defs.specs.Tables.{no_types, Tables, changed_at}
use Rattle.cx_type_defs.proofs.Lists.{some_inj, option_map-some, option_and_then-some, slice_get-last}
use Rattle.cx_state.specs.declared.kind.Birth.{Birth}
use Rattle.cx_state.specs.declared.kind.Birth.TheVariants as birth
use Rattle.cx_state.specs.declared.kind.Phase.{Phase}
use Rattle.cx_state.specs.Objects.{Path, Tree, Trees, Leaf, Row, Class, Union, Active, End, More, Object, Objects, tree_at, part, below, changed, at, put}
use Rattle.cx_state.specs.Places.{row_of}
use Rattle.cx_state.specs.Conditions as on
use Rattle.cx_state.specs.Pointers.{is_dangling}
use Rattle.cx_state.specs.Steps.{unless, advance, activate, deactivated, deactivate, release, settle, cut, member_of, member_tree, activated, begun, is_ended, with_phase, ended, all_ended, given_up, whole_path, Write, Init, Store, Advance, Activate, Deactivate, access_of, written, write}
use Rattle.cx_state.specs.Counts.{Request, new_object, passes_limit, limit_order, make, next_place}
use Rattle.cx_state.specs.Elsewhere.{within, is_over, Elsewhere, OneObject}
use Rattle.cx_state.proofs.Paths.{and-left, and_then-map, and_then-same, changed_at-here, changed_at-other, changed_at-length, with_changed, put-object, put-others, put-length, at-put, at-put_aside, put-still, at-within}
use Rattle.cx_state.proofs.Rules.{broken-none, released-some, some-released}

-- where a step answers, no rule was broken, and the answer is the changed one

pub unless-ok : {A : Type 0} (o : Option Rule) (a b : A) → unless o a ≡ Ok b → (o ≡ None) × (a ≡ b)
unless-ok None a b e = (refl, cc)
unless-ok (Some r) a b e = absurd (cc)

pub put-elsewhere : (f : Tree → Tree) (os : Objects) (p : Path) → Elsewhere os (put f os p) p
put-elsewhere f os p = record {
  as_many = put-length f os p;
  other_objects = put-others f os p;
  record_stays = λ o e. (changed f o.tree p.steps, put-object f os p ∙ ap (option_map (with_changed f p.steps)) e);
  aside = at-put_aside f os p;
}

-- such a step is a change at its path
pub put-stays : (f : Tree → Tree) (os : Objects) (p : Path) (o : Option Rule) (new : Objects) → unless o (put f os p) ≡ Ok new → Elsewhere os new p
put-stays f os p o new e = subst (λ n. Elsewhere os n p) (unless-ok o (put f os p) new e).1 (put-elsewhere f os p)

pub at-new : (f : Tree → Tree) (os : Objects) (p : Path) (o : Option Rule) (new : Objects) → unless o (put f os p) ≡ Ok new → at new p ≡ option_map f (at os p)
at-new f os p o new e = ap (λ n. at n p) (sym (unless-ok o (put f os p) new e).1) ∙ at-put f os p

pub at-new_some : (f : Tree → Tree) (os : Objects) (p : Path) (o : Option Rule) (new : Objects) (x : Tree) → unless o (put f os p) ≡ Ok new → at os p ≡ Some x → at new p ≡ Some (f x)
at-new_some f os p o new x e a = at-new f os p o new e ∙ ap (option_map f) a

module _ (t : Tables) (os : Objects) (p : Path) where
  pub write-stays : (w : Write) (new : Objects) → write t os p w ≡ Ok new → Elsewhere os new p
  write-stays w new e = put-stays (written t (row_of t os p) w) os p (on.broken t os p (access_of w)) new e

  pub write-there : (w : Write) (new : Objects) (x : Tree) → write t os p w ≡ Ok new → at os p ≡ Some x → at new p ≡ Some (written t (row_of t os p) w x)
  write-there w new x e a = at-new_some (written t (row_of t os p) w) os p (on.broken t os p (access_of w)) new x e a

  -- the phase of a class and nothing of its parts

  part-with_phase : (to : Phase) (x : Tree) (s : Step) → part (with_phase to x) s ≡ part x s
  part-with_phase to (Class k bs ms) (step.Base i) = refl
  part-with_phase to (Class k bs ms) (step.Field i) = refl
  part-with_phase to x s = refl

  pub advance-parts : (to : Phase) (new : Objects) (s : Step) (ss : List Step) (past : Bool) → advance t os p to ≡ Ok new → at new (within p (s ∷ ss) past) ≡ at os (within p (s ∷ ss) past)
  advance-parts to new s ss past e =
      at-within new p (s ∷ ss) past
      ∙ ap (option_and_then (λ x. below x (s ∷ ss))) (at-new (with_phase to) os p (on.broken t os p (on.Advance to)) new e)
      ∙ and_then-map (λ x. below x (s ∷ ss)) (with_phase to) (at os p)
      ∙ and_then-same (λ x. below (with_phase to x) (s ∷ ss)) (λ x. below x (s ∷ ss)) (λ x. ap (option_and_then (λ y. below y ss)) (part-with_phase to x s)) (at os p)
      ∙ sym (at-within os p (s ∷ ss) past)

pub here-not_opaque : (b : Birth) → on.is_here b ≡ true → on.is_opaque b ≡ false
here-not_opaque birth.Here e = refl
here-not_opaque birth.Usable e = absurd (cc)
here-not_opaque birth.Opaque e = absurd (cc)

-- a class that may advance is in the phase before
pub record InPhaseBefore (to : Phase) (x : Option Tree) : Type 0 where
  pub from : Phase
  pub bases : Trees
  pub members : Trees
  pub is_class : x ≡ Some (Class from bases members)
  pub next : suc (on.phase_number from) ≡ on.phase_number to

passes-before : (to : Phase) (x : Option Tree) → on.passes (on.is_before to) x ≡ true → InPhaseBefore to x
passes-before to None e = absurd (cc)
passes-before to (Some (Class k bs ms)) e = record { from = k; bases = bs; members = ms; is_class = refl; next = eqb-true (suc (on.phase_number k)) (on.phase_number to) e }
passes-before to (Some (Leaf v)) e = absurd (cc)
passes-before to (Some (Row xs)) e = absurd (cc)
passes-before to (Some Union) e = absurd (cc)
passes-before to (Some (Active m x)) e = absurd (cc)

pub advance-phase : (t : Tables) (os : Objects) (p : Path) (to : Phase) (new : Objects) (o : Object) → slice_get os p.object ≡ Some o → advance t os p to ≡ Ok new → (from : Phase) × (bases : Trees) × (members : Trees) × (at os p ≡ Some (Class from bases members)) × (suc (on.phase_number from) ≡ on.phase_number to)
advance-phase t os p to new o e a =
    let none = broken-none t os p (on.Advance to) (unless-ok (on.broken t os p (on.Advance to)) (put (with_phase to) os p) new a).0 o e in
    let outside : not (on.is_here o.birth) ≡ false = none 2 rule.Dangling (omega arith) in
    let dead : on.holds t o p (on.Advance to) rule.OutOfLifetime ≡ false = none 4 rule.Dangling (omega arith) in
    let near : on.is_opaque o.birth ≡ false = here-not_opaque o.birth (not-false (on.is_here o.birth) outside) in
    let c : (list_any (λ w. on.is_dead w.0) (on.on_way o.tree p.steps) || not (on.passes (on.is_before to) (below o.tree p.steps))) ≡ false =
    sym (ap (λ b. not b && (list_any (λ w. on.is_dead w.0) (on.on_way o.tree p.steps) || not (on.passes (on.is_before to) (below o.tree p.steps)))) near) ∙ dead in
    let w = passes-before to (below o.tree p.steps) (not-false (on.passes (on.is_before to) (below o.tree p.steps)) (or_parts (list_any (λ w. on.is_dead w.0) (on.on_way o.tree p.steps)) (not (on.passes (on.is_before to) (below o.tree p.steps))) c).1) in
    (w.from, w.bases, w.members, ap (option_and_then (λ (u : Object). below u.tree p.steps)) e ∙ w.is_class, w.next)

-- active members

activated-active : (m : ℕ) (new x : Tree) → on.is_union x ≡ true → member_of (Some (activated m new x)) ≡ Some m
activated-active m new Union e = refl
activated-active m new (Active k x) e = elim (cases_Bool ((k == m) && not (is_ended x))) as (λ _. member_of (Some (activated m new (Active k x))) ≡ Some m) [
  | inl y ↦ ap (λ b. member_of (Some (if b then Active k x else Active m new))) y ∙ ap Some (eqb-true k m (and-left (k == m) (not (is_ended x)) y))
  | inr n ↦ ap (λ b. member_of (Some (if b then Active k x else Active m new))) n
]
activated-active m new (Leaf v) e = absurd (cc)
activated-active m new (Row xs) e = absurd (cc)
activated-active m new (Class k bs ms) e = absurd (cc)

activated-new : (m : ℕ) (new x : Tree) → on.is_union x ≡ true → (member_of (Some x) ≡ Some m → ⊥) → activated m new x ≡ Active m new
activated-new m new Union e n = refl
activated-new m new (Active k x) e n = ap (λ b. if b && not (is_ended x) then Active k x else Active m new) (ne_eqb k m (λ d. n (ap Some d)))
activated-new m new (Leaf v) e n = absurd (cc)
activated-new m new (Row xs) e n = absurd (cc)
activated-new m new (Class k bs ms) e n = absurd (cc)

activated-anew : (m : ℕ) (new x : Tree) → is_ended x ≡ true → activated m new (Active m x) ≡ Active m new
activated-anew m new x e = ap (λ b. if (m == m) && not b then Active m x else Active m new) e ∙ ap (λ b. if b then Active m x else Active m new) (and_right (m == m) false refl)

activated-again : (m : ℕ) (new x : Tree) → is_ended x ≡ false → activated m new (Active m x) ≡ Active m x
activated-again m new x e = ap (λ b. if (m == m) && not b then Active m x else Active m new) e ∙ ap (λ b. if b && true then Active m x else Active m new) (eq-eqb m m refl)

module _ (t : Tables) (os : Objects) (p : Path) (m : ℕ) (alive : Bool) (new : Objects) (x : Tree) (a : activate t os p m alive ≡ Ok new) where
  abbrev made_tree : Tree
  made_tree = member_tree t (begun alive) m (row_of t os p)

  there : (y : Tree) → at os p ≡ Some y → at new p ≡ Some (activated m made_tree y)
  there y e = at-new_some (activated m made_tree) os p (on.broken t os p on.Activate) new y a e

  pub activate-active : at os p ≡ Some x → on.is_union x ≡ true → member_of (at new p) ≡ Some m
  activate-active e u = ap member_of (there x e) ∙ activated-active m made_tree x u

  pub activate-new : at os p ≡ Some x → on.is_union x ≡ true → (member_of (Some x) ≡ Some m → ⊥) → at new p ≡ Some (Active m made_tree)
  activate-new e u n = there x e ∙ ap Some (activated-new m made_tree x u n)

  pub activate-anew : at os p ≡ Some (Active m x) → is_ended x ≡ true → at new p ≡ Some (Active m made_tree)
  activate-anew e d = there (Active m x) e ∙ ap Some (activated-anew m made_tree x d)

  pub activate-again : at os p ≡ Some (Active m x) → is_ended x ≡ false → new ≡ os
  activate-again e d =
      sym (unless-ok (on.broken t os p on.Activate) (put (activated m made_tree) os p) new a).1
      ∙ put-still (activated m made_tree) os p (λ y f. let g : Active m x ≡ y = some_inj (Active m x) y (sym e ∙ f) in subst (λ z. activated m made_tree z ≡ z) g (activated-again m made_tree x d))

-- one object

pub one-changed : (f : Object → Object) (os : Objects) (i : ℕ) → OneObject f os (changed_at f os i) i
one-changed f os i = record { as_many = changed_at-length f os i; that_object = changed_at-here f os i; other_objects = λ j n. changed_at-other f os i j n }

pub release-one : (os : Objects) (p : Path) (new : Objects) → release os p ≡ Ok new → OneObject given_up os new p.object
release-one os p new e = subst (λ n. OneObject given_up os n p.object) (unless-ok (on.broken no_types os p on.Release) (changed_at given_up os p.object) new e).1 (one-changed given_up os p.object)

pub release-leaves : (os : Objects) (p q : Path) (new : Objects) → release os p ≡ Ok new → (q.object ≡ p.object → ⊥) → at new q ≡ at os q
release-leaves os p q new e n = ap (option_and_then (λ (o : Object). below o.tree q.steps)) ((release-one os p new e).other_objects q.object n)

-- what is asked of each object alone is answered as before where the change leaves it so
each-same : {B : Type 0} (f : Object → Object) (g : Object → B) → ((o : Object) → g (f o) ≡ g o) → (os : Objects) (i j : ℕ) → option_map g (slice_get (changed_at f os i) j) ≡ option_map g (slice_get os j)
each-same f g h [] i j = refl
each-same f g h (o ∷ os) zero zero = ap Some (h o)
each-same f g h (o ∷ os) zero (suc j) = refl
each-same f g h (o ∷ os) (suc i) zero = refl
each-same f g h (o ∷ os) (suc i) (suc j) = each-same f g h os i j

pub settle-leaves : (os : Objects) (p q : Path) (b : Birth) → at (settle os p b) q ≡ at os q
settle-leaves os p q b =
    sym (and_then-map (λ x. below x q.steps) (λ (o : Object). o.tree) (slice_get (settle os p b) q.object))
    ∙ ap (option_and_then (λ x. below x q.steps)) (each-same (λ (o : Object). record o { birth = b }) (λ (o : Object). o.tree) (λ o. refl) os p.object q.object)
    ∙ and_then-map (λ x. below x q.steps) (λ (o : Object). o.tree) (slice_get os q.object)

-- what is left of an object that was given up

all_ended-at : (xs : Trees) (i : ℕ) → tree_at (all_ended xs) i ≡ option_map ended (tree_at xs i)
all_ended-at End i = refl
all_ended-at (More x xs) zero = refl
all_ended-at (More x xs) (suc i) = all_ended-at xs i

ended-over : (x : Tree) → is_over (ended x) ≡ true
ended-over (Leaf v) = refl
ended-over (Row xs) = refl
ended-over (Class k bs ms) = refl
ended-over Union = refl
ended-over (Active m x) = refl

ended-item : (xs : Trees) (i : ℕ) (y : Tree) → tree_at (all_ended xs) i ≡ Some y → (z : Tree) × (ended z ≡ y)
ended-item xs i y e = let w = option_map-some ended (tree_at xs i) y (sym (all_ended-at xs i) ∙ e) in (w.0, w.2)

part-ended : (x : Tree) (s : Step) (y : Tree) → part (ended x) s ≡ Some y → (z : Tree) × (ended z ≡ y)
part-ended (Row xs) (step.Elem i) y e = ended-item xs i y e
part-ended (Class k bs ms) (step.Base i) y e = ended-item bs i y e
part-ended (Class k bs ms) (step.Field i) y e = ended-item ms i y e
part-ended x s y e = absurd (cc)

below-ended : (x : Tree) (ss : List Step) (y : Tree) → below (ended x) ss ≡ Some y → is_over y ≡ true
below-ended x [] y e = ap is_over (sym (some_inj (ended x) y e)) ∙ ended-over x
below-ended x (s ∷ ss) y e =
    let i = option_and_then-some (λ z. below z ss) (part (ended x) s) y e in
    let z = part-ended x s i.0 i.1 in
    below-ended z.0 ss y (ap (λ w. below w ss) z.1 ∙ i.2)

pub release-over : (os : Objects) (p : Path) (new : Objects) (ss : List Step) (y : Tree) → release os p ≡ Ok new → at new (whole_path p ss) ≡ Some y → is_over y ≡ true
release-over os p new ss y e a =
    let b : option_and_then (λ (o : Object). below (ended o.tree) ss) (slice_get os p.object) ≡ Some y =
    sym (and_then-map (λ (o : Object). below o.tree ss) given_up (slice_get os p.object)) ∙ ap (option_and_then (λ (o : Object). below o.tree ss)) (sym (release-one os p new e).that_object) ∙ a in
    let i = option_and_then-some (λ (o : Object). below (ended o.tree) ss) (slice_get os p.object) y b in
    below-ended i.0.tree ss y i.2

-- new objects

pub front-get : {A : Type 0} (xs ys : List A) (i : ℕ) → i < length xs → slice_get (xs ++ ys) i ≡ slice_get xs i
front-get [] ys i l = absurd (omega arith)
front-get (x ∷ xs) ys zero l = refl
front-get (x ∷ xs) ys (suc i) l = front-get xs ys i (omega arith)

module _ (t : Tables) (limits : Limits) (os : Objects) (q : Request) (new : Objects) (e : make t limits os q ≡ Ok new) where
  pub make-new : new ≡ os ++ new_object t q ∷ []
  make-new = sym (unless-ok (find (passes_limit t limits os (new_object t q)) limit_order) (os ++ new_object t q ∷ []) new e).1

  pub make-length : length new ≡ suc (length os)
  make-length = ap length make-new ∙ omega (arith, length-append os (new_object t q ∷ []))

  pub make-others : (i : ℕ) → i < length os → slice_get new i ≡ slice_get os i
  make-others i l = ap (λ n. slice_get n i) make-new ∙ front-get os (new_object t q ∷ []) i l

  pub make-made : slice_get new (next_place os).object ≡ Some (new_object t q)
  make-made = ap (λ n. slice_get n (length os)) make-new ∙ slice_get-last os (new_object t q)

  pub make-tree : at new (next_place os) ≡ Some (new_object t q).tree
  make-tree = ap (option_and_then (λ (o : Object). below o.tree [])) make-made

  pub make-paths : (p : Path) → p.object < length os → at new p ≡ at os p
  make-paths p l = ap (option_and_then (λ (o : Object). below o.tree p.steps)) (make-others p.object l)

  pub make-undone : cut new (length os) ≡ os
  make-undone = ap (take (length os)) make-new ∙ front-take os (new_object t q ∷ [])
    where
      front-take : {A : Type 0} (xs ys : List A) → take (length xs) (xs ++ ys) ≡ xs
      front-take [] ys = refl
      front-take (x ∷ xs) ys = ap (λ l. x ∷ l) (front-take xs ys)

-- cutting

pub take-get : {A : Type 0} (xs : List A) (n i : ℕ) → i < n → slice_get (take n xs) i ≡ slice_get xs i
take-get xs zero i l = absurd (omega arith)
take-get [] (suc n) i l = refl
take-get (x ∷ xs) (suc n) zero l = refl
take-get (x ∷ xs) (suc n) (suc i) l = take-get xs n i (omega arith)

pub take-gone : {A : Type 0} (xs : List A) (n i : ℕ) → n ≤ i → slice_get (take n xs) i ≡ None
take-gone xs n i l = slice_get_past (take n xs) i (omega (arith, length-take n xs))

pub cut-paths : (os : Objects) (mark : ℕ) (p : Path) → p.object < mark → at (cut os mark) p ≡ at os p
cut-paths os mark p l = ap (option_and_then (λ (o : Object). below o.tree p.steps)) (take-get os mark p.object l)

-- released objects

pub release-dangling : (os : Objects) (p : Path) (new : Objects) (o : Object) → slice_get os p.object ≡ Some o → release os p ≡ Ok new → is_dangling new p ≡ true
release-dangling os p new o e r = some-released new p (given_up o) ((release-one os p new r).that_object ∙ ap (option_map given_up) e) refl

-- an object that a change leaves released is so before and after
one-dangling : (f : Object → Object) (before after : Objects) (i : ℕ) → ((o : Object) → o.released ≡ true → (f o).released ≡ true) → OneObject f before after i → (q : Path) → is_dangling before q ≡ true → is_dangling after q ≡ true
one-dangling f before after i keeps h q d =
    let w = released-some before q d in
    elim (eqb_tells q.object i) as (λ _. is_dangling after q ≡ true) [
      | inl s ↦ some-released after q (f w.0) (ap (slice_get after) s.1 ∙ h.that_object ∙ ap (option_map f) (ap (slice_get before) (sym s.1) ∙ w.1)) (keeps w.0 w.2)
      | inr s ↦ some-released after q w.0 (h.other_objects q.object s.1 ∙ w.1) w.2
    ]

pub written-dangling : (before after : Objects) (p q : Path) → Elsewhere before after p → is_dangling before q ≡ true → is_dangling after q ≡ true
written-dangling before after p q h d =
    let w = released-some before q d in
    elim (eqb_tells q.object p.object) as (λ _. is_dangling after q ≡ true) [
      | inl s ↦ (
          let k = h.record_stays w.0 (ap (slice_get before) (sym s.1) ∙ w.1) in
          some-released after q (record w.0 { tree = k.0 }) (ap (slice_get after) s.1 ∙ k.1) w.2)
      | inr s ↦ some-released after q w.0 (h.other_objects q.object s.1 ∙ w.1) w.2
    ]

pub release-keeps : (os : Objects) (p q : Path) (new : Objects) → release os p ≡ Ok new → is_dangling os q ≡ true → is_dangling new q ≡ true
release-keeps os p q new e d = one-dangling given_up os new p.object (λ o r. refl) (release-one os p new e) q d

pub settle-keeps : (os : Objects) (p q : Path) (b : Birth) → is_dangling os q ≡ true → is_dangling (settle os p b) q ≡ true
settle-keeps os p q b d = one-dangling (λ (o : Object). record o { birth = b }) os (settle os p b) p.object (λ o r. r) (one-changed (λ (o : Object). record o { birth = b }) os p.object) q d

pub make-keeps : (t : Tables) (limits : Limits) (os : Objects) (r : Request) (new : Objects) (q : Path) → make t limits os r ≡ Ok new → is_dangling os q ≡ true → is_dangling new q ≡ true
make-keeps t limits os r new q e d =
    let w = released-some os q d in
    some-released new q w.0 (make-others t limits os r new e q.object (slice_get_within os q.object w.0 w.1) ∙ w.1) w.2

-- no active member

deactivated-none : (x : Tree) → on.is_union x ≡ true → deactivated x ≡ Union
deactivated-none Union e = refl
deactivated-none (Active k x) e = refl
deactivated-none (Leaf v) e = absurd (cc)
deactivated-none (Row xs) e = absurd (cc)
deactivated-none (Class k bs ms) e = absurd (cc)

pub deactivate-none : (t : Tables) (os : Objects) (p : Path) (new : Objects) (x : Tree) → deactivate t os p ≡ Ok new → at os p ≡ Some x → on.is_union x ≡ true → at new p ≡ Some Union
deactivate-none t os p new x e a u = write-there t os p Deactivate new x e a ∙ ap Some (deactivated-none x u)

pub deactivate-again : (t : Tables) (os : Objects) (p : Path) (new : Objects) → deactivate t os p ≡ Ok new → at os p ≡ Some Union → new ≡ os
deactivate-again t os p new e a =
    sym (unless-ok (on.broken t os p on.Activate) (put deactivated os p) new e).1
    ∙ put-still deactivated os p (λ y f. let g : Union ≡ y = some_inj Union y (sym a ∙ f) in subst (λ z. deactivated z ≡ z) g refl)

-- an object that wasn't made here

made_here : (t : Tables) (os : Objects) (p : Path) (w : Write) (o : Object) → slice_get os p.object ≡ Some o → on.broken t os p (access_of w) ≡ None → not (on.is_here o.birth) ≡ false
made_here t os p (Init v) o e b = broken-none t os p on.Init b o e 2 rule.Dangling (omega arith)
made_here t os p (Store v) o e b = broken-none t os p on.Store b o e 2 rule.Dangling (omega arith)
made_here t os p (Advance to) o e b = broken-none t os p (on.Advance to) b o e 2 rule.Dangling (omega arith)
made_here t os p (Activate m alive) o e b = broken-none t os p on.Activate b o e 2 rule.Dangling (omega arith)
made_here t os p Deactivate o e b = broken-none t os p on.Activate b o e 2 rule.Dangling (omega arith)

pub write-before : (t : Tables) (os : Objects) (p : Path) (w : Write) (new : Objects) (i : ℕ) (o : Object) → slice_get os i ≡ Some o → on.is_here o.birth ≡ false → write t os p w ≡ Ok new → slice_get new i ≡ Some o
write-before t os p w new i o e b a = elim (cases_Bool (i == p.object)) as (λ _. slice_get new i ≡ Some o) [
  | inl same ↦ (let there : slice_get os p.object ≡ Some o = ap (slice_get os) (sym (eqb-true i p.object same)) ∙ e in
      let none = (unless-ok (on.broken t os p (access_of w)) (put (written t (row_of t os p) w) os p) new a).0 in
      let here : not (on.is_here o.birth) ≡ false = made_here t os p w o there none in
      absurd (cc (here, ap not b)))
  | inr other ↦ (write-stays t os p w new a).other_objects i (eqb-false i p.object other) ∙ e
]
