-- The rule that is told is the first one that holds.
use Rattle.std.proofs.Common.{◌≡◌, Bool, true, false, ◌&&◌, ◌||◌, not, List, [], ◌∷◌, ◌++◌, Option, None, Some, inl, inr, refl, sym, ap, ◌∙◌, slice_get, All, cond, drop, true≢false}
use Rattle.std.specs.List.{find, list_any}
use Rattle.std.specs.Prelude.{option_and_then, option_map, unwrap_or}
use Rattle.std.proofs.lemmas.Bool.{cases_Bool}
use Rattle.std.proofs.lemmas.List.Elements.{All-nil, All-cons, All-head, All-tail}
use Rattle.cx_base.specs.declared.rule.Rule.{Rule}
use Rattle.cx_base.specs.declared.rule.Rule.TheVariants as rule
use Rattle.cx_type_defs.specs.Tables.{Tables}
use Rattle.cx_type_defs.proofs.Lists.{some_inj, option_and_then-some}
use Rattle.cx_state.specs.Objects.{Path, Object, Objects}
use Rattle.cx_state.specs.Conditions.{Access, Part, Outer, Load, Which, Store, Init, Activate, Advance, Call, Dynamic, Release, order, is_opaque, on_way, stops, is_dead, is_out_of_lifetime, holds, broken}
use Rattle.cx_state.specs.Pointers.{is_dangling}
use Rattle.cx_state.specs.FirstRule.{IsFirst}

-- the first item that passes a test

pub record Found {A : Type 0} (test : A → Bool) (xs : List A) (r : A) : Type 0 where
  pub before : List A
  pub after : List A
  pub in_order : xs ≡ before ++ r ∷ after
  pub passes_here : test r ≡ true
  pub none_before : All (λ q. test q ≡ false) before

pub find-first : {A : Type 0} (test : A → Bool) (xs : List A) (r : A) → find test xs ≡ Some r → Found test xs r
find-first test [] r e = absurd (cc)
find-first test (x ∷ xs) r e = elim (cases_Bool (test x)) as (λ _. Found test (x ∷ xs) r) [
  | inl y ↦ (
      let d : x ≡ r = some_inj x r (sym (ap (λ b. cond b (Some x) (find test xs)) y) ∙ e) in
      record { before = []; after = xs; in_order = ap (λ w. w ∷ xs) d; passes_here = sym (ap test d) ∙ y; none_before = All-nil (λ q. test q ≡ false) })
  | inr n ↦ (
      let f = find-first test xs r (sym (ap (λ b. cond b (Some x) (find test xs)) n) ∙ e) in
      record { before = x ∷ f.before; after = f.after; in_order = ap (λ l. x ∷ l) f.in_order; passes_here = f.passes_here; none_before = All-cons (λ q. test q ≡ false) x f.before n f.none_before })
]

pub first-find : {A : Type 0} (test : A → Bool) (before after : List A) (r : A) → test r ≡ true → All (λ q. test q ≡ false) before → find test (before ++ r ∷ after) ≡ Some r
first-find test [] after r e n = ap (λ b. cond b (Some r) (find test after)) e
first-find test (x ∷ before) after r e n =
    ap (λ b. cond b (Some x) (find test (before ++ r ∷ after))) (All-head (λ q. test q ≡ false) x before n)
    ∙ first-find test before after r e (All-tail (λ q. test q ≡ false) x before n)

pub find-none : {A : Type 0} (test : A → Bool) (xs : List A) → find test xs ≡ None → All (λ q. test q ≡ false) xs
find-none test [] e = All-nil (λ q. test q ≡ false)
find-none test (x ∷ xs) e = elim (cases_Bool (test x)) as (λ _. All (λ q. test q ≡ false) (x ∷ xs)) [
  | inl y ↦ (let d : Some x ≡ None = sym (ap (λ b. cond b (Some x) (find test xs)) y) ∙ e in absurd (cc))
  | inr n ↦ All-cons (λ q. test q ≡ false) x xs n (find-none test xs (sym (ap (λ b. cond b (Some x) (find test xs)) n) ∙ e))
]

pub none-find : {A : Type 0} (test : A → Bool) (xs : List A) → All (λ q. test q ≡ false) xs → find test xs ≡ None
none-find test [] h = refl
none-find test (x ∷ xs) h = ap (λ b. cond b (Some x) (find test xs)) (All-head (λ q. test q ≡ false) x xs h) ∙ none-find test xs (All-tail (λ q. test q ≡ false) x xs h)

-- the rule of an access

module _ (t : Tables) (os : Objects) (p : Path) (access : Access) where
  pub broken-at : (o : Object) → slice_get os p.object ≡ Some o → broken t os p access ≡ find (holds t o p access) (order access)
  broken-at o e = ap (option_and_then (λ (w : Object). find (holds t w p access) (order access))) e

  pub broken-first : (r : Rule) → broken t os p access ≡ Some r → (o : Object) × (slice_get os p.object ≡ Some o) × IsFirst t o p access r
  broken-first r e =
      let i = option_and_then-some (λ (w : Object). find (holds t w p access) (order access)) (slice_get os p.object) r e in
      let f = find-first (holds t i.0 p access) (order access) r i.2 in
      (i.0, i.1, record { before = f.before; after = f.after; in_order = f.in_order; holds_here = f.passes_here; none_before = f.none_before })

  pub first-broken : (r : Rule) (o : Object) → slice_get os p.object ≡ Some o → IsFirst t o p access r → broken t os p access ≡ Some r
  first-broken r o e f = broken-at o e ∙ ap (find (holds t o p access)) f.in_order ∙ first-find (holds t o p access) f.before f.after r f.holds_here f.none_before

  pub broken-none : broken t os p access ≡ None → (o : Object) → slice_get os p.object ≡ Some o → All (λ q. holds t o p access q ≡ false) (order access)
  broken-none n o e = find-none (holds t o p access) (order access) (sym (broken-at o e) ∙ n)

  pub none-broken : ((o : Object) → slice_get os p.object ≡ Some o → All (λ q. holds t o p access q ≡ false) (order access)) → broken t os p access ≡ None
  none-broken h = of (slice_get os p.object) h
    where
      of : (found : Option Object) → ((o : Object) → found ≡ Some o → All (λ q. holds t o p access q ≡ false) (order access)) → option_and_then (λ (w : Object). find (holds t w p access) (order access)) found ≡ None
      of None k = refl
      of (Some o) k = none-find (holds t o p access) (order access) (k o refl)

pub first-one : (t : Tables) (o : Object) (p : Path) (access : Access) (q r : Rule) → IsFirst t o p access q → IsFirst t o p access r → q ≡ r
first-one t o p access q r f g =
    let a : find (holds t o p access) (order access) ≡ Some q = ap (find (holds t o p access)) f.in_order ∙ first-find (holds t o p access) f.before f.after q f.holds_here f.none_before in
    let b : find (holds t o p access) (order access) ≡ Some r = ap (find (holds t o p access)) g.in_order ∙ first-find (holds t o p access) g.before g.after r g.holds_here g.none_before in
    some_inj q r (sym a ∙ b)

-- opaque objects

pub opaque-member : (t : Tables) (o : Object) (p : Path) (access : Access) → is_opaque o.birth ≡ true → holds t o p access rule.InactiveMember ≡ false
opaque-member t o p access e = ap (λ b. not b && list_any stops (on_way o.tree p.steps)) e

pub opaque-lifetime : (t : Tables) (o : Object) (p : Path) (access : Access) → is_opaque o.birth ≡ true → holds t o p access rule.OutOfLifetime ≡ false
opaque-lifetime t o p access e = ap (λ b. not b && (list_any (λ w. is_dead w.0) (on_way o.tree p.steps) || is_out_of_lifetime t o access p.steps)) e

pub never-told : (t : Tables) (os : Objects) (p : Path) (access : Access) (o : Object) (r : Rule) → slice_get os p.object ≡ Some o → holds t o p access r ≡ false → broken t os p access ≡ Some r → ⊥
never-told t os p access o r e n b =
    let f = find-first (holds t o p access) (order access) r (sym (broken-at t os p access o e) ∙ b) in
    true≢false (sym f.passes_here ∙ n)

-- released objects

starts_dangling : (access : Access) → order access ≡ rule.Dangling ∷ drop 1 (order access)
starts_dangling Part = refl
starts_dangling (Outer c) = refl
starts_dangling Load = refl
starts_dangling Which = refl
starts_dangling Store = refl
starts_dangling Init = refl
starts_dangling Activate = refl
starts_dangling (Advance to) = refl
starts_dangling Call = refl
starts_dangling Dynamic = refl
starts_dangling Release = refl

dangling-first : (t : Tables) (o : Object) (p : Path) (access : Access) → o.released ≡ true → find (holds t o p access) (order access) ≡ Some rule.Dangling
dangling-first t o p access e = ap (find (holds t o p access)) (starts_dangling access) ∙ ap (λ b. cond b (Some rule.Dangling) (find (holds t o p access) (drop 1 (order access)))) e

pub released-some : (os : Objects) (p : Path) → is_dangling os p ≡ true → (o : Object) × (slice_get os p.object ≡ Some o) × (o.released ≡ true)
released-some os p h = of (slice_get os p.object) h
  where
    of : (found : Option Object) → unwrap_or (option_map (λ (o : Object). o.released) found) false ≡ true → (o : Object) × (found ≡ Some o) × (o.released ≡ true)
    of None k = absurd (cc)
    of (Some o) k = (o, refl, k)

pub some-released : (os : Objects) (p : Path) (o : Object) → slice_get os p.object ≡ Some o → o.released ≡ true → is_dangling os p ≡ true
some-released os p o e r = ap (λ (found : Option Object). unwrap_or (option_map (λ (w : Object). w.released) found) false) e ∙ r

pub released-dangles : (t : Tables) (os : Objects) (p : Path) (access : Access) → is_dangling os p ≡ true → broken t os p access ≡ Some rule.Dangling
released-dangles t os p access h =
    let i = released-some os p h in
    broken-at t os p access i.0 i.1 ∙ dangling-first t i.0 p access i.2
