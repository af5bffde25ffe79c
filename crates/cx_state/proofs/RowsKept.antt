-- The type of what a place designates, and the forms of what scalars hold, as long as the objects keep their types.
use Rattle.std.proofs.Common.{◌≡◌, ℕ, zero, suc, ◌<◌, List, [], ◌∷◌, ◌++◌, take, Some, ◌⊎◌, inl, inr, refl, sym, ap, subst, ◌∙◌, slice_get, arith}
use Rattle.std.specs.Prelude.{option_and_then}
use Rattle.cx_type_defs.specs.declared.ids.Step.{Step}
use Rattle.cx_type_defs.specs.declared.ids.TypeId.{TypeId}
use Rattle.cx_type_defs.specs.declared.kind.TypeRow.{TypeRow}
use Rattle.cx_type_defs.specs.declared.kind.TypeKind.{TypeKind}
use Rattle.cx_type_defs.specs.declared.kind.TypeKind.TheVariants as kind
use Rattle.cx_ints.specs.declared.int.Int.{Int}
use Rattle.cx_type_defs.specs.Tables.{Tables, changed_at}
use Rattle.cx_type_defs.proofs.Lists.{some_inj, option_and_then-some, slice_get-more, slice_get-push}
use Rattle.cx_state.specs.declared.kind.Scalar.{Scalar}
use Rattle.cx_state.specs.declared.kind.Scalar.TheVariants as scalar
use Rattle.cx_state.specs.Objects.{Path, Tree, Leaf, Row, Class, Union, Active, below, Object, Objects}
use Rattle.cx_state.specs.Places.{root_row, row_of, spot, spot_row}
use Rattle.cx_state.specs.Forms.{Designates, MayHold, ScalarForm, Form, ObjectFits, Fit}

-- an object is where it was, and of the type that it had
abbrev pub RootStays : Tables → Objects → Objects → ℕ → Type 0
RootStays t os ns n = (o : Object) → slice_get os n ≡ Some o → (w : Object) × (slice_get ns n ≡ Some w) × (root_row t w ≡ root_row t o)

pub row_of-stays : (t : Tables) (os ns : Objects) (p : Path) → RootStays t os ns p.object → (r : TypeRow) → row_of t os p ≡ Some r → row_of t ns p ≡ Some r
row_of-stays t os ns p h r e =
    let i = option_and_then-some (λ (o : Object). option_and_then (spot_row t p.past (spot p)) (root_row t o)) (slice_get os p.object) r e in
    let w = h i.0 i.1 in
    ap (option_and_then (λ (o : Object). option_and_then (spot_row t p.past (spot p)) (root_row t o))) w.1 ∙ ap (option_and_then (spot_row t p.past (spot p))) w.2 ∙ i.2

-- a place that stays known
abbrev pub RowStays : Tables → Objects → Objects → Path → Type 0
RowStays t os ns p = (r : TypeRow) → row_of t os p ≡ Some r → row_of t ns p ≡ Some r

pub Designates-stays : (t : Tables) (os ns : Objects) (to : TypeId) (p : Path) → RowStays t os ns p → Designates t os to p → Designates t ns to p
Designates-stays t os ns to p h d = record { asked = d.asked; is_asked = d.is_asked; found = d.found; is_found = h d.found d.is_found; alike = d.alike }

place-stays : (t : Tables) (os ns : Objects) (k : TypeKind) (p : Path) → RowStays t os ns p → MayHold t os k (scalar.Place p) → MayHold t ns k (scalar.Place p)
place-stays t os ns (kind.Pointer to) p s h = Designates-stays t os ns to p s h
place-stays t os ns (kind.Reference to) p s h = Designates-stays t os ns to p s h
place-stays t os ns kind.Void p s h = absurd h
place-stays t os ns kind.Nullptr p s h = absurd h
place-stays t os ns (kind.Int i) p s h = absurd h
place-stays t os ns (kind.Enum i) p s h = absurd h
place-stays t os ns (kind.Array to n) p s h = absurd h
place-stays t os ns (kind.Class c) p s h = absurd h

null-stays : (t : Tables) (os ns : Objects) (k : TypeKind) → MayHold t os k scalar.Null → MayHold t ns k scalar.Null
null-stays t os ns (kind.Pointer to) h = tt
null-stays t os ns kind.Nullptr h = tt
null-stays t os ns (kind.Reference to) h = absurd h
null-stays t os ns kind.Void h = absurd h
null-stays t os ns (kind.Int i) h = absurd h
null-stays t os ns (kind.Enum i) h = absurd h
null-stays t os ns (kind.Array to n) h = absurd h
null-stays t os ns (kind.Class c) h = absurd h

int-stays : (t : Tables) (os ns : Objects) (k : TypeKind) (i : Int) → MayHold t os k (scalar.Int i) → MayHold t ns k (scalar.Int i)
int-stays t os ns (kind.Int k) i h = h
int-stays t os ns (kind.Enum e) i h = h
int-stays t os ns (kind.Pointer to) i h = absurd h
int-stays t os ns kind.Nullptr i h = absurd h
int-stays t os ns (kind.Reference to) i h = absurd h
int-stays t os ns kind.Void i h = absurd h
int-stays t os ns (kind.Array to n) i h = absurd h
int-stays t os ns (kind.Class c) i h = absurd h

-- the place that a scalar holds, if it holds one, stays known
abbrev pub HeldStays : Tables → Objects → Objects → Scalar Path → Type 0
HeldStays t os ns (scalar.Place p) = RowStays t os ns p
HeldStays t os ns _ = Unit {0}

pub MayHold-stays : (t : Tables) (os ns : Objects) (k : TypeKind) (v : Scalar Path) → HeldStays t os ns v → MayHold t os k v → MayHold t ns k v
MayHold-stays t os ns k (scalar.Place p) s h = place-stays t os ns k p s h
MayHold-stays t os ns k scalar.Null s h = null-stays t os ns k h
MayHold-stays t os ns k (scalar.Int i) s h = int-stays t os ns k i h
MayHold-stays t os ns k scalar.Indeterminate s h = tt

abbrev pub TreeStays : Tables → Objects → Objects → Tree → Type 0
TreeStays t os ns (Leaf v) = HeldStays t os ns v
TreeStays t os ns _ = Unit {0}

ScalarForm-stays : (t : Tables) (os ns : Objects) (k : TypeKind) (x : Tree) → TreeStays t os ns x → ScalarForm t os k x → ScalarForm t ns k x
ScalarForm-stays t os ns k (Leaf v) s h = MayHold-stays t os ns k v s h
ScalarForm-stays t os ns k (Row xs) s h = absurd h
ScalarForm-stays t os ns k (Class p bs ms) s h = absurd h
ScalarForm-stays t os ns k Union s h = absurd h
ScalarForm-stays t os ns k (Active m x) s h = absurd h

pub Form-stays : (t : Tables) (os ns : Objects) (k : TypeKind) (x : Tree) → TreeStays t os ns x → Form t os k x → Form t ns k x
Form-stays t os ns kind.Void x s h = absurd h
Form-stays t os ns (kind.Array to n) x s h = h
Form-stays t os ns (kind.Class c) x s h = h
Form-stays t os ns kind.Nullptr x s h = ScalarForm-stays t os ns kind.Nullptr x s h
Form-stays t os ns (kind.Int i) x s h = ScalarForm-stays t os ns (kind.Int i) x s h
Form-stays t os ns (kind.Enum i) x s h = ScalarForm-stays t os ns (kind.Enum i) x s h
Form-stays t os ns (kind.Pointer to) x s h = ScalarForm-stays t os ns (kind.Pointer to) x s h
Form-stays t os ns (kind.Reference to) x s h = ScalarForm-stays t os ns (kind.Reference to) x s h

HeldStays-all : (t : Tables) (os ns : Objects) → ((p : Path) → RowStays t os ns p) → (v : Scalar Path) → HeldStays t os ns v
HeldStays-all t os ns h (scalar.Place p) = h p
HeldStays-all t os ns h scalar.Null = tt
HeldStays-all t os ns h (scalar.Int i) = tt
HeldStays-all t os ns h scalar.Indeterminate = tt

pub TreeStays-all : (t : Tables) (os ns : Objects) → ((p : Path) → RowStays t os ns p) → (x : Tree) → TreeStays t os ns x
TreeStays-all t os ns h (Leaf v) = HeldStays-all t os ns h v
TreeStays-all t os ns h (Row xs) = tt
TreeStays-all t os ns h (Class p bs ms) = tt
TreeStays-all t os ns h Union = tt
TreeStays-all t os ns h (Active m x) = tt

-- an object that fits among objects fits among others in which each place is still known
pub ObjectFits-stays : (t : Tables) (os ns : Objects) (o : Object) → ((ss : List Step) (x : Tree) → below o.tree ss ≡ Some x → TreeStays t os ns x) → ObjectFits t os o → ObjectFits t ns o
ObjectFits-stays t os ns o s h = record { complete = h.complete; row = h.row; is_row = h.is_row; parts = λ ss r x a b. Form-stays t os ns r.kind x (s ss x b) (h.parts ss r x a b) }

-- one object that changes, and keeps its type

pub changed_at-object : {A : Type 0} (f : A → A) (xs : List A) (i j : ℕ) (y : A) → slice_get (changed_at f xs i) j ≡ Some y → (slice_get xs j ≡ Some y) ⊎ ((z : A) × (slice_get xs j ≡ Some z) × (j ≡ i) × (f z ≡ y))
changed_at-object f [] i j y e = absurd (cc)
changed_at-object f (x ∷ xs) zero zero y e = inr (x, refl, refl, some_inj (f x) y e)
changed_at-object f (x ∷ xs) zero (suc j) y e = inl e
changed_at-object f (x ∷ xs) (suc i) zero y e = inl e
changed_at-object f (x ∷ xs) (suc i) (suc j) y e =
    elim (changed_at-object f xs i j y e) as (λ _. (slice_get xs j ≡ Some y) ⊎ ((z : _) × (slice_get xs j ≡ Some z) × (suc j ≡ suc i) × (f z ≡ y)))
    [ inl h ↦ inl h | inr h ↦ inr (h.0, h.1, ap suc h.2, h.3) ]

pub changed_at-root : (t : Tables) (f : Object → Object) → ((o : Object) → root_row t (f o) ≡ root_row t o) → (os : Objects) (i j : ℕ) → RootStays t os (changed_at f os i) j
changed_at-root t f same [] i j o e = absurd (cc)
changed_at-root t f same (x ∷ os) zero zero o e = (f x, refl, same x ∙ ap (root_row t) (some_inj x o e))
changed_at-root t f same (x ∷ os) zero (suc j) o e = (o, e, refl)
changed_at-root t f same (x ∷ os) (suc i) zero o e = (o, e, refl)
changed_at-root t f same (x ∷ os) (suc i) (suc j) o e = changed_at-root t f same os i j o e

pub changed_at-rows : (t : Tables) (f : Object → Object) → ((o : Object) → root_row t (f o) ≡ root_row t o) → (os : Objects) (i : ℕ) (p : Path) → RowStays t os (changed_at f os i) p
changed_at-rows t f same os i p r e = row_of-stays t os (changed_at f os i) p (changed_at-root t f same os i p.object) r e

-- all objects fit after one was changed, where that one then does
pub Fit-changed_at : (t : Tables) (f : Object → Object) → ((o : Object) → root_row t (f o) ≡ root_row t o) → (os : Objects) (i : ℕ) → Fit t os
    → ((o : Object) → slice_get os i ≡ Some o → ObjectFits t os o → ObjectFits t os (f o)) → Fit t (changed_at f os i)
Fit-changed_at t f same os i h g n o e =
    let fits : ObjectFits t os o =
    elim (changed_at-object f os i n o e) as (λ _. ObjectFits t os o) [
      | inl a ↦ h n o a
      | inr a ↦ subst (ObjectFits t os) a.3 (g a.0 (subst (λ m. slice_get os m ≡ Some a.0) a.2 a.1) (h n a.0 a.1))
    ] in
    ObjectFits-stays t os (changed_at f os i) o (λ ss x b. TreeStays-all t os (changed_at f os i) (changed_at-rows t f same os i) x) fits

-- one more object

pub push-rows : (t : Tables) (os : Objects) (w : Object) (p : Path) → RowStays t os (os ++ w ∷ []) p
push-rows t os w p r e = row_of-stays t os (os ++ w ∷ []) p (λ o a. (o, slice_get-more os (w ∷ []) p.object o a, refl)) r e

pub Fit-push : (t : Tables) (os : Objects) (w : Object) → Fit t os → ObjectFits t os w → Fit t (os ++ w ∷ [])
Fit-push t os w h g n o e =
    let fits : ObjectFits t os o =
    elim (slice_get-push os w n o e) as (λ _. ObjectFits t os o) [ inl a ↦ h n o a | inr a ↦ subst (ObjectFits t os) (sym a.1) g ] in
    ObjectFits-stays t os (os ++ w ∷ []) o (λ ss x b. TreeStays-all t os (os ++ w ∷ []) (push-rows t os w) x) fits

-- objects taken away from the end

pub take-object : {A : Type 0} (xs : List A) (mark n : ℕ) (x : A) → slice_get (take mark xs) n ≡ Some x → (slice_get xs n ≡ Some x) × (n < mark)
take-object xs zero n x e = absurd (cc)
take-object [] (suc mark) n x e = absurd (cc)
take-object (y ∷ xs) (suc mark) zero x e = (e, omega arith)
take-object (y ∷ xs) (suc mark) (suc n) x e = let h = take-object xs mark n x e in (h.0, omega (arith, h.1))

pub take-kept : {A : Type 0} (xs : List A) (mark n : ℕ) (x : A) → n < mark → slice_get xs n ≡ Some x → slice_get (take mark xs) n ≡ Some x
take-kept xs zero n x l e = absurd (omega arith)
take-kept [] (suc mark) n x l e = absurd (cc)
take-kept (y ∷ xs) (suc mark) zero x l e = e
take-kept (y ∷ xs) (suc mark) (suc n) x l e = take-kept xs mark n x (omega arith) e

pub take-rows : (t : Tables) (os : Objects) (mark : ℕ) (p : Path) → p.object < mark → RowStays t os (take mark os) p
take-rows t os mark p l r e = row_of-stays t os (take mark os) p (λ o a. (o, take-kept os mark p.object o l a, refl)) r e
