-- What a released object holds, and that it has the form of its type.
use Rattle.std.proofs.Common.{◌≡◌, ℕ, zero, suc, ◌<◌, List, [], ◌∷◌, Some, take, Ok, refl, sym, ap, subst, ◌∙◌, slice_get}
use Rattle.std.specs.Prelude.{option_map, option_and_then}
use Rattle.cx_type_defs.specs.declared.ids.Step.{Step}
use Rattle.cx_type_defs.specs.declared.ids.Step.TheVariants as step
use Rattle.cx_type_defs.specs.declared.ids.TypeId.{TypeId}
use Rattle.cx_type_defs.specs.declared.kind.TypeRow.{TypeRow}
use Rattle.cx_type_defs.specs.declared.kind.TypeKind.{TypeKind}
use Rattle.cx_type_defs.specs.declared.kind.TypeKind.TheVariants as kind
use Rattle.cx_type_defs.specs.declared.decl.ClassBody.{ClassBody}
use Rattle.cx_type_defs.specs.declared.decl.ClassKey.{ClassKey}
use Rattle.cx_type_defs.specs.declared.decl.ClassKey.TheVariants as key
use Rattle.cx_type_defs.specs.Tables.{Tables, no_types, changed_at}
use Rattle.cx_type_defs.proofs.Lists.{some_inj, option_and_then-some, option_map-some}
use Rattle.cx_state.specs.declared.kind.Birth.{Birth}
use Rattle.cx_state.specs.declared.kind.Scalar.{Scalar}
use Rattle.cx_state.specs.declared.kind.Scalar.TheVariants as scalar
use Rattle.cx_state.specs.Objects.{Path, Tree, Trees, Leaf, Row, Class, Union, Active, End, More, size, tree_at, part, below, Object, Objects}
use Rattle.cx_state.specs.Conditions as on
use Rattle.cx_state.specs.Steps.{blank, ended, all_ended, given_up, release, settle, cut}
use Rattle.cx_state.specs.Forms.{ClassForm, ScalarForm, RowForm, Form, TreeFits, Fit, HoldsBelow}
use Rattle.cx_state.proofs.Fitting.{DeclForm-with}
use Rattle.cx_state.proofs.RowsKept.{HeldStays, TreeStays, Fit-changed_at, ObjectFits-stays, take-object, take-rows}
use Rattle.cx_state.proofs.Written.{unless-ok}

pub all_ended-at : (xs : Trees) (i : ℕ) → tree_at (all_ended xs) i ≡ option_map ended (tree_at xs i)
all_ended-at End i = refl
all_ended-at (More x xs) zero = refl
all_ended-at (More x xs) (suc i) = all_ended-at xs i

pub size-all_ended : (xs : Trees) → size (all_ended xs) ≡ size xs
size-all_ended End = refl
size-all_ended (More x xs) = ap suc (size-all_ended xs)

-- each part of an ended tree is an ended part
abbrev EndedPart : Tree → Step → Tree → Type 0
EndedPart x s y = (z : Tree) × (part x s ≡ Some z) × (ended z ≡ y)

pub listed-ended : (xs : Trees) (i : ℕ) (y : Tree) → tree_at (all_ended xs) i ≡ Some y → (z : Tree) × (tree_at xs i ≡ Some z) × (ended z ≡ y)
listed-ended xs i y e = option_map-some ended (tree_at xs i) y (sym (all_ended-at xs i) ∙ e)

ended-part : (x : Tree) (s : Step) (y : Tree) → part (ended x) s ≡ Some y → EndedPart x s y
ended-part (Leaf v) s y e = absurd (cc)
ended-part (Row xs) (step.Elem i) y e = listed-ended xs i y e
ended-part (Row xs) (step.Base i) y e = absurd (cc)
ended-part (Row xs) (step.Field i) y e = absurd (cc)
ended-part (Class p bs ms) (step.Base i) y e = listed-ended bs i y e
ended-part (Class p bs ms) (step.Field i) y e = listed-ended ms i y e
ended-part (Class p bs ms) (step.Elem i) y e = absurd (cc)
ended-part Union s y e = absurd (cc)
ended-part (Active m x) s y e = absurd (cc)

struct-ended : (b : ClassBody) (x : Tree) → ClassForm key.Struct b x → ClassForm key.Struct b (ended x)
struct-ended b (Class p bs ms) h = (size-all_ended bs ∙ h.0, size-all_ended ms ∙ h.1)
struct-ended b (Leaf v) h = absurd h
struct-ended b (Row xs) h = absurd h
struct-ended b Union h = absurd h
struct-ended b (Active m x) h = absurd h

class-ended : (b : ClassBody) (x : Tree) → ClassForm key.Class b x → ClassForm key.Class b (ended x)
class-ended b (Class p bs ms) h = (size-all_ended bs ∙ h.0, size-all_ended ms ∙ h.1)
class-ended b (Leaf v) h = absurd h
class-ended b (Row xs) h = absurd h
class-ended b Union h = absurd h
class-ended b (Active m x) h = absurd h

union-ended : (b : ClassBody) (x : Tree) → ClassForm key.Union b x → ClassForm key.Union b (ended x)
union-ended b Union h = tt
union-ended b (Active m x) h = tt
union-ended b (Leaf v) h = absurd h
union-ended b (Row xs) h = absurd h
union-ended b (Class p bs ms) h = absurd h

ClassForm-ended : (x : Tree) (k : ClassKey) (b : ClassBody) → ClassForm k b x → ClassForm k b (ended x)
ClassForm-ended x key.Struct b h = struct-ended b x h
ClassForm-ended x key.Class b h = class-ended b x h
ClassForm-ended x key.Union b h = union-ended b x h

RowForm-ended : (t : Tables) (to : TypeId) (n : ℕ) (x : Tree) → RowForm t to n x → RowForm t to n (ended x)
RowForm-ended t to n (Row xs) h = (size-all_ended xs ∙ h.0, h.1)
RowForm-ended t to n (Leaf v) h = absurd h
RowForm-ended t to n (Class p bs ms) h = absurd h
RowForm-ended t to n Union h = absurd h
RowForm-ended t to n (Active m x) h = absurd h

pub scalar-ended : (t : Tables) (os : Objects) (k : TypeKind) (x : Tree) → ScalarForm t os k x → ended x ≡ blank
scalar-ended t os k (Leaf v) h = refl
scalar-ended t os k (Row xs) h = absurd h
scalar-ended t os k (Class p bs ms) h = absurd h
scalar-ended t os k Union h = absurd h
scalar-ended t os k (Active m x) h = absurd h

ScalarForm-ended : (t : Tables) (os : Objects) (k : TypeKind) (x : Tree) → ScalarForm t os k x → ScalarForm t os k (ended x)
ScalarForm-ended t os k x h = subst (ScalarForm t os k) (sym (scalar-ended t os k x h)) tt

Form-ended : (t : Tables) (os : Objects) (k : TypeKind) (x : Tree) → Form t os k x → Form t os k (ended x)
Form-ended t os kind.Void x h = absurd h
Form-ended t os (kind.Array to n) x h = RowForm-ended t to n x h
Form-ended t os (kind.Class c) x h = DeclForm-with t (slice_get t.classes c.0) x (ended x) (ClassForm-ended x) h
Form-ended t os kind.Nullptr x h = ScalarForm-ended t os kind.Nullptr x h
Form-ended t os (kind.Int i) x h = ScalarForm-ended t os (kind.Int i) x h
Form-ended t os (kind.Enum i) x h = ScalarForm-ended t os (kind.Enum i) x h
Form-ended t os (kind.Pointer to) x h = ScalarForm-ended t os (kind.Pointer to) x h
Form-ended t os (kind.Reference to) x h = ScalarForm-ended t os (kind.Reference to) x h

below-ended : (ss : List Step) (x y : Tree) → below (ended x) ss ≡ Some y → (z : Tree) × (below x ss ≡ Some z) × (ended z ≡ y)
below-ended [] x y e = (x, refl, some_inj (ended x) y e)
below-ended (s ∷ ss) x y e =
    let i = option_and_then-some (λ (v : Tree). below v ss) (part (ended x) s) y e in
    let j = ended-part x s i.0 i.1 in
    let k = below-ended ss j.0 y (ap (λ v. below v ss) j.2 ∙ i.2) in
    (k.0, ap (option_and_then (λ (v : Tree). below v ss)) j.1 ∙ k.1, k.2)

pub TreeFits-ended : (t : Tables) (os : Objects) (r : TypeRow) (x : Tree) → TreeFits t os r x → TreeFits t os r (ended x)
TreeFits-ended t os r x h ss q y a b =
    let i = below-ended ss x y b in
    subst (Form t os q.kind) i.2 (Form-ended t os q.kind i.0 (h ss q i.0 a i.1))

pub Fit-release : (t : Tables) (os ns : Objects) (p : Path) → Fit t os → release os p ≡ Ok ns → Fit t ns
Fit-release t os ns p h e =
    let u = unless-ok (on.broken no_types os p on.Release) (changed_at given_up os p.object) ns e in
    subst (Fit t) u.1 (Fit-changed_at t given_up (λ o. refl) os p.object h (λ o a w. record { complete = w.complete; row = w.row; is_row = w.is_row; parts = TreeFits-ended t os w.row o.tree w.parts }))

pub Fit-settle : (t : Tables) (os : Objects) (p : Path) (b : Birth) → Fit t os → Fit t (settle os p b)
Fit-settle t os p b h = Fit-changed_at t (λ (o : Object). record o { birth = b }) (λ o. refl) os p.object h (λ o a w. record { complete = w.complete; row = w.row; is_row = w.is_row; parts = w.parts })

held-below : (t : Tables) (os : Objects) (mark : ℕ) (v : Scalar Path) → ((p : Path) → v ≡ scalar.Place p → p.object < mark) → HeldStays t os (take mark os) v
held-below t os mark (scalar.Place p) h = take-rows t os mark p (h p refl)
held-below t os mark scalar.Null h = tt
held-below t os mark (scalar.Int i) h = tt
held-below t os mark scalar.Indeterminate h = tt

tree-below : (t : Tables) (os : Objects) (mark : ℕ) (x : Tree) → ((p : Path) → x ≡ Leaf (scalar.Place p) → p.object < mark) → TreeStays t os (take mark os) x
tree-below t os mark (Leaf v) h = held-below t os mark v (λ p e. h p (ap Leaf e))
tree-below t os mark (Row xs) h = tt
tree-below t os mark (Class p bs ms) h = tt
tree-below t os mark Union h = tt
tree-below t os mark (Active m x) h = tt

pub Fit-cut : (t : Tables) (os : Objects) (mark : ℕ) → Fit t os → HoldsBelow os mark → Fit t (cut os mark)
Fit-cut t os mark h g n o e =
    let w = take-object os mark n o e in
    ObjectFits-stays t os (take mark os) o (λ ss x b. tree-below t os mark x (λ p i. g.holds_below n o ss p w.1 w.0 (b ∙ ap Some i))) (h n o w.0)
