-- What has the form of its type, part by part, and how a change below keeps it.
use Rattle.std.proofs.Common.{◌≡◌, ℕ, zero, suc, ◌<◌, Bool, true, false, List, [], ◌∷◌, length, Option, None, Some, ◌⊎◌, inl, inr, refl, sym, ap, subst, ◌∙◌, slice_get, if◌then◌else◌}
use Rattle.std.specs.Prelude.{◌==◌, option_and_then}
use Rattle.std.proofs.lemmas.Bool.{eqb-true}
use Rattle.cx_type_defs.specs.declared.ids.Step.{Step}
use Rattle.cx_type_defs.specs.declared.ids.Step.TheVariants as step
use Rattle.cx_type_defs.specs.declared.ids.TypeId.{TypeId}
use Rattle.cx_type_defs.specs.declared.kind.TypeRow.{TypeRow}
use Rattle.cx_type_defs.specs.declared.kind.TypeKind.{TypeKind}
use Rattle.cx_type_defs.specs.declared.kind.TypeKind.TheVariants as kind
use Rattle.cx_type_defs.specs.declared.decl.ClassBody.{ClassBody}
use Rattle.cx_type_defs.specs.declared.decl.ClassDecl.{ClassDecl}
use Rattle.cx_type_defs.specs.declared.decl.ClassKey.{ClassKey}
use Rattle.cx_type_defs.specs.declared.decl.ClassKey.TheVariants as key
use Rattle.cx_type_defs.specs.Tables.{Tables}
use Rattle.cx_type_defs.proofs.Lists.{some_inj, option_and_then-some}
use Rattle.cx_state.specs.declared.kind.Phase.{Phase}
use Rattle.cx_state.specs.Objects.{Tree, Trees, Leaf, Row, Class, Union, Active, End, More, size, tree_at, tree_changed, part, part_changed, below, changed, Objects}
use Rattle.cx_state.specs.Places.{row_part, row_below}
use Rattle.cx_state.specs.Forms.{ClassForm, DeclForm, ScalarForm, RowForm, Form, TreeFits}

pub TreeFits-here : (t : Tables) (os : Objects) (r : TypeRow) (x : Tree) → TreeFits t os r x → Form t os r.kind x
TreeFits-here t os r x h = h [] r x refl refl

pub TreeFits-part : (t : Tables) (os : Objects) (r : TypeRow) (x : Tree) → TreeFits t os r x → (s : Step) (q : TypeRow) (y : Tree) → row_part t r s ≡ Some q → part x s ≡ Some y → TreeFits t os q y
TreeFits-part t os r x h s q y a b = λ ss w z c d. h (s ∷ ss) w z (ap (option_and_then (λ (v : TypeRow). row_below t v ss)) a ∙ c) (ap (option_and_then (λ (v : Tree). below v ss)) b ∙ d)

pub TreeFits-made : (t : Tables) (os : Objects) (r : TypeRow) (x : Tree) → Form t os r.kind x
    → ((s : Step) (q : TypeRow) (y : Tree) → row_part t r s ≡ Some q → part x s ≡ Some y → TreeFits t os q y) → TreeFits t os r x
TreeFits-made t os r x f h = go
  where
    go : (ss : List Step) (q : TypeRow) (y : Tree) → row_below t r ss ≡ Some q → below x ss ≡ Some y → Form t os q.kind y
    go [] q y a b = subst (λ (z : TypeRow). Form t os z.kind y) (some_inj r q a) (subst (λ z. Form t os r.kind z) (some_inj x y b) f)
    go (s ∷ ss) q y a b =
        let i = option_and_then-some (λ (v : TypeRow). row_below t v ss) (row_part t r s) q a in
        let j = option_and_then-some (λ (v : Tree). below v ss) (part x s) y b in
        h s i.0 j.0 i.1 j.1 ss q y i.2 j.2

-- what stands at the end of the steps fits too
pub TreeFits-below : (t : Tables) (os : Objects) (ss : List Step) (r : TypeRow) (x : Tree) → TreeFits t os r x → (q : TypeRow) (y : Tree) → row_below t r ss ≡ Some q → below x ss ≡ Some y → TreeFits t os q y
TreeFits-below t os [] r x h q y a b = subst (λ (z : TypeRow). TreeFits t os z y) (some_inj r q a) (subst (λ z. TreeFits t os r z) (some_inj x y b) h)
TreeFits-below t os (s ∷ ss) r x h q y a b =
    let i = option_and_then-some (λ (v : TypeRow). row_below t v ss) (row_part t r s) q a in
    let j = option_and_then-some (λ (v : Tree). below v ss) (part x s) y b in
    TreeFits-below t os ss i.0 j.0 (TreeFits-part t os r x h s i.0 j.0 i.1 j.1) q y i.2 j.2

-- parts of a changed tree

pub tree_changed-at : (f : Tree → Tree) (xs : Trees) (i j : ℕ) (y : Tree) → tree_at (tree_changed f xs i) j ≡ Some y → (tree_at xs j ≡ Some y) ⊎ ((z : Tree) × (tree_at xs j ≡ Some z) × (j ≡ i) × (f z ≡ y))
tree_changed-at f End i j y e = absurd (cc)
tree_changed-at f (More x xs) zero zero y e = inr (x, refl, refl, some_inj (f x) y e)
tree_changed-at f (More x xs) zero (suc j) y e = inl e
tree_changed-at f (More x xs) (suc i) zero y e = inl e
tree_changed-at f (More x xs) (suc i) (suc j) y e =
    elim (tree_changed-at f xs i j y e) as (λ _. (tree_at xs j ≡ Some y) ⊎ ((z : Tree) × (tree_at xs j ≡ Some z) × (suc j ≡ suc i) × (f z ≡ y)))
    [ inl h ↦ inl h | inr h ↦ inr (h.0, h.1, ap suc h.2, h.3) ]

pub size-changed : (f : Tree → Tree) (xs : Trees) (i : ℕ) → size (tree_changed f xs i) ≡ size xs
size-changed f End i = refl
size-changed f (More x xs) zero = refl
size-changed f (More x xs) (suc i) = ap suc (size-changed f xs i)

-- as for a list of parts, where the steps are of one sort
abbrev pub IsChangedPart : (Tree → Tree) → Tree → Step → Step → Tree → Type 0
IsChangedPart f x s u y = (part x u ≡ Some y) ⊎ ((z : Tree) × (part x u ≡ Some z) × (u ≡ s) × (f z ≡ y))

active-by : (f : Tree → Tree) (x : Tree) (i j : ℕ) (y : Tree) (here there : Bool) → (here ≡ true → there ≡ true → j ≡ i) → (if there then Some (if here then f x else x) else None) ≡ Some y
    → ((if there then Some x else None) ≡ Some y) ⊎ ((z : Tree) × ((if there then Some x else None) ≡ Some z) × (step.Field j ≡ step.Field i) × (f z ≡ y))
active-by f x i j y true true same e = inr (x, refl, ap step.Field (same refl refl), some_inj (f x) y e)
active-by f x i j y false true same e = inl e
active-by f x i j y here false same e = absurd (cc)

active-changed : (f : Tree → Tree) (m : ℕ) (x : Tree) (i j : ℕ) (y : Tree) → part (Active m (if m == i then f x else x)) (step.Field j) ≡ Some y → IsChangedPart f (Active m x) (step.Field i) (step.Field j) y
active-changed f m x i j y e = active-by f x i j y (m == i) (m == j) (λ a b. sym (eqb-true m j b) ∙ eqb-true m i a) e

listed-changed : (f : Tree → Tree) (xs : Trees) (to : ℕ → Step) (i j : ℕ) (y : Tree) (o : Option Tree) → o ≡ tree_at xs j → tree_at (tree_changed f xs i) j ≡ Some y → (o ≡ Some y) ⊎ ((z : Tree) × (o ≡ Some z) × (to j ≡ to i) × (f z ≡ y))
listed-changed f xs to i j y o w e =
    elim (tree_changed-at f xs i j y e) as (λ _. (o ≡ Some y) ⊎ ((z : Tree) × (o ≡ Some z) × (to j ≡ to i) × (f z ≡ y)))
    [ inl h ↦ inl (w ∙ h) | inr h ↦ inr (h.0, w ∙ h.1, ap to h.2, h.3) ]

pub part_changed-part : (f : Tree → Tree) (x : Tree) (s u : Step) (y : Tree) → part (part_changed f x s) u ≡ Some y → IsChangedPart f x s u y
part_changed-part f (Leaf v) s u y e = inl e
part_changed-part f (Row xs) (step.Elem i) (step.Elem j) y e = listed-changed f xs step.Elem i j y (tree_at xs j) refl e
part_changed-part f (Row xs) (step.Elem i) (step.Base j) y e = absurd (cc)
part_changed-part f (Row xs) (step.Elem i) (step.Field j) y e = absurd (cc)
part_changed-part f (Row xs) (step.Base i) u y e = inl e
part_changed-part f (Row xs) (step.Field i) u y e = inl e
part_changed-part f (Class p bs ms) (step.Elem i) u y e = inl e
part_changed-part f (Class p bs ms) (step.Base i) (step.Base j) y e = listed-changed f bs step.Base i j y (tree_at bs j) refl e
part_changed-part f (Class p bs ms) (step.Base i) (step.Field j) y e = inl e
part_changed-part f (Class p bs ms) (step.Base i) (step.Elem j) y e = absurd (cc)
part_changed-part f (Class p bs ms) (step.Field i) (step.Field j) y e = listed-changed f ms step.Field i j y (tree_at ms j) refl e
part_changed-part f (Class p bs ms) (step.Field i) (step.Base j) y e = inl e
part_changed-part f (Class p bs ms) (step.Field i) (step.Elem j) y e = absurd (cc)
part_changed-part f Union s u y e = inl e
part_changed-part f (Active m x) (step.Elem i) u y e = inl e
part_changed-part f (Active m x) (step.Base i) u y e = inl e
part_changed-part f (Active m x) (step.Field i) (step.Field j) y e = active-changed f m x i j y e
part_changed-part f (Active m x) (step.Field i) (step.Base j) y e = absurd (cc)
part_changed-part f (Active m x) (step.Field i) (step.Elem j) y e = absurd (cc)

-- a change below keeps the form

plain-changed : (b : ClassBody) (f : Tree → Tree) (p : Phase) (bs ms : Trees) (s : Step) → ClassForm key.Struct b (Class p bs ms) → ClassForm key.Struct b (part_changed f (Class p bs ms) s)
plain-changed b f p bs ms (step.Base i) h = (size-changed f bs i ∙ h.0, h.1)
plain-changed b f p bs ms (step.Field i) h = (h.0, size-changed f ms i ∙ h.1)
plain-changed b f p bs ms (step.Elem i) h = h

struct-changed : (b : ClassBody) (f : Tree → Tree) (x : Tree) (s : Step) → ClassForm key.Struct b x → ClassForm key.Struct b (part_changed f x s)
struct-changed b f (Class p bs ms) s h = plain-changed b f p bs ms s h
struct-changed b f (Leaf v) s h = absurd h
struct-changed b f (Row xs) s h = absurd h
struct-changed b f Union s h = absurd h
struct-changed b f (Active m x) s h = absurd h

-- a struct and a class have one form
pub class-struct : (b : ClassBody) (x : Tree) → ClassForm key.Class b x → ClassForm key.Struct b x
class-struct b (Class p bs ms) h = h
class-struct b (Leaf v) h = absurd h
class-struct b (Row xs) h = absurd h
class-struct b Union h = absurd h
class-struct b (Active m x) h = absurd h

pub struct-class : (b : ClassBody) (x : Tree) → ClassForm key.Struct b x → ClassForm key.Class b x
struct-class b (Class p bs ms) h = h
struct-class b (Leaf v) h = absurd h
struct-class b (Row xs) h = absurd h
struct-class b Union h = absurd h
struct-class b (Active m x) h = absurd h

active-form : (b : ClassBody) (f : Tree → Tree) (m : ℕ) (x : Tree) (s : Step) → m < length b.fields → ClassForm key.Union b (part_changed f (Active m x) s)
active-form b f m x (step.Field i) h = h
active-form b f m x (step.Base i) h = h
active-form b f m x (step.Elem i) h = h

pub ClassForm-changed : (k : ClassKey) (b : ClassBody) (f : Tree → Tree) (x : Tree) (s : Step) → ClassForm k b x → ClassForm k b (part_changed f x s)
ClassForm-changed key.Struct b f x s h = struct-changed b f x s h
ClassForm-changed key.Class b f x s h = struct-class b (part_changed f x s) (struct-changed b f x s (class-struct b x h))
ClassForm-changed key.Union b f Union s h = tt
ClassForm-changed key.Union b f (Active m x) s h = active-form b f m x s h
ClassForm-changed key.Union b f (Leaf v) s h = absurd h
ClassForm-changed key.Union b f (Row xs) s h = absurd h
ClassForm-changed key.Union b f (Class p bs ms) s h = absurd h

pub DeclForm-with : (t : Tables) (o : Option ClassDecl) (x y : Tree) → ((k : ClassKey) (b : ClassBody) → ClassForm k b x → ClassForm k b y) → DeclForm t o x → DeclForm t o y
DeclForm-with t None x y f h = absurd h
DeclForm-with t (Some d) x y f h = record { body = h.body; is_body = h.is_body; known = h.known; form = f d.key h.body h.form }

RowForm-changed : (t : Tables) (to : TypeId) (n : ℕ) (f : Tree → Tree) (x : Tree) (s : Step) → RowForm t to n x → RowForm t to n (part_changed f x s)
RowForm-changed t to n f (Row xs) (step.Elem i) h = (size-changed f xs i ∙ h.0, h.1)
RowForm-changed t to n f (Row xs) (step.Base i) h = h
RowForm-changed t to n f (Row xs) (step.Field i) h = h
RowForm-changed t to n f (Leaf v) s h = absurd h
RowForm-changed t to n f (Class p bs ms) s h = absurd h
RowForm-changed t to n f Union s h = absurd h
RowForm-changed t to n f (Active m x) s h = absurd h

ScalarForm-changed : (t : Tables) (os : Objects) (k : TypeKind) (f : Tree → Tree) (x : Tree) (s : Step) → ScalarForm t os k x → ScalarForm t os k (part_changed f x s)
ScalarForm-changed t os k f (Leaf v) s h = h
ScalarForm-changed t os k f (Row xs) s h = absurd h
ScalarForm-changed t os k f (Class p bs ms) s h = absurd h
ScalarForm-changed t os k f Union s h = absurd h
ScalarForm-changed t os k f (Active m x) s h = absurd h

pub Form-changed : (t : Tables) (os : Objects) (k : TypeKind) (f : Tree → Tree) (x : Tree) (s : Step) → Form t os k x → Form t os k (part_changed f x s)
Form-changed t os kind.Void f x s h = absurd h
Form-changed t os (kind.Array to n) f x s h = RowForm-changed t to n f x s h
Form-changed t os (kind.Class c) f x s h = DeclForm-with t (slice_get t.classes c.0) x (part_changed f x s) (λ k b. ClassForm-changed k b f x s) h
Form-changed t os kind.Nullptr f x s h = ScalarForm-changed t os kind.Nullptr f x s h
Form-changed t os (kind.Int i) f x s h = ScalarForm-changed t os (kind.Int i) f x s h
Form-changed t os (kind.Enum i) f x s h = ScalarForm-changed t os (kind.Enum i) f x s h
Form-changed t os (kind.Pointer to) f x s h = ScalarForm-changed t os (kind.Pointer to) f x s h
Form-changed t os (kind.Reference to) f x s h = ScalarForm-changed t os (kind.Reference to) f x s h

-- a tree fits after a change of what stands at the end of the steps, where what then stands there does
pub TreeFits-changed : (t : Tables) (os : Objects) (f : Tree → Tree) (p : List Step) (r : TypeRow) (x : Tree) → TreeFits t os r x
    → ((w : TypeRow) (z : Tree) → row_below t r p ≡ Some w → below x p ≡ Some z → TreeFits t os w z → TreeFits t os w (f z)) → TreeFits t os r (changed f x p)
TreeFits-changed t os f [] r x h g = g r x refl refl h
TreeFits-changed t os f (s ∷ p) r x h g =
    TreeFits-made t os r (changed f x (s ∷ p)) (Form-changed t os r.kind (λ y. changed f y p) x s (TreeFits-here t os r x h)) (λ u q y a b.
    elim (part_changed-part (λ y. changed f y p) x s u y b) as (λ _. TreeFits t os q y) [
      | inl e ↦ TreeFits-part t os r x h u q y a e
      | inr i ↦ subst (TreeFits t os q) i.3 (TreeFits-changed t os f p q i.0 (TreeFits-part t os r x h u q i.0 a i.1) (λ w z c d k.
          g w z (ap (option_and_then (λ (v : TypeRow). row_below t v p)) (subst (λ v. row_part t r v ≡ Some q) i.2 a) ∙ c) (ap (option_and_then (λ (v : Tree). below v p)) (subst (λ v. part x v ≡ Some i.0) i.2 i.1) ∙ d) k))
    ])
