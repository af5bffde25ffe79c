-- Objects fit after each step that changes one of them.
use Rattle.std.proofs.Common.{◌≡◌, ℕ, Bool, false, List, [], ◌∷◌, Option, None, Some, Ok, refl, sym, ap, subst, ◌∙◌, slice_get, if◌then◌else◌}
use Rattle.std.specs.Prelude.{option_and_then}
use Rattle.std.specs.List.{find}
use Rattle.cx_base.specs.declared.rule.Rule.{Rule}
use Rattle.cx_base.specs.declared.rule.Rule.TheVariants as rule
use Rattle.cx_type_defs.specs.declared.ids.Step.{Step}
use Rattle.cx_type_defs.specs.declared.ids.Step.TheVariants as step
use Rattle.cx_type_defs.specs.declared.kind.TypeRow.{TypeRow}
use Rattle.cx_type_defs.specs.declared.kind.TypeKind.{TypeKind}
use Rattle.cx_type_defs.specs.declared.kind.TypeKind.TheVariants as kind
use Rattle.cx_type_defs.specs.declared.decl.ClassBody.{ClassBody}
use Rattle.cx_type_defs.specs.declared.decl.ClassDecl.{ClassDecl}
use Rattle.cx_type_defs.specs.declared.decl.ClassKey.{ClassKey}
use Rattle.cx_type_defs.specs.declared.decl.ClassKey.TheVariants as key
use Rattle.cx_type_defs.specs.Tables.{Tables}
use Rattle.cx_type_defs.proofs.Lists.{some_inj, option_and_then-some}
use Rattle.cx_state.specs.declared.kind.Scalar.{Scalar}
use Rattle.cx_state.specs.Objects.{Path, Tree, Leaf, Row, Class, Union, Active, below, changed, at, put, Object, Objects}
use Rattle.cx_state.specs.Places.{row_part, row_below, root_row, Spot, spot, spot_of, spot_row, index_row, row_of}
use Rattle.cx_state.specs.Conditions as on
use Rattle.cx_state.specs.Steps.{unless, load, scalar_of, init, store}
use Rattle.cx_state.specs.Forms.{HoldsValue, MayHold, ClassForm, DeclForm, Form, TreeFits, Fit}
use Rattle.cx_state.proofs.Fitting.{TreeFits-made, TreeFits-changed}
use Rattle.cx_state.proofs.Passing.{find-first}
use Rattle.cx_state.proofs.RowsKept.{Fit-changed_at}

-- what stands where no rule is broken

pub unless-ok : {A : Type 0} (o : Option Rule) (a b : A) → unless o a ≡ Ok b → (o ≡ None) × (a ≡ b)
unless-ok None a b e = (refl, cc)
unless-ok (Some r) a b e = absurd (cc)

-- a place is past no end where an access that asks for that breaks no rule
past-second : (f : Rule → Bool) (rs : List Rule) → find f (rule.Dangling ∷ rule.PastEnd ∷ rs) ≡ None → f rule.PastEnd ≡ false
past-second f rs e = (find-first f rule.PastEnd rs (find-first f rule.Dangling (rule.PastEnd ∷ rs) e).1).0

-- the object of a known place, and the types on the way to what is there
pub record PlaceAt (t : Tables) (os : Objects) (p : Path) (r : TypeRow) : Type 0 where
  pub object : Object
  pub is_object : slice_get os p.object ≡ Some object
  pub root : TypeRow
  pub is_root : root_row t object ≡ Some root
  pub leads : row_below t root p.steps ≡ Some r

and_then-only : {A : Type 0} (o : Option A) → option_and_then (λ x. Some x) o ≡ o
and_then-only None = refl
and_then-only (Some x) = refl

index-part : (t : Tables) (i : ℕ) (c : Bool) (k : TypeKind) → index_row t false i (record { kind = k; konst = c }) ≡ row_part t (record { kind = k; konst = c }) (step.Elem i)
index-part t i c (kind.Array to n) = refl
index-part t i c kind.Void = refl
index-part t i c kind.Nullptr = refl
index-part t i c (kind.Int _) = refl
index-part t i c (kind.Enum _) = refl
index-part t i c (kind.Pointer _) = refl
index-part t i c (kind.Reference _) = refl
index-part t i c (kind.Class _) = refl

under-part : (t : Tables) (s : Step) (ss : List Step) (x : Spot) (o : Option TypeRow) → ((q : TypeRow) → spot_row t false x q ≡ row_below t q ss)
    → option_and_then (λ (q : TypeRow). if x.many then index_row t false x.index q else Some q) (option_and_then (λ (q : TypeRow). row_below t q x.array) o) ≡ option_and_then (λ (q : TypeRow). row_below t q ss) o
under-part t s ss x None h = refl
under-part t s ss x (Some q) h = h q

-- a place that is past no end is told by its steps alone
pub spot-below : (t : Tables) (ss : List Step) (r : TypeRow) → spot_row t false (spot_of false ss) r ≡ row_below t r ss
spot-below t [] r = refl
spot-below t (step.Elem i ∷ []) r = index-part t i r.konst r.kind ∙ sym (and_then-only (row_part t r (step.Elem i)))
spot-below t (step.Elem i ∷ u ∷ us) r = under-part t (step.Elem i) (u ∷ us) (spot_of false (u ∷ us)) (row_part t r (step.Elem i)) (λ q. spot-below t (u ∷ us) q)
spot-below t (step.Base i ∷ ss) r = under-part t (step.Base i) ss (spot_of false ss) (row_part t r (step.Base i)) (λ q. spot-below t ss q)
spot-below t (step.Field i ∷ ss) r = under-part t (step.Field i) ss (spot_of false ss) (row_part t r (step.Field i)) (λ q. spot-below t ss q)

pub place-at : (t : Tables) (os : Objects) (p : Path) (r : TypeRow) → p.past ≡ false → row_of t os p ≡ Some r → PlaceAt t os p r
place-at t os p r past e =
    let i = option_and_then-some (λ (o : Object). option_and_then (spot_row t p.past (spot p)) (root_row t o)) (slice_get os p.object) r e in
    let j = option_and_then-some (spot_row t p.past (spot p)) (root_row t i.0) r i.2 in
    record {
      object = i.0;
      is_object = i.1;
      root = j.0;
      is_root = j.1;
      leads = sym (spot-below t p.steps j.0) ∙ subst (λ b. spot_row t b (spot_of b p.steps) j.0 ≡ Some r) past j.2;
    }

-- what is put where the place fits

pub Fit-put : (t : Tables) (f : Tree → Tree) (os : Objects) (p : Path) → Fit t os
    → ((o : Object) (row r : TypeRow) (x : Tree) → slice_get os p.object ≡ Some o → root_row t o ≡ Some row → row_below t row p.steps ≡ Some r → below o.tree p.steps ≡ Some x → TreeFits t os r x → TreeFits t os r (f x)) → Fit t (put f os p)
Fit-put t f os p h g =
    Fit-changed_at t (λ (o : Object). record o { tree = changed f o.tree p.steps }) (λ o. refl) os p.object h (λ o e w. record {
      complete = w.complete;
      row = w.row;
      is_row = w.is_row;
      parts = TreeFits-changed t os f p.steps w.row o.tree w.parts (λ r x a b k. g o w.row r x e w.is_row a b k);
    })

pub scalar-leaf : (t : Tables) (os : Objects) (k : TypeKind) (v : Scalar Path) → HoldsValue k → MayHold t os k v → Form t os k (Leaf v)
scalar-leaf t os kind.Nullptr v s h = h
scalar-leaf t os (kind.Int _) v s h = h
scalar-leaf t os (kind.Enum _) v s h = h
scalar-leaf t os (kind.Pointer _) v s h = h
scalar-leaf t os (kind.Reference _) v s h = h
scalar-leaf t os kind.Void v s h = absurd s
scalar-leaf t os (kind.Array _ _) v s h = absurd s
scalar-leaf t os (kind.Class _) v s h = absurd s

key-leaf : (k : ClassKey) (b : ClassBody) (v : Scalar Path) → ClassForm k b (Leaf v) → ⊥
key-leaf key.Struct b v h = h
key-leaf key.Class b v h = h
key-leaf key.Union b v h = h

-- a class is no scalar
class-leaf : (t : Tables) (v : Scalar Path) (o : Option ClassDecl) → DeclForm t o (Leaf v) → ⊥
class-leaf t v None h = h
class-leaf t v (Some d) h = key-leaf d.key h.body v h.form

pub leaf-scalar : (t : Tables) (os : Objects) (k : TypeKind) (v : Scalar Path) → Form t os k (Leaf v) → MayHold t os k v
leaf-scalar t os kind.Nullptr v h = h
leaf-scalar t os (kind.Int _) v h = h
leaf-scalar t os (kind.Enum _) v h = h
leaf-scalar t os (kind.Pointer _) v h = h
leaf-scalar t os (kind.Reference _) v h = h
leaf-scalar t os kind.Void v h = absurd h
leaf-scalar t os (kind.Array _ _) v h = absurd h
leaf-scalar t os (kind.Class c) v h = absurd (class-leaf t v (slice_get t.classes c.0) h)

pub Leaf-fits : (t : Tables) (os : Objects) (r : TypeRow) (v : Scalar Path) → Form t os r.kind (Leaf v) → TreeFits t os r (Leaf v)
Leaf-fits t os r v h = TreeFits-made t os r (Leaf v) h (λ s q y a b. absurd (cc))

pub Fit-write : (t : Tables) (os : Objects) (p : Path) (r : TypeRow) (v : Scalar Path) → Fit t os → p.past ≡ false → row_of t os p ≡ Some r → HoldsValue r.kind → MayHold t os r.kind v → Fit t (put (λ _. Leaf v) os p)
Fit-write t os p r v h past e s m =
    let w = place-at t os p r past e in
    Fit-put t (λ _. Leaf v) os p h (λ o row q x eo er eq ex k.
    let object : o ≡ w.object = some_inj o w.object (sym eo ∙ w.is_object) in
    let root : row ≡ w.root = some_inj row w.root (sym er ∙ ap (root_row t) object ∙ w.is_root) in
    let same : r ≡ q = some_inj r q (sym w.leads ∙ ap (λ z. row_below t z p.steps) (sym root) ∙ eq) in
    subst (λ z. TreeFits t os z (Leaf v)) same (Leaf-fits t os r v (scalar-leaf t os r.kind v s m)))

pub object-of : (t : Tables) (os : Objects) (p : Path) (r : TypeRow) → row_of t os p ≡ Some r → (o : Object) × (slice_get os p.object ≡ Some o)
object-of t os p r e = let i = option_and_then-some (λ (o : Object). option_and_then (spot_row t p.past (spot p)) (root_row t o)) (slice_get os p.object) r e in (i.0, i.1)

-- an access that breaks no rule in this object finds none
pub unbroken : (t : Tables) (os : Objects) (p : Path) (a : on.Access) (o : Object) → slice_get os p.object ≡ Some o → on.broken t os p a ≡ None → find (on.holds t o p a) (on.order a) ≡ None
unbroken t os p a o e b = sym (ap (option_and_then (λ (w : Object). find (on.holds t w p a) (on.order a))) e) ∙ b

pub past-init : (t : Tables) (os : Objects) (p : Path) (o : Object) → slice_get os p.object ≡ Some o → on.broken t os p on.Init ≡ None → p.past ≡ false
past-init t os p o e b = past-second (on.holds t o p on.Init) (rule.OutsideWrite ∷ rule.InactiveMember ∷ []) (unbroken t os p on.Init o e b)

pub past-store : (t : Tables) (os : Objects) (p : Path) (o : Object) → slice_get os p.object ≡ Some o → on.broken t os p on.Store ≡ None → p.past ≡ false
past-store t os p o e b = past-second (on.holds t o p on.Store) (rule.OutsideWrite ∷ rule.InactiveMember ∷ rule.OutOfLifetime ∷ rule.ConstWrite ∷ []) (unbroken t os p on.Store o e b)

pub past-activate : (t : Tables) (os : Objects) (p : Path) (o : Object) → slice_get os p.object ≡ Some o → on.broken t os p on.Activate ≡ None → p.past ≡ false
past-activate t os p o e b = past-second (on.holds t o p on.Activate) (rule.OutsideWrite ∷ rule.InactiveMember ∷ []) (unbroken t os p on.Activate o e b)

pub past-load : (t : Tables) (os : Objects) (p : Path) (o : Object) → slice_get os p.object ≡ Some o → on.broken t os p on.Load ≡ None → p.past ≡ false
past-load t os p o e b = past-second (on.holds t o p on.Load) (rule.NotUsable ∷ rule.InactiveMember ∷ rule.OutOfLifetime ∷ rule.Indeterminate ∷ []) (unbroken t os p on.Load o e b)

pub Fit-init : (t : Tables) (os ns : Objects) (p : Path) (r : TypeRow) (v : Scalar Path) → Fit t os → row_of t os p ≡ Some r → HoldsValue r.kind → MayHold t os r.kind v → init t os p v ≡ Ok ns → Fit t ns
Fit-init t os ns p r v h e s m i =
    let u = unless-ok (on.broken t os p on.Init) (put (λ _. Leaf v) os p) ns i in
    let o = object-of t os p r e in
    subst (Fit t) u.1 (Fit-write t os p r v h (past-init t os p o.0 o.1 u.0) e s m)

pub Fit-store : (t : Tables) (os ns : Objects) (p : Path) (r : TypeRow) (v : Scalar Path) → Fit t os → row_of t os p ≡ Some r → HoldsValue r.kind → MayHold t os r.kind v → store t os p v ≡ Ok ns → Fit t ns
Fit-store t os ns p r v h e s m i =
    let u = unless-ok (on.broken t os p on.Store) (put (λ _. Leaf v) os p) ns i in
    let o = object-of t os p r e in
    subst (Fit t) u.1 (Fit-write t os p r v h (past-store t os p o.0 o.1 u.0) e s m)

-- what is loaded may be held there

scalar_of-held : (t : Tables) (os : Objects) (k : TypeKind) (x : Tree) → Form t os k x → MayHold t os k (scalar_of (Some x))
scalar_of-held t os k (Leaf v) h = leaf-scalar t os k v h
scalar_of-held t os k (Row xs) h = tt
scalar_of-held t os k (Class p bs ms) h = tt
scalar_of-held t os k Union h = tt
scalar_of-held t os k (Active m x) h = tt

scalar-held : (t : Tables) (os : Objects) (k : TypeKind) (o : Option Tree) → ((x : Tree) → o ≡ Some x → Form t os k x) → MayHold t os k (scalar_of o)
scalar-held t os k None h = tt
scalar-held t os k (Some x) h = scalar_of-held t os k x (h x refl)

pub load-held : (t : Tables) (os : Objects) (p : Path) (r : TypeRow) (v : Scalar Path) → Fit t os → row_of t os p ≡ Some r → load t os p ≡ Ok v → MayHold t os r.kind v
load-held t os p r v h e l =
    let u = unless-ok (on.broken t os p on.Load) (scalar_of (at os p)) v l in
    let o = object-of t os p r e in
    let w = place-at t os p r (past-load t os p o.0 o.1 u.0) e in
    let f = h p.object w.object w.is_object in
    let same : w.root ≡ f.row = some_inj w.root f.row (sym w.is_root ∙ f.is_row) in
    let here : at os p ≡ below w.object.tree p.steps = ap (option_and_then (λ (z : Object). below z.tree p.steps)) w.is_object in
    subst (MayHold t os r.kind) u.1 (scalar-held t os r.kind (at os p) (λ x a. f.parts p.steps r x (ap (λ z. row_below t z p.steps) (sym same) ∙ w.leads) (sym here ∙ a)))
