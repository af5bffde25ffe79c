-- What a known place designates is there, where no union on the way stops the access.
use Rattle.std.proofs.Common.{◌≡◌, ℕ, zero, suc, ◌<◌, Bool, true, false, true≢false, List, [], ◌∷◌, length, Option, None, Some, Ok, refl, sym, ap, subst, ◌∙◌, slice_get, arith}
use Rattle.std.specs.Prelude.{option_map, option_and_then, unwrap_or, is_some, nat_lt, ◌||◌, ◌&&◌, not}
use Rattle.std.specs.List.{list_any, AllByRecursion}
use Rattle.std.proofs.lemmas.Bool.{ltb-true}
use Rattle.std.proofs.lemmas.Option.{slice_get_within}
use Rattle.cx_base.specs.declared.rule.Rule.{Rule}
use Rattle.cx_base.specs.declared.rule.Rule.TheVariants as rule
use Rattle.cx_type_defs.specs.declared.ids.Step.{Step}
use Rattle.cx_type_defs.specs.declared.ids.Step.TheVariants as step
use Rattle.cx_type_defs.specs.declared.ids.TypeId.{TypeId}
use Rattle.cx_type_defs.specs.declared.ids.ClassId.{ClassId}
use Rattle.cx_type_defs.specs.declared.kind.TypeRow.{TypeRow}
use Rattle.cx_type_defs.specs.declared.kind.TypeKind.{TypeKind}
use Rattle.cx_type_defs.specs.declared.kind.TypeKind.TheVariants as kind
use Rattle.cx_type_defs.specs.declared.decl.Field.{Field}
use Rattle.cx_type_defs.specs.declared.decl.ClassBody.{ClassBody}
use Rattle.cx_type_defs.specs.declared.decl.ClassDecl.{ClassDecl}
use Rattle.cx_type_defs.specs.declared.decl.ClassKey.{ClassKey}
use Rattle.cx_type_defs.specs.declared.decl.ClassKey.TheVariants as key
use Rattle.cx_type_defs.specs.Tables.{Tables, body_at, base_of, field_of}
use Rattle.cx_type_defs.proofs.Lists.{some_inj, option_and_then-some, option_map-some}
use Rattle.cx_state.specs.declared.kind.Birth.{Birth}
use Rattle.cx_state.specs.declared.kind.Birth.TheVariants as birth
use Rattle.cx_state.specs.declared.kind.Scalar.{Scalar}
use Rattle.cx_state.specs.Objects.{Path, Tree, Trees, Leaf, Row, Class, Union, Active, End, More, size, tree_at, part, below, at, Object, Objects}
use Rattle.cx_state.specs.Places.{element, base_row, row_part, row_below, root_row, row_of}
use Rattle.cx_state.specs.Conditions as on
use Rattle.cx_state.specs.Steps.{scalar_of, load, member_of, active}
use Rattle.cx_state.specs.Forms.{HoldsValue, ClassForm, DeclForm, ScalarForm, RowForm, Form, TreeFits, Fit}
use Rattle.cx_state.proofs.Fitting.{TreeFits-here, TreeFits-part, class-struct}
use Rattle.cx_state.proofs.NewTrees.{where-true, body-known}
use Rattle.cx_state.proofs.Written.{unless-ok, unbroken, place-at, object-of}
use Rattle.cx_state.proofs.Making.{at-within}
use Rattle.cx_state.proofs.Passing.{find-none}

tree-within : (xs : Trees) (i : ℕ) → i < size xs → (x : Tree) × (tree_at xs i ≡ Some x)
tree-within End i l = absurd (omega arith)
tree-within (More x xs) zero l = (x, refl)
tree-within (More x xs) (suc i) l = tree-within xs i (omega arith)

-- a part that has a type is there, unless a union stops the access
abbrev PartThere : Tree → Step → Type 0
PartThere x s = on.stops (x, s) ≡ false → (y : Tree) × (part x s ≡ Some y)

union-there : (o : Option Tree) → (true && not (is_some o)) ≡ false → (y : Tree) × (o ≡ Some y)
union-there None e = absurd (true≢false e)
union-there (Some y) e = (y, refl)

module _ (t : Tables) (k : Bool) where
  row-there : (to : TypeId) (n : ℕ) (x : Tree) → RowForm t to n x → (s : Step) (q : TypeRow) → row_part t (record { kind = kind.Array to n; konst = k }) s ≡ Some q → (y : Tree) × (part x s ≡ Some y)
  row-there to n (Row xs) h (step.Elem i) q e =
      let l : i < n = ltb-true i n (where-true (nat_lt i n) (option_map (element k) (slice_get t.rows to.0)) q e).0 in
      tree-within xs i (let v = h.0 in omega arith)
  row-there to n (Row xs) h (step.Base i) q e = absurd (cc)
  row-there to n (Row xs) h (step.Field i) q e = absurd (cc)
  row-there to n (Leaf v) h s q e = absurd h
  row-there to n (Class p bs ms) h s q e = absurd h
  row-there to n Union h s q e = absurd h
  row-there to n (Active m x) h s q e = absurd h

  base-listed : (c : ClassId) (b : ClassBody) → body_at t c ≡ Some b → (i : ℕ) (q : TypeRow) → row_part t (record { kind = kind.Class c; konst = k }) (step.Base i) ≡ Some q → i < length b.bases
  base-listed c b at i q e =
      let a = option_map-some base_row (base_of t c i) q e in
      slice_get_within b.bases i a.0 (sym (ap (option_and_then (λ (w : ClassBody). slice_get w.bases i)) at) ∙ a.1)

  field-listed : (c : ClassId) (b : ClassBody) → body_at t c ≡ Some b → (i : ℕ) (q : TypeRow) → row_part t (record { kind = kind.Class c; konst = k }) (step.Field i) ≡ Some q → i < length b.fields
  field-listed c b at i q e =
      let a = option_and_then-some (λ (f : Field). slice_get t.rows f.ty.0) (field_of t c i) q e in
      slice_get_within b.fields i a.0 (sym (ap (option_and_then (λ (w : ClassBody). slice_get w.fields i)) at) ∙ a.1)

  module _ (c : ClassId) (b : ClassBody) (at : body_at t c ≡ Some b) where
    struct-there : (x : Tree) → ClassForm key.Struct b x → (s : Step) (q : TypeRow) → row_part t (record { kind = kind.Class c; konst = k }) s ≡ Some q → (y : Tree) × (part x s ≡ Some y)
    struct-there (Class p bs ms) h (step.Base i) q e = let l = base-listed c b at i q e in tree-within bs i (let v = h.0 in omega arith)
    struct-there (Class p bs ms) h (step.Field i) q e = let l = field-listed c b at i q e in tree-within ms i (let v = h.1 in omega arith)
    struct-there (Class p bs ms) h (step.Elem i) q e = absurd (cc)
    struct-there (Leaf v) h s q e = absurd h
    struct-there (Row xs) h s q e = absurd h
    struct-there Union h s q e = absurd h
    struct-there (Active m x) h s q e = absurd h

    member-there : (x : Tree) → ClassForm key.Union b x → (s : Step) → PartThere x s
    member-there Union h s e = union-there (part Union s) e
    member-there (Active m x) h s e = union-there (part (Active m x) s) e
    member-there (Leaf v) h s e = absurd h
    member-there (Row xs) h s e = absurd h
    member-there (Class p bs ms) h s e = absurd h

    key-there : (w : ClassKey) (x : Tree) → ClassForm w b x → (s : Step) (q : TypeRow) → row_part t (record { kind = kind.Class c; konst = k }) s ≡ Some q → PartThere x s
    key-there key.Union x h s q e i = member-there x h s i
    key-there key.Struct x h s q e i = struct-there x h s q e
    key-there key.Class x h s q e i = struct-there x (class-struct b x h) s q e

  decl-there : (c : ClassId) (o : Option ClassDecl) → slice_get t.classes c.0 ≡ o → (x : Tree) → DeclForm t o x → (s : Step) (q : TypeRow) → row_part t (record { kind = kind.Class c; konst = k }) s ≡ Some q → PartThere x s
  decl-there c None eo x h s q e i = absurd h
  decl-there c (Some d) eo x h s q e i = key-there c h.body (body-known t c d h.body eo h.is_body) d.key x h.form s q e i

  kind-there : (os : Objects) (w : TypeKind) (x : Tree) → Form t os w x → (s : Step) (q : TypeRow) → row_part t (record { kind = w; konst = k }) s ≡ Some q → PartThere x s
  kind-there os (kind.Array to n) x h s q e i = row-there to n x h s q e
  kind-there os (kind.Class c) x h s q e i = decl-there c (slice_get t.classes c.0) refl x h s q e i
  kind-there os kind.Void x h s q e i = absurd (cc)
  kind-there os kind.Nullptr x h s q e i = absurd (cc)
  kind-there os (kind.Int _) x h s q e i = absurd (cc)
  kind-there os (kind.Enum _) x h s q e i = absurd (cc)
  kind-there os (kind.Pointer _) x h s q e i = absurd (cc)
  kind-there os (kind.Reference _) x h s q e i = absurd (cc)

or-parts : (a b : Bool) → (a || b) ≡ false → (a ≡ false) × (b ≡ false)
or-parts true b e = absurd (true≢false e)
or-parts false b e = (refl, e)

pub below-there : (t : Tables) (os : Objects) (ss : List Step) (r : TypeRow) (x : Tree) → TreeFits t os r x → (q : TypeRow) → row_below t r ss ≡ Some q → list_any on.stops (on.on_way x ss) ≡ false → (y : Tree) × (below x ss ≡ Some y)
below-there t os [] r x h q e n = (x, refl)
below-there t os (s ∷ ss) r x h q e n =
    let i = option_and_then-some (λ (v : TypeRow). row_below t v ss) (row_part t r s) q e in
    let m = or-parts (on.stops (x, s)) (list_any on.stops (unwrap_or (option_map (λ y. on.on_way y ss) (part x s)) [])) n in
    let y = kind-there t r.konst os r.kind x (TreeFits-here t os r x h) s i.0 i.1 m.0 in
    let way : list_any on.stops (on.on_way y.0 ss) ≡ false = sym (ap (λ o. list_any on.stops (unwrap_or (option_map (λ y. on.on_way y ss) o) [])) y.1) ∙ m.1 in
    let z = below-there t os ss i.0 y.0 (TreeFits-part t os r x h s i.0 y.0 i.1 y.1) q i.2 way in
    (z.0, ap (option_and_then (λ (v : Tree). below v ss)) y.1 ∙ z.1)

-- nothing on the way stops a touching access that breaks no rule
pub record Reaches (o : Object) (p : Path) : Type 0 where
  pub not_past : p.past ≡ false
  pub no_stop : list_any on.stops (on.on_way o.tree p.steps) ≡ false

here-open : (b : Birth) → not (on.is_here b) ≡ false → on.is_opaque b ≡ false
here-open birth.Here e = refl
here-open birth.Usable e = refl
here-open birth.Opaque e = absurd (true≢false e)

open-stops : (b c : Bool) → b ≡ false → (not b && c) ≡ false → c ≡ false
open-stops true c e n = absurd (true≢false e)
open-stops false c e n = n

read-reaches : (t : Tables) (o : Object) (p : Path) (a : on.Access) (rs : List Rule) → AllByRecursion (λ r. on.holds t o p a r ≡ false) (rule.Dangling ∷ rule.PastEnd ∷ rule.NotUsable ∷ rule.InactiveMember ∷ rs) → Reaches o p
read-reaches t o p a rs h = record { not_past = h.1.0; no_stop = open-stops (on.is_opaque o.birth) (list_any on.stops (on.on_way o.tree p.steps)) h.1.1.0 h.1.1.1.0 }

write-reaches : (t : Tables) (o : Object) (p : Path) (a : on.Access) (rs : List Rule) → AllByRecursion (λ r. on.holds t o p a r ≡ false) (rule.Dangling ∷ rule.PastEnd ∷ rule.OutsideWrite ∷ rule.InactiveMember ∷ rs) → Reaches o p
write-reaches t o p a rs h = record { not_past = h.1.0; no_stop = open-stops (on.is_opaque o.birth) (list_any on.stops (on.on_way o.tree p.steps)) (here-open o.birth h.1.1.0) h.1.1.1.0 }

touching-reaches : (t : Tables) (o : Object) (p : Path) (a : on.Access) → on.is_touching a ≡ true → AllByRecursion (λ r. on.holds t o p a r ≡ false) (on.order a) → Reaches o p
touching-reaches t o p on.Load e h = read-reaches t o p on.Load (rule.OutOfLifetime ∷ rule.Indeterminate ∷ []) h
touching-reaches t o p on.Which e h = read-reaches t o p on.Which (rule.OutOfLifetime ∷ []) h
touching-reaches t o p on.Store e h = write-reaches t o p on.Store (rule.OutOfLifetime ∷ rule.ConstWrite ∷ []) h
touching-reaches t o p on.Init e h = write-reaches t o p on.Init [] h
touching-reaches t o p on.Activate e h = write-reaches t o p on.Activate [] h
touching-reaches t o p (on.Advance to) e h = write-reaches t o p (on.Advance to) (rule.OutOfLifetime ∷ []) h
touching-reaches t o p a e h = absurd (true≢false (sym e))

pub reached-there : (t : Tables) (os : Objects) (p : Path) (r : TypeRow) (o : Object) → Fit t os → row_of t os p ≡ Some r → slice_get os p.object ≡ Some o → Reaches o p → (x : Tree) × (at os p ≡ Some x) × Form t os r.kind x
reached-there t os p r o h e eo way =
    let w = place-at t os p r way.not_past e in
    let f = h p.object o eo in
    let object : w.object ≡ o = some_inj w.object o (sym w.is_object ∙ eo) in
    let root : w.root ≡ f.row = some_inj w.root f.row (sym w.is_root ∙ ap (root_row t) object ∙ f.is_row) in
    let leads : row_below t f.row p.steps ≡ Some r = ap (λ z. row_below t z p.steps) (sym root) ∙ w.leads in
    let x = below-there t os p.steps f.row o.tree f.parts r leads way.no_stop in
    (x.0, ap (option_and_then (λ (z : Object). below z.tree p.steps)) eo ∙ x.1, f.parts p.steps r x.0 leads x.1)

pub touched-there : (t : Tables) (os : Objects) (p : Path) (r : TypeRow) (a : on.Access) → Fit t os → row_of t os p ≡ Some r → on.is_touching a ≡ true → on.broken t os p a ≡ None → (x : Tree) × (at os p ≡ Some x) × Form t os r.kind x
touched-there t os p r a h e is b =
    let o = object-of t os p r e in
    reached-there t os p r o.0 h e o.1 (touching-reaches t o.0 p a is (find-none (on.holds t o.0 p a) (on.order a) (unbroken t os p a o.0 o.1 b)))

leaf-there : (t : Tables) (os : Objects) (k : TypeKind) (x : Tree) → ScalarForm t os k x → (v : Scalar Path) → scalar_of (Some x) ≡ v → x ≡ Leaf v
leaf-there t os k (Leaf w) h v e = ap Leaf e
leaf-there t os k (Row xs) h v e = absurd h
leaf-there t os k (Class p bs ms) h v e = absurd h
leaf-there t os k Union h v e = absurd h
leaf-there t os k (Active m x) h v e = absurd h

value-there : (t : Tables) (os : Objects) (k : TypeKind) (x : Tree) → HoldsValue k → Form t os k x → (v : Scalar Path) → scalar_of (Some x) ≡ v → x ≡ Leaf v
value-there t os kind.Nullptr x s h v e = leaf-there t os kind.Nullptr x h v e
value-there t os (kind.Int i) x s h v e = leaf-there t os (kind.Int i) x h v e
value-there t os (kind.Enum i) x s h v e = leaf-there t os (kind.Enum i) x h v e
value-there t os (kind.Pointer to) x s h v e = leaf-there t os (kind.Pointer to) x h v e
value-there t os (kind.Reference to) x s h v e = leaf-there t os (kind.Reference to) x h v e
value-there t os kind.Void x s h v e = absurd s
value-there t os (kind.Array to n) x s h v e = absurd s
value-there t os (kind.Class c) x s h v e = absurd s

pub load-there : (t : Tables) (os : Objects) (p : Path) (r : TypeRow) (v : Scalar Path) → Fit t os → row_of t os p ≡ Some r → HoldsValue r.kind → load t os p ≡ Ok v → at os p ≡ Some (Leaf v)
load-there t os p r v h e s l =
    let u = unless-ok (on.broken t os p on.Load) (scalar_of (at os p)) v l in
    let x = touched-there t os p r on.Load h e refl u.0 in
    x.1 ∙ ap Some (value-there t os r.kind x.0 s x.2 v (sym (ap scalar_of x.1) ∙ u.1))

-- the active member of a union is one of its class's

-- a member of the class that a type of this kind is
pub record IsMember (t : Tables) (k : TypeKind) (m : ℕ) : Type 0 where
  pub class_id : ClassId
  pub is_class : k ≡ kind.Class class_id
  pub field : Field
  pub is_field : field_of t class_id m ≡ Some field

active-listed : (k : ClassKey) (b : ClassBody) (m : ℕ) (x : Tree) → ClassForm k b (Active m x) → m < length b.fields
active-listed key.Union b m x h = h
active-listed key.Struct b m x h = absurd h
active-listed key.Class b m x h = absurd h

decl-member : (t : Tables) (c : ClassId) (o : Option ClassDecl) → slice_get t.classes c.0 ≡ o → (m : ℕ) (x : Tree) → DeclForm t o (Active m x) → IsMember t (kind.Class c) m
decl-member t c None e m x h = absurd h
decl-member t c (Some d) e m x h =
    let f = at-within h.body.fields m (active-listed d.key h.body m x h.form) in
    record { class_id = c; is_class = refl; field = f.0; is_field = ap (option_and_then (λ (w : ClassBody). slice_get w.fields m)) (body-known t c d h.body e h.is_body) ∙ f.1 }

form-member : (t : Tables) (os : Objects) (k : TypeKind) (m : ℕ) (x : Tree) → Form t os k (Active m x) → IsMember t k m
form-member t os (kind.Class c) m x h = decl-member t c (slice_get t.classes c.0) refl m x h
form-member t os kind.Void m x h = absurd h
form-member t os kind.Nullptr m x h = absurd h
form-member t os (kind.Int i) m x h = absurd h
form-member t os (kind.Enum i) m x h = absurd h
form-member t os (kind.Pointer to) m x h = absurd h
form-member t os (kind.Reference to) m x h = absurd h
form-member t os (kind.Array to n) m x h = absurd h

tree-member : (t : Tables) (os : Objects) (k : TypeKind) (m : ℕ) (x : Tree) → Form t os k x → member_of (Some x) ≡ Some m → IsMember t k m
tree-member t os k m (Active n x) h e = subst (IsMember t k) (some_inj n m e) (form-member t os k n x h)
tree-member t os k m (Leaf v) h e = absurd (cc)
tree-member t os k m (Row xs) h e = absurd (cc)
tree-member t os k m (Class p bs ms) h e = absurd (cc)
tree-member t os k m Union h e = absurd (cc)

pub active-member : (t : Tables) (os : Objects) (p : Path) (r : TypeRow) (m : ℕ) → Fit t os → row_of t os p ≡ Some r → active t os p ≡ Ok (Some m) → IsMember t r.kind m
active-member t os p r m h e a =
    let u = unless-ok (on.broken t os p on.Which) (member_of (at os p)) (Some m) a in
    let x = touched-there t os p r on.Which h e refl u.0 in
    tree-member t os r.kind m x.0 x.2 (sym (ap member_of x.1) ∙ u.1)
