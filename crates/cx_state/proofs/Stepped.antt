-- Objects fit after each step that changes a phase, a union's member or a whole object.
use Rattle.std.proofs.Common.{◌≡◌, ℕ, ◌<◌, Bool, true, false, length, Option, None, Some, Ok, refl, sym, ap, subst, ◌∙◌, slice_get, if◌then◌else◌}
use Rattle.std.specs.Prelude.{option_map, option_and_then, unwrap_or, ◌==◌, ◌&&◌, not}
use Rattle.std.proofs.lemmas.Bool.{eqb-true}
use Rattle.std.proofs.lemmas.Option.{slice_get_within}
use Rattle.cx_type_defs.specs.declared.ids.Step.{Step}
use Rattle.cx_type_defs.specs.declared.ids.Step.TheVariants as step
use Rattle.cx_type_defs.specs.declared.ids.ClassId.{ClassId}
use Rattle.cx_type_defs.specs.declared.kind.TypeRow.{TypeRow}
use Rattle.cx_type_defs.specs.declared.kind.TypeKind.{TypeKind}
use Rattle.cx_type_defs.specs.declared.kind.TypeKind.TheVariants as kind
use Rattle.cx_type_defs.specs.declared.decl.Field.{Field}
use Rattle.cx_type_defs.specs.declared.decl.ClassBody.{ClassBody}
use Rattle.cx_type_defs.specs.declared.decl.ClassDecl.{ClassDecl}
use Rattle.cx_type_defs.specs.declared.decl.ClassKey.{ClassKey}
use Rattle.cx_type_defs.specs.declared.decl.ClassKey.TheVariants as key
use Rattle.cx_type_defs.specs.Tables.{Tables, body_at, field_of}
use Rattle.cx_type_defs.specs.Questions.{OfType, asked}
use Rattle.cx_type_defs.proofs.Lists.{some_inj, option_and_then-some}
use Rattle.cx_state.specs.declared.kind.Phase.{Phase}
use Rattle.cx_state.specs.Objects.{Path, Tree, Trees, Leaf, Row, Class, Union, Active, part, put, Objects}
use Rattle.cx_state.specs.Places.{row_part, row_below, root_row, row_of}
use Rattle.cx_state.specs.Conditions as on
use Rattle.cx_state.specs.Steps.{blank, new_in, new_tree, with_phase, advance, activated, is_ended, begun, member_tree, activate, deactivated, deactivate, Write, Init, Store, Advance, Activate, Deactivate, write}
use Rattle.cx_state.specs.Forms.{ClassForm, DeclForm, Form, TreeFits, Fit}
use Rattle.cx_state.specs.Asked.{GivesValue, NamesMember}
use Rattle.cx_state.proofs.Fitting.{TreeFits-here, TreeFits-part, TreeFits-made, DeclForm-with}
use Rattle.cx_state.proofs.NewTrees.{body-known, asked-fits}
use Rattle.cx_state.proofs.Complete.{complete-new}
use Rattle.cx_state.proofs.PartsComplete.{member-complete}
use Rattle.cx_state.proofs.Written.{unless-ok, place-at, object-of, past-activate, Fit-put, Fit-init, Fit-store}

-- another phase

phase-part : (p to : Phase) (bs ms : Trees) (s : Step) → part (Class to bs ms) s ≡ part (Class p bs ms) s
phase-part p to bs ms (step.Base i) = refl
phase-part p to bs ms (step.Field i) = refl
phase-part p to bs ms (step.Elem i) = refl

ClassForm-phase : (p to : Phase) (bs ms : Trees) (k : ClassKey) (b : ClassBody) → ClassForm k b (Class p bs ms) → ClassForm k b (Class to bs ms)
ClassForm-phase p to bs ms key.Struct b h = h
ClassForm-phase p to bs ms key.Class b h = h
ClassForm-phase p to bs ms key.Union b h = h

Form-phase : (t : Tables) (os : Objects) (k : TypeKind) (p to : Phase) (bs ms : Trees) → Form t os k (Class p bs ms) → Form t os k (Class to bs ms)
Form-phase t os (kind.Class c) p to bs ms h = DeclForm-with t (slice_get t.classes c.0) (Class p bs ms) (Class to bs ms) (ClassForm-phase p to bs ms) h
Form-phase t os kind.Void p to bs ms h = h
Form-phase t os kind.Nullptr p to bs ms h = h
Form-phase t os (kind.Int _) p to bs ms h = h
Form-phase t os (kind.Enum _) p to bs ms h = h
Form-phase t os (kind.Pointer _) p to bs ms h = h
Form-phase t os (kind.Reference _) p to bs ms h = h
Form-phase t os (kind.Array _ _) p to bs ms h = h

TreeFits-phase : (t : Tables) (os : Objects) (r : TypeRow) (to : Phase) (x : Tree) → TreeFits t os r x → TreeFits t os r (with_phase to x)
TreeFits-phase t os r to (Class p bs ms) h =
    TreeFits-made t os r (Class to bs ms) (Form-phase t os r.kind p to bs ms (TreeFits-here t os r (Class p bs ms) h)) (λ s q y a b.
    TreeFits-part t os r (Class p bs ms) h s q y a (sym (phase-part p to bs ms s) ∙ b))
TreeFits-phase t os r to (Leaf v) h = h
TreeFits-phase t os r to (Row xs) h = h
TreeFits-phase t os r to Union h = h
TreeFits-phase t os r to (Active m x) h = h

pub Fit-advance : (t : Tables) (os ns : Objects) (p : Path) (to : Phase) → Fit t os → advance t os p to ≡ Ok ns → Fit t ns
Fit-advance t os ns p to h e =
    let u = unless-ok (on.broken t os p (on.Advance to)) (put (with_phase to) os p) ns e in
    subst (Fit t) u.1 (Fit-put t (with_phase to) os p h (λ o row r x eo er eq ex k. TreeFits-phase t os r to x k))

-- another active member

-- a union, whichever member is active
abbrev IsUnionTree : Tree → Type 0
IsUnionTree Union = Unit {0}
IsUnionTree (Active m x) = Unit {0}
IsUnionTree _ = ⊥

union-struct : (b : ClassBody) (x : Tree) → IsUnionTree x → ClassForm key.Struct b x → ⊥
union-struct b Union u h = h
union-struct b (Active m x) u h = h
union-struct b (Leaf v) u h = u
union-struct b (Row xs) u h = u
union-struct b (Class p bs ms) u h = u

union-class : (b : ClassBody) (x : Tree) → IsUnionTree x → ClassForm key.Class b x → ⊥
union-class b Union u h = h
union-class b (Active m x) u h = h
union-class b (Leaf v) u h = u
union-class b (Row xs) u h = u
union-class b (Class p bs ms) u h = u

ClassForm-active : (k : ClassKey) (b : ClassBody) (x new : Tree) (m : ℕ) → IsUnionTree x → m < length b.fields → ClassForm k b x → ClassForm k b (Active m new)
ClassForm-active key.Union b x new m u l h = l
ClassForm-active key.Struct b x new m u l h = absurd (union-struct b x u h)
ClassForm-active key.Class b x new m u l h = absurd (union-class b x u h)

-- a class's member by its number, as its body tells it
member-in : (t : Tables) (c : ClassId) (b : ClassBody) (m : ℕ) (f : Field) → body_at t c ≡ Some b → field_of t c m ≡ Some f → slice_get b.fields m ≡ Some f
member-in t c b m f e g = sym (ap (option_and_then (λ (w : ClassBody). slice_get w.fields m)) e) ∙ g

DeclForm-active : (t : Tables) (c : ClassId) (o : Option ClassDecl) → slice_get t.classes c.0 ≡ o → (x new : Tree) (m : ℕ) (f : Field) → IsUnionTree x → field_of t c m ≡ Some f → DeclForm t o x → DeclForm t o (Active m new)
DeclForm-active t c None e x new m f u g h = absurd h
DeclForm-active t c (Some d) e x new m f u g h = record {
  body = h.body;
  is_body = h.is_body;
  known = h.known;
  form = ClassForm-active d.key h.body x new m u (slice_get_within h.body.fields m f (member-in t c h.body m f (body-known t c d h.body e h.is_body) g)) h.form;
}

pub only-part : (m i : ℕ) (new y : Tree) → part (Active m new) (step.Field i) ≡ Some y → (m ≡ i) × (new ≡ y)
only-part m i new y e = by (m == i) (λ h. eqb-true m i h) e
  where
    by : (b : Bool) → (b ≡ true → m ≡ i) → (if b then Some new else None) ≡ Some y → (m ≡ i) × (new ≡ y)
    by true h e = (h refl, some_inj new y e)
    by false h e = absurd (cc)

active-part : (t : Tables) (os : Objects) (c : ClassId) (k : Bool) (new : Tree) (m : ℕ) (f : Field) → field_of t c m ≡ Some f → ((q : TypeRow) → slice_get t.rows f.ty.0 ≡ Some q → TreeFits t os q new)
    → (s : Step) (q : TypeRow) (y : Tree) → row_part t (record { kind = kind.Class c; konst = k }) s ≡ Some q → part (Active m new) s ≡ Some y → TreeFits t os q y
active-part t os c k new m f g h (step.Field i) q y a b =
    let w = only-part m i new y b in
    let v = option_and_then-some (λ (z : Field). slice_get t.rows z.ty.0) (field_of t c i) q a in
    let same : v.0 ≡ f = some_inj v.0 f (sym v.1 ∙ ap (field_of t c) (sym w.0) ∙ g) in
    subst (TreeFits t os q) w.1 (h q (subst (λ (z : Field). slice_get t.rows z.ty.0 ≡ Some q) same v.2))
active-part t os c k new m f g h (step.Base i) q y a b = absurd (cc)
active-part t os c k new m f g h (step.Elem i) q y a b = absurd (cc)

Active-fits : (t : Tables) (os : Objects) (c : ClassId) (k : Bool) (x new : Tree) (m : ℕ) (f : Field) → IsUnionTree x → field_of t c m ≡ Some f → ((q : TypeRow) → slice_get t.rows f.ty.0 ≡ Some q → TreeFits t os q new)
    → Form t os (kind.Class c) x → TreeFits t os (record { kind = kind.Class c; konst = k }) (Active m new)
Active-fits t os c k x new m f u g h form =
    TreeFits-made t os (record { kind = kind.Class c; konst = k }) (Active m new) (DeclForm-active t c (slice_get t.classes c.0) refl x new m f u g form) (active-part t os c k new m f g h)

either-fits : (t : Tables) (os : Objects) (r : TypeRow) (b : Bool) (x y : Tree) → TreeFits t os r x → TreeFits t os r y → TreeFits t os r (if b then x else y)
either-fits t os r true x y g h = g
either-fits t os r false x y g h = h

TreeFits-activated : (t : Tables) (os : Objects) (c : ClassId) (k : Bool) (x new : Tree) (m : ℕ) (f : Field) → field_of t c m ≡ Some f → ((q : TypeRow) → slice_get t.rows f.ty.0 ≡ Some q → TreeFits t os q new)
    → TreeFits t os (record { kind = kind.Class c; konst = k }) x → TreeFits t os (record { kind = kind.Class c; konst = k }) (activated m new x)
TreeFits-activated t os c k Union new m f g h w = Active-fits t os c k Union new m f tt g h (TreeFits-here t os (record { kind = kind.Class c; konst = k }) Union w)
TreeFits-activated t os c k (Active n x) new m f g h w =
    either-fits t os (record { kind = kind.Class c; konst = k }) ((n == m) && not (is_ended x)) (Active n x) (Active m new) w
    (Active-fits t os c k (Active n x) new m f tt g h (TreeFits-here t os (record { kind = kind.Class c; konst = k }) (Active n x) w))
TreeFits-activated t os c k (Leaf v) new m f g h w = w
TreeFits-activated t os c k (Row xs) new m f g h w = w
TreeFits-activated t os c k (Class p bs ms) new m f g h w = w

pub member_tree-is : (t : Tables) (p : Phase) (m : ℕ) (o : Option TypeRow) (r : TypeRow) (c : ClassId) (f : Field) (x : Tree) → o ≡ Some r → r.kind ≡ kind.Class c → field_of t c m ≡ Some f → asked (new_in p) t (OfType f.ty) ≡ Some x → x ≡ member_tree t p m o
member_tree-is t p m o r c f x eo ek ef ex =
    let tree_of : Option Field → Tree = λ l. unwrap_or (option_map (λ (z : Field). new_tree t p z.ty) l) blank in
    let found : option_and_then (λ d. field_of t d m) (option_and_then (λ (q : TypeRow). on.class_of q.kind) o) ≡ Some f =
    ap (λ l. option_and_then (λ d. field_of t d m) (option_and_then (λ (q : TypeRow). on.class_of q.kind) l)) eo ∙ ap (λ z. option_and_then (λ d. field_of t d m) (on.class_of z)) ek ∙ ef in
    sym (ap tree_of found ∙ ap (λ l. unwrap_or l blank) ex)

pub Fit-activate : (t : Tables) (os ns : Objects) (p : Path) (m : ℕ) (alive : Bool) (r : TypeRow) (c : ClassId) (f : Field) → Fit t os → row_of t os p ≡ Some r → r.kind ≡ kind.Class c → field_of t c m ≡ Some f
    → activate t os p m alive ≡ Ok ns → Fit t ns
Fit-activate t os ns p m alive r c f h e ek ef act =
    let new = member_tree t (begun alive) m (row_of t os p) in
    let u = unless-ok (on.broken t os p on.Activate) (put (activated m new) os p) ns act in
    let o = object-of t os p r e in
    let w = place-at t os p r (past-activate t os p o.0 o.1 u.0) e in
    let x = complete-new t (begun alive) f.ty (member-complete t os p r c m f h e ek ef) in
    let is : x.0 ≡ new = member_tree-is t (begun alive) m (row_of t os p) r c f x.0 e ek ef x.1 in
    let fits : (q : TypeRow) → slice_get t.rows f.ty.0 ≡ Some q → TreeFits t os q new = λ q at. subst (TreeFits t os q) is ((asked-fits t os (begun alive)).type_fits f.ty x.0 x.1 q at q.konst) in
    subst (Fit t) u.1 (Fit-put t (activated m new) os p h (λ o row q y eo er eq ey k.
    let object : o ≡ w.object = some_inj o w.object (sym eo ∙ w.is_object) in
    let root : row ≡ w.root = some_inj row w.root (sym er ∙ ap (root_row t) object ∙ w.is_root) in
    let same : r ≡ q = some_inj r q (sym w.leads ∙ ap (λ z. row_below t z p.steps) (sym root) ∙ eq) in
    let is_class : q.kind ≡ kind.Class c = ap (λ (z : TypeRow). z.kind) (sym same) ∙ ek in
    subst (λ z. TreeFits t os (record { kind = z; konst = q.konst }) (activated m new y)) (sym is_class)
    (TreeFits-activated t os c q.konst y new m f ef fits (subst (λ z. TreeFits t os (record { kind = z; konst = q.konst }) y) is_class k))))

-- no active member

ClassForm-none : (k : ClassKey) (b : ClassBody) (m : ℕ) (x : Tree) → ClassForm k b (Active m x) → ClassForm k b Union
ClassForm-none key.Union b m x h = tt
ClassForm-none key.Struct b m x h = absurd h
ClassForm-none key.Class b m x h = absurd h

Form-none : (t : Tables) (os : Objects) (k : TypeKind) (m : ℕ) (x : Tree) → Form t os k (Active m x) → Form t os k Union
Form-none t os (kind.Class c) m x h = DeclForm-with t (slice_get t.classes c.0) (Active m x) Union (λ w b. ClassForm-none w b m x) h
Form-none t os (kind.Array to n) m x h = absurd h
Form-none t os kind.Void m x h = absurd h
Form-none t os kind.Nullptr m x h = absurd h
Form-none t os (kind.Int _) m x h = absurd h
Form-none t os (kind.Enum _) m x h = absurd h
Form-none t os (kind.Pointer _) m x h = absurd h
Form-none t os (kind.Reference _) m x h = absurd h

TreeFits-deactivated : (t : Tables) (os : Objects) (r : TypeRow) (x : Tree) → TreeFits t os r x → TreeFits t os r (deactivated x)
TreeFits-deactivated t os r (Active m x) h = TreeFits-made t os r Union (Form-none t os r.kind m x (TreeFits-here t os r (Active m x) h)) (λ s q y a b. absurd (cc))
TreeFits-deactivated t os r Union h = h
TreeFits-deactivated t os r (Leaf v) h = h
TreeFits-deactivated t os r (Row xs) h = h
TreeFits-deactivated t os r (Class p bs ms) h = h

pub Fit-deactivate : (t : Tables) (os ns : Objects) (p : Path) → Fit t os → deactivate t os p ≡ Ok ns → Fit t ns
Fit-deactivate t os ns p h act =
    let u = unless-ok (on.broken t os p on.Activate) (put deactivated os p) ns act in
    subst (Fit t) u.1 (Fit-put t deactivated os p h (λ o row q y eo er eq ey k. TreeFits-deactivated t os q y k))

-- each of these writes

pub Fit-write_of : (t : Tables) (os ns : Objects) (p : Path) (w : Write) → Fit t os → GivesValue t os p w → NamesMember t os p w → write t os p w ≡ Ok ns → Fit t ns
Fit-write_of t os ns p (Init v) h g m e = Fit-init t os ns p g.row v h g.is_row g.is_scalar g.may_hold e
Fit-write_of t os ns p (Store v) h g m e = Fit-store t os ns p g.row v h g.is_row g.is_scalar g.may_hold e
Fit-write_of t os ns p (Advance to) h g m e = Fit-advance t os ns p to h e
Fit-write_of t os ns p (Activate k alive) h g m e = Fit-activate t os ns p k alive m.row m.class m.field h m.is_row m.is_class m.is_field e
Fit-write_of t os ns p Deactivate h g m e = Fit-deactivate t os ns p h e
