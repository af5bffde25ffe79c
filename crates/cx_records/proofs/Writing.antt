-- A write changes the objects at its place alone, and keeps the shapes.
use Rattle.std.proofs.Common.{◌≡◌, ℕ, zero, suc, ◌+◌, ◌<◌, ◌≤◌, ◌==◌, Bool, true, false, ◌&&◌, not, List, [], ◌∷◌, map, sum, Option, None, Some, Ok, Err, ◌⊎◌, inl, inr, refl, sym, ap, subst, ◌∙◌, slice_get, slice_set, arith, eq-eqb, if◌then◌else◌}
use Rattle.std.proofs.lemmas.Bool.{cases_Bool}
use Rattle.std.proofs.Common.{eqb-true}
use Rattle.std.specs.Prelude.{option_map, option_and_then}
use Rattle.std.specs.List.{find}
use Rattle.cx_base.specs.declared.rule.Rule.{Rule}
use Rattle.cx_base.specs.declared.rule.Rule.TheVariants as rule
use Rattle.cx_type_defs.proofs.Lists.{some_inj}
use Rattle.cx_type_defs.specs.declared.kind.TypeKind.{TypeKind}
use Rattle.cx_type_defs.specs.declared.kind.TypeKind.TheVariants as kind
use Rattle.cx_type_defs.specs.Tables.{Tables, changed_at}
use Rattle.cx_state.specs.declared.kind.Scalar.{Scalar}
use Rattle.cx_state.specs.Objects as tree
use Rattle.cx_state.specs.Objects.{Path, Tree, Trees, Object, Objects, below, changed, at, put}
use Rattle.cx_state.specs.Places.{row_of}
use Rattle.cx_state.specs.Conditions as on
use Rattle.cx_state.specs.Steps as steps
use Rattle.cx_state.specs.Forms.{Knows, Fit, HoldsValue, MayHold}
use Rattle.cx_state.proofs.Written.{Fit-init, Fit-store}
use Rattle.cx_store.specs.Stores.{IsScalarAt, MayTake, seen, Changed}
use Rattle.cx_shapes.specs.Forms.{Form, size}
use Rattle.cx_shapes.specs.Contents.{Cell, Cells, tree_of, with_cell}
use Rattle.cx_shapes.proofs.Numbering.{size_pos}
use Rattle.cx_shapes.proofs.Parting.{SameBut, tree_changes}
use Rattle.cx_records.specs.declared.place.Place.{Place}
use Rattle.cx_records.specs.declared.place.End.TheVariants as end
use Rattle.cx_records.specs.declared.record.Content.TheVariants as content
use Rattle.cx_records.specs.declared.record.Contents.{Contents}
use Rattle.cx_records.specs.declared.record.Contents.TheVariants as contents
use Rattle.cx_records.specs.declared.record.Record.{Record}
use Rattle.cx_records.specs.Records.{path_in, cell_of, cells_of, record_form, forms_in, object_in, objects_of}
use Rattle.cx_records.specs.Fits.{Fits, RecordFits, IsFull, is_each, may_change, live_in, live_of}
use Rattle.cx_records.specs.Checks.{cells_in, StandsAt}
use Rattle.cx_records.specs.Writes.{Puts, Written, HasRoom, HasRoomAt}
use Rattle.cx_records.proofs.Placed.{get_map}
use Rattle.cx_records.proofs.Checking.{numbered, standing}
use Rattle.cx_records.proofs.Rules.{the_object, path_is, tree_here}
use Rattle.cx_records.proofs.Reading.{not_found, not_past, Typed, typed, of_row, scalar_leaf}

-- lists with one item set

pub map_set : {A B : Type 0} (f : A → B) (xs : List A) (n : ℕ) (y : A) → map f (slice_set xs n y) ≡ slice_set (map f xs) n (f y)
map_set f [] n y = refl
map_set f (x ∷ xs) zero y = refl
map_set f (x ∷ xs) (suc n) y = ap (λ l. f x ∷ l) (map_set f xs n y)

pub set_still : {A : Type 0} (xs : List A) (n : ℕ) (x : A) → slice_get xs n ≡ Some x → slice_set xs n x ≡ xs
set_still [] n x e = refl
set_still (a ∷ xs) zero x e = ap (λ y. y ∷ xs) (sym (some_inj a x e))
set_still (a ∷ xs) (suc n) x e = ap (λ l. a ∷ l) (set_still xs n x e)

pub set_changed : {A : Type 0} (h : A → A) (xs : List A) (n : ℕ) (x : A) → slice_get xs n ≡ Some x → slice_set xs n (h x) ≡ changed_at h xs n
set_changed h [] n x e = refl
set_changed h (a ∷ xs) zero x e = ap (λ y. h y ∷ xs) (sym (some_inj a x e))
set_changed h (a ∷ xs) (suc n) x e = ap (λ l. a ∷ l) (set_changed h xs n x e)

pub get_set : {A : Type 0} (xs : List A) (n : ℕ) (y : A) (m : ℕ) (z : A) → slice_get (slice_set xs n y) m ≡ Some z → ((m ≡ n) × (z ≡ y)) ⊎ (slice_get xs m ≡ Some z)
get_set [] n y m z e = inr e
get_set (x ∷ xs) zero y zero z e = inl (refl, sym (some_inj y z e))
get_set (x ∷ xs) zero y (suc m) z e = inr e
get_set (x ∷ xs) (suc n) y zero z e = inr e
get_set (x ∷ xs) (suc n) y (suc m) z e = elim (get_set xs n y m z e) as (λ _. ((suc m ≡ suc n) × (z ≡ y)) ⊎ (slice_get xs m ≡ Some z)) [ inl h ↦ inl (ap suc h.0, h.1) | inr h ↦ inr h ]

-- another record of the same form leaves the forms

pub forms_set : (rs : List Record) (n : ℕ) (r now : Record) → slice_get rs n ≡ Some r → record_form now ≡ record_form r → forms_in (slice_set rs n now) ≡ forms_in rs
forms_set rs n r now e f =
    map_set record_form rs n now ∙ ap (slice_set (forms_in rs) n) f ∙ set_still (forms_in rs) n (record_form r) (get_map record_form rs n ∙ ap (option_map record_form) e)

pub objects_set : (rs : List Record) (n : ℕ) (r now : Record) (h : Object → Object) → slice_get rs n ≡ Some r → record_form now ≡ record_form r → object_in (forms_in rs) now ≡ h (object_in (forms_in rs) r)
    → objects_of (slice_set rs n now) ≡ changed_at h (objects_of rs) n
objects_set rs n r now h e f g =
    ap (λ fs. map (object_in fs) (slice_set rs n now)) (forms_set rs n r now e f)
    ∙ map_set (object_in (forms_in rs)) rs n now
    ∙ ap (slice_set (objects_of rs) n) g
    ∙ set_changed h (objects_of rs) n (object_in (forms_in rs) r) (get_map (object_in (forms_in rs)) rs n ∙ ap (option_map (object_in (forms_in rs))) e)

pub live_set : (rs : List Record) (n : ℕ) (r now : Record) → slice_get rs n ≡ Some r → live_in now ≡ live_in r → live_of (slice_set rs n now) ≡ live_of rs
live_set rs n r now e f = ap sum (map_set live_in rs n now ∙ ap (slice_set (map live_in rs) n) f ∙ set_still (map live_in rs) n (live_in r) (get_map live_in rs n ∙ ap (option_map live_in) e))

pub refit : (t : Tables) (fs gs : List Form) (r : Record) → RecordFits t (object_in fs r) r → RecordFits t (object_in gs r) r
refit t fs gs r h = record { row = h.row; is_row = h.is_row; form = h.form; small = h.small; full = h.full; held = h.held; cells = h.cells }

pub fits_set : (t : Tables) (rs : List Record) (live : ℕ) (n : ℕ) (now : Record) → Fits t rs live → RecordFits t (object_in (forms_in rs) now) now → Fit t (objects_of (slice_set rs n now))
    → (other : ℕ) → other ≡ live_of (slice_set rs n now) → Fits t (slice_set rs n now) other
fits_set t rs live n now f r fit other e = record {
  fit = fit;
  kept = λ m x g. elim (get_set rs n now m x g) as (λ _. RecordFits t (object_in (forms_in (slice_set rs n now)) x) x) [
    | inl h ↦ subst (λ y. RecordFits t (object_in (forms_in (slice_set rs n now)) y) y) (sym h.1) (refit t (forms_in rs) (forms_in (slice_set rs n now)) now r)
    | inr h ↦ refit t (forms_in rs) (forms_in (slice_set rs n now)) x (f.kept m x h)
  ];
  count = e;
}

-- another content

abbrev pub rewrite : Record → Contents → Record
rewrite r c = record r { contents = c }

pub fits_rewritten : (t : Tables) (rs : List Record) (live : ℕ) (n : ℕ) (r : Record) (c : Contents) → Fits t rs live → slice_get rs n ≡ Some r → IsFull (record_form r) c → is_each c ≡ true → Fit t (objects_of (slice_set rs n (rewrite r c)))
    → Fits t (slice_set rs n (rewrite r c)) live
fits_rewritten t rs live n r c f e full each fit =
    let h = f.kept n r e in
    fits_set t rs live n (rewrite r c) f (record { row = h.row; is_row = h.is_row; form = h.form; small = h.small; full = full; held = λ _. each; cells = h.cells }) fit live
    (f.count ∙ sym (live_set rs n r (rewrite r c) e refl))

-- the objects after it

pub objects_put : (rs : List Record) (p : Place) (g : Form) (there dead : Bool) (s : StandsAt rs p g there dead) (now : Contents) (F : Tree → Tree) → p.end ≡ end.At
    → SameBut (cells_in rs s.rec) (cells_of (forms_in rs) now) 0 (size (record_form s.rec)) p.part (size g) → F (tree_here rs p s.rec g) ≡ tree_of g (cells_of (forms_in rs) now) p.part
    → objects_of (slice_set rs p.object (rewrite s.rec now)) ≡ put F (objects_of rs) (path_in (forms_in rs) p)
objects_put rs p g there dead s now F a but eq =
    let w = s.walked in
    let fs = forms_in rs in
    let f = record_form s.rec in
    let c = cells_in rs s.rec in
    let d = cells_of fs now in
    let z : 0 + p.part ≡ p.part = omega arith in
    let x : changed F (tree_of f c 0) w.steps ≡ tree_of f d 0 =
    tree_changes f c d 0 w.steps (p.part, g) F w.leads (ap (λ k. F (tree_of g c k)) z ∙ eq ∙ sym (ap (tree_of g d) z)) (subst (λ k. SameBut c d 0 (size f) k (size g)) (sym z) but) in
    objects_set rs p.object s.rec (rewrite s.rec now) (λ (o : Object). record o { tree = changed F o.tree w.steps }) s.is_rec refl (ap (λ y. record (object_in fs s.rec) { tree = y }) (sym x))
    ∙ sym (ap (put F (objects_of rs)) (path_is rs p s.rec w.steps s.is_rec a w.are_steps))

-- one cell is another

pub with_same : (n : ℕ) (x : Cell) (c : Cells) (k : ℕ) → (k ≡ n → ⊥) → with_cell n x c k ≡ c k
with_same n x c k h = elim (cases_Bool (k == n)) as (λ _. with_cell n x c k ≡ c k) [ inl e ↦ absurd (h (eqb-true k n e)) | inr e ↦ ap (λ b. if b then x else c k) e ]

pub with_here : (n : ℕ) (x : Cell) (c : Cells) → with_cell n x c n ≡ x
with_here n x c = ap (λ b. if b then x else c n) (eq-eqb n n refl)

pub one_cell : (c d : Cells) (n : ℕ) (x : Cell) (size_f size_g : ℕ) → ((j : ℕ) → d j ≡ with_cell n x c j) → 1 ≤ size_g → SameBut c d 0 size_f n size_g
one_cell c d n x size_f size_g h l = record {
  before = record { same = λ k a b. sym (h k ∙ with_same n x c k (λ e. absurd (omega arith))) };
  behind = record { same = λ k a b. sym (h k ∙ with_same n x c k (λ e. absurd (omega arith))) };
}

pub cell_here : (c d : Cells) (n : ℕ) (x : Cell) → ((j : ℕ) → d j ≡ with_cell n x c j) → d n ≡ x
cell_here c d n x h = h n ∙ with_here n x c

-- there is a content where a write breaks no rule

pub room : (t : Tables) (rs : List Record) (live : ℕ) (p : Place) (a : on.Access) (rest : List Rule) → Fits t rs live → Knows t (objects_of rs) (path_in (forms_in rs) p)
    → on.order a ≡ rule.Dangling ∷ rule.PastEnd ∷ rule.OutsideWrite ∷ rest → on.broken t (objects_of rs) (path_in (forms_in rs) p) a ≡ None → HasRoomAt rs p
room t rs live p a rest f k o n =
    let w = numbered t rs live p f k in
    let q = path_in (forms_in rs) p in
    let b = object_in (forms_in rs) w.rec in
    let x : find (on.holds t b q a) (rule.Dangling ∷ rule.PastEnd ∷ rule.OutsideWrite ∷ rest) ≡ None =
    sym (ap (option_and_then (λ (o : Object). find (on.holds t o q a) (on.order a))) (the_object rs p w.rec w.is_rec) ∙ ap (find (on.holds t b q a)) o) ∙ n in
    let y = not_found (on.holds t b q a) rule.Dangling (rule.PastEnd ∷ rule.OutsideWrite ∷ rest) x in
    let z = not_found (on.holds t b q a) rule.PastEnd (rule.OutsideWrite ∷ rest) y.1 in
    let u = not_found (on.holds t b q a) rule.OutsideWrite rest z.1 in
    let h = f.kept p.object w.rec w.is_rec in
    let m : may_change w.rec ≡ true = ap (λ v. v && not w.rec.released) (not_false (on.is_here w.rec.birth) u.0) ∙ ap not y.0 in
    record { rec = w.rec; is_rec = w.is_rec; room = go (record_form w.rec) w.rec.contents (h.held m) h.full w.few }
  where
    not_false : (b : Bool) → not b ≡ false → b ≡ true
    not_false true e = refl
    not_false false e = absurd (cc)

    go : (f : Form) (c : Contents) → is_each c ≡ true → IsFull f c → p.part < size f → HasRoom p.part c
    go f (contents.Same x) e full l = absurd (cc)
    go f (contents.Each items) e full l = omega arith

pub scalar_holds : (k : TypeKind) → HoldsValue k → HoldsValue k
scalar_holds kind.Void h = absurd h
scalar_holds (kind.Array of n) h = absurd h
scalar_holds (kind.Class c) h = absurd h
scalar_holds kind.Nullptr h = tt
scalar_holds (kind.Int i) h = tt
scalar_holds (kind.Enum e) h = tt
scalar_holds (kind.Pointer to) h = tt
scalar_holds (kind.Reference to) h = tt

-- a scalar is given a value

pub record Gives (t : Tables) (rs new : List Record) (live : ℕ) (p : Place) (F : Tree → Tree) : Type 0 where
  pub objects : objects_of new ≡ put F (objects_of rs) (path_in (forms_in rs) p)
  pub forms : forms_in new ≡ forms_in rs
  pub fits : Fit t (objects_of new) → Fits t new live

pub value_put : (t : Tables) (rs new : List Record) (live : ℕ) (p : Place) (v : Scalar Place) (g : Form) (there dead : Bool) (k : StandsAt rs p g there dead) → Typed t rs p g → IsScalarAt t (objects_of rs) (path_in (forms_in rs) p)
    → p.end ≡ end.At → Written rs new p (content.Value v) → Fits t rs live → Gives t rs new live p (λ _. tree.Leaf (seen (path_in (forms_in rs)) v))
value_put t rs new live p v g there dead k y s a w f =
    let l = scalar_leaf t rs p g y s in
    let r : w.rec ≡ k.rec = some_inj w.rec k.rec (sym w.is_rec ∙ k.is_rec) in
    let e : new ≡ slice_set rs p.object (rewrite k.rec w.now) = w.is_new ∙ ap (λ x. slice_set rs p.object (rewrite x w.now)) r in
    let u : Puts p.part (content.Value v) k.rec.contents w.now = subst (λ (x : Record). Puts p.part (content.Value v) x.contents w.now) r w.put in
    let fs = forms_in rs in
    let d = cells_of fs w.now in
    let h = f.kept p.object k.rec k.is_rec in
    record {
      objects = ap objects_of e ∙ objects_put rs p g there dead k w.now (λ _. tree.Leaf (seen (path_in fs) v)) a (one_cell (cells_in rs k.rec) d p.part (cell_of fs (content.Value v)) (size (record_form k.rec)) (size g) (u.cells fs) (size_pos g))
          (ap (λ (x : Cell). tree.Leaf x.value) (sym (cell_here (cells_in rs k.rec) d p.part (cell_of fs (content.Value v)) (u.cells fs))) ∙ ap (λ g. tree_of g d p.part) (sym l));
      forms = ap forms_in e ∙ forms_set rs p.object k.rec (rewrite k.rec w.now) k.is_rec refl;
      fits = λ x. subst (λ (z : List Record). Fits t z live) (sym e) (fits_rewritten t rs live p.object k.rec w.now f k.is_rec (u.full (record_form k.rec) h.full) u.each (subst (λ (z : List Record). Fit t (objects_of z)) e x));
    }

-- a write of a value that breaks no rule

pub record Given (t : Tables) (rs new : List Record) (live : ℕ) (p : Place) (v : Scalar Path) : Type 0 where
  pub form : Form
  pub typed : Typed t rs p form
  pub gives : Gives t rs new live p (λ _. tree.Leaf v)

pub given_value : (t : Tables) (rs new : List Record) (live : ℕ) (p : Place) (v : Scalar Place) (a : on.Access) (rest : List Rule) → Fits t rs live → Knows t (objects_of rs) (path_in (forms_in rs) p) → IsScalarAt t (objects_of rs) (path_in (forms_in rs) p)
    → on.order a ≡ rule.Dangling ∷ rule.PastEnd ∷ rule.OutsideWrite ∷ rest → on.broken t (objects_of rs) (path_in (forms_in rs) p) a ≡ None → Written rs new p (content.Value v) → Given t rs new live p (seen (path_in (forms_in rs)) v)
given_value t rs new live p v a rest f n s o b w =
    let m = numbered t rs live p f n in
    let e : p.end ≡ end.At = not_past t rs p a (rule.OutsideWrite ∷ rest) m.rec m.is_rec o b in
    let k = standing t rs live p f n in
    let y = typed t rs live p k.form k.there k.dead f n e k.stands in
    record { form = k.form; typed = y; gives = value_put t rs new live p v k.form k.there k.dead k.stands y s e w f }

-- what a call says of the objects

pub changed_err : (b : Option Rule) (r : Rule) (os old : Objects) → b ≡ Some r → Changed (steps.unless b os) old old (Err r)
changed_err b r os old e = subst (λ o. Changed (steps.unless o os) old old (Err r)) (sym e) (refl, refl)

pub changed_ok : (b : Option Rule) (os old new : Objects) → b ≡ None → new ≡ os → Changed (steps.unless b os) old new (Ok tt)
changed_ok b os old new e h = subst (λ o. Changed (steps.unless o os) old new (Ok tt)) (sym e) (refl, h)

pub init_fits : (t : Tables) (rs new : List Record) (live : ℕ) (p : Place) (v : Scalar Path) → Fits t rs live → Knows t (objects_of rs) (path_in (forms_in rs) p) → IsScalarAt t (objects_of rs) (path_in (forms_in rs) p)
    → MayTake t (objects_of rs) (path_in (forms_in rs) p) v → (g : Form) → Typed t rs p g → on.broken t (objects_of rs) (path_in (forms_in rs) p) on.Init ≡ None → objects_of new ≡ put (λ _. tree.Leaf v) (objects_of rs) (path_in (forms_in rs) p) → Fit t (objects_of new)
init_fits t rs new live p v f n s m g y b e =
    let q = path_in (forms_in rs) p in
    let os = objects_of rs in
    let ok : steps.init t os q v ≡ Ok (put (λ _. tree.Leaf v) os q) = ap (λ o. steps.unless o (put (λ _. tree.Leaf v) os q)) b in
    subst (Fit t) (sym e) (Fit-init t os (put (λ _. tree.Leaf v) os q) q y.row v f.fit y.is_row (scalar_holds y.row.kind (of_row (λ r. HoldsValue r.kind) (row_of t os q) y.row s y.is_row)) (of_row (λ r. MayHold t os r.kind v) (row_of t os q) y.row m y.is_row) ok)

pub store_fits : (t : Tables) (rs new : List Record) (live : ℕ) (p : Place) (v : Scalar Path) → Fits t rs live → Knows t (objects_of rs) (path_in (forms_in rs) p) → IsScalarAt t (objects_of rs) (path_in (forms_in rs) p)
    → MayTake t (objects_of rs) (path_in (forms_in rs) p) v → (g : Form) → Typed t rs p g → on.broken t (objects_of rs) (path_in (forms_in rs) p) on.Store ≡ None → objects_of new ≡ put (λ _. tree.Leaf v) (objects_of rs) (path_in (forms_in rs) p) → Fit t (objects_of new)
store_fits t rs new live p v f n s m g y b e =
    let q = path_in (forms_in rs) p in
    let os = objects_of rs in
    let ok : steps.store t os q v ≡ Ok (put (λ _. tree.Leaf v) os q) = ap (λ o. steps.unless o (put (λ _. tree.Leaf v) os q)) b in
    subst (Fit t) (sym e) (Fit-store t os (put (λ _. tree.Leaf v) os q) q y.row v f.fit y.is_row (scalar_holds y.row.kind (of_row (λ r. HoldsValue r.kind) (row_of t os q) y.row s y.is_row)) (of_row (λ r. MayHold t os r.kind v) (row_of t os q) y.row m y.is_row) ok)
