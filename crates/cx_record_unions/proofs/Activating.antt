-- The objects after a member was made active.
use Rattle.std.proofs.Common.{◌≡◌, ℕ, ◌+◌, ◌^◌, ◌<◌, ◌≤◌, Bool, true, false, List, [], ◌∷◌, Option, None, Some, Ok, refl, sym, ap, subst, ◌∙◌, slice_get, slice_set, arith}
use Rattle.std.specs.Prelude.{is_some}
use Rattle.cx_base.specs.declared.rule.Rule.TheVariants as rule
use Rattle.cx_type_defs.proofs.Lists.{some_inj, option_and_then-some}
use Rattle.cx_type_defs.specs.declared.ids.Step.TheVariants as step
use Rattle.cx_type_defs.specs.declared.ids.ClassId.{ClassId}
use Rattle.cx_type_defs.specs.declared.kind.TypeRow.{TypeRow}
use Rattle.cx_type_defs.specs.declared.kind.TypeKind.{TypeKind}
use Rattle.cx_type_defs.specs.declared.kind.TypeKind.TheVariants as kind
use Rattle.cx_type_defs.specs.declared.decl.Field.{Field}
use Rattle.cx_type_defs.specs.Tables.{Tables, field_of}
use Rattle.cx_type_defs.specs.Questions.{asked, most_levels}
use Rattle.cx_state.specs.declared.kind.Phase.{Phase}
use Rattle.cx_state.specs.Objects.{Path, Tree, Object, Objects, changed, put}
use Rattle.cx_state.specs.Places.{kind_part, row_part, row_of}
use Rattle.cx_state.specs.Conditions as on
use Rattle.cx_state.specs.Pointers.{is_union_kind}
use Rattle.cx_state.specs.Steps as steps
use Rattle.cx_state.specs.Forms.{Knows, Fit}
use Rattle.cx_state.proofs.Complete.{complete-tree, is_some-true}
use Rattle.cx_state.proofs.PartsComplete.{member-complete}
use Rattle.cx_state.proofs.Paths.{changed_at-same, changed_at-still}
use Rattle.cx_state.proofs.Stepped.{member_tree-is, Fit-activate}
use Rattle.cx_store.specs.Stores.{IsOf, IsUnionAt, HasField}
use Rattle.cx_shapes.specs.Forms.{Form, Forms, Union, Part, part_of, size}
use Rattle.cx_shapes.specs.Contents.{tree_of}
use Rattle.cx_shapes.specs.Kinds.{IsForm, OfRow}
use Rattle.cx_shapes.proofs.Numbering.{part_fits, below_fits}
use Rattle.cx_shapes.proofs.Parting.{tree_changes}
use Rattle.cx_shapes.proofs.Fresh.{all_fresh, new_tree_is}
use Rattle.cx_shapes.proofs.Typing.{has_part}
use Rattle.cx_records.specs.declared.place.Place.{Place}
use Rattle.cx_records.specs.declared.place.End.TheVariants as end
use Rattle.cx_records.specs.declared.record.Record.{Record}
use Rattle.cx_records.specs.Records.{path_in, cells_of, record_form, forms_in, object_in, objects_of}
use Rattle.cx_records.specs.Fits.{Fits}
use Rattle.cx_records.specs.Checks.{cells_in, StandsAt}
use Rattle.cx_records.specs.Writes.{Rewritten}
use Rattle.cx_records.proofs.Rules.{the_object, path_is}
use Rattle.cx_records.proofs.Reading.{not_past, typed, of_row, union_form}
use Rattle.cx_records.proofs.Writing.{forms_set, rewrite, fits_rewritten, objects_put, room, Gives}
use Rattle.cx_record_unions.specs.declared.target.Target.{Target}
use Rattle.cx_record_unions.specs.Members.{IsTarget, HasRoomsAt, Renewed}
use Rattle.cx_record_unions.proofs.Members.{kept_is, renewed_is}
use Rattle.cx_record_unions.proofs.Renewing.{renewed_member, renewed_but, renewed_tree, all_rooms}

-- the member's type

pub record Member (t : Tables) (os : Objects) (q : Path) (m : ℕ) : Type 0 where
  pub row : TypeRow
  pub is_row : row_of t os q ≡ Some row
  pub class : ClassId
  pub is_class : row.kind ≡ kind.Class class
  pub field : Field
  pub is_field : field_of t class m ≡ Some field
  pub inner : TypeRow
  pub is_inner : slice_get t.rows field.ty.0 ≡ Some inner
  pub is_part : kind_part t row.konst row.kind (step.Field m) ≡ Some inner

of_some : (P : TypeRow → Type 0) (o : Option TypeRow) → IsOf P o → (r : TypeRow) × (o ≡ Some r) × P r
of_some P None h = absurd h
of_some P (Some r) h = (r, refl, h)

union_kind : (t : Tables) (k : TypeKind) → is_union_kind t k ≡ true → (c : ClassId) × (k ≡ kind.Class c)
union_kind t (kind.Class c) u = (c, refl)
union_kind t kind.Void u = absurd (cc)
union_kind t kind.Nullptr u = absurd (cc)
union_kind t (kind.Int _) u = absurd (cc)
union_kind t (kind.Enum _) u = absurd (cc)
union_kind t (kind.Pointer _) u = absurd (cc)
union_kind t (kind.Reference _) u = absurd (cc)
union_kind t (kind.Array _ _) u = absurd (cc)

pub the_member : (t : Tables) (os : Objects) (q : Path) (m : ℕ) → IsUnionAt t os q → HasField t os q m → Member t os q m
the_member t os q m u h =
    let r = of_some (λ r. is_union_kind t r.kind ≡ true) (row_of t os q) u in
    let c = union_kind t r.0.kind r.2 in
    let v = of_row (λ r. is_some (row_part t r (step.Field m)) ≡ true) (row_of t os q) r.0 h r.1 in
    let z = is_some-true (row_part t r.0 (step.Field m)) v in
    let w = option_and_then-some (λ (f : Field). slice_get t.rows f.ty.0) (field_of t c.0 m) z.0 (ap (λ n. kind_part t r.0.konst n (step.Field m)) (sym c.1) ∙ z.1) in
    record { row = r.0; is_row = r.1; class = c.0; is_class = c.1; field = w.0; is_field = w.1; inner = z.0; is_inner = w.2; is_part = z.1 }

-- a new member is as its type begins
pub new_member : (t : Tables) (os : Objects) (q : Path) (m : ℕ) (p : Phase) (w : Member t os q m) (g : Form) (found : Part) → Fit t os → IsForm t g w.row.kind → part_of g (step.Field m) ≡ Some found → (b : ℕ)
    → steps.member_tree t p m (row_of t os q) ≡ tree_of found.1 (all_fresh p) b
unfolding asked
new_member t os q m p w g found fit form e b =
    let x = has_part t g w.row.konst w.row.kind form (step.Field m) w.inner w.is_part in
    let of : IsForm t found.1 w.inner.kind = subst (λ (r : Part). IsForm t r.1 w.inner.kind) (some_inj x.0 found (sym x.1 ∙ e)) x.2 in
    let full = complete-tree t p w.field.ty (member-complete t os q w.row w.class m w.field fit w.is_row w.is_class w.is_field) in
    sym (member_tree-is t p m (row_of t os q) w.row w.class w.field (steps.new_tree t p w.field.ty) w.is_row w.is_class w.is_field full)
    ∙ new_tree_is t p found.1 w.field.ty most_levels (steps.new_tree t p w.field.ty) (subst (OfRow (IsForm t found.1)) (sym w.is_inner) of) full b

-- where it lies

pub record Lies (rs : List Record) (p : Place) (x : Target) (r : Record) (g : Form) : Type 0 where
  pub behind : p.part < x.from
  pub order : x.from ≤ x.to
  pub inside : x.to ≤ p.part + size g
  pub within : x.to ≤ size (record_form r)

pub target_lies : (rs : List Record) (p : Place) (m : ℕ) (x : Target) (i : IsTarget rs p m x) → Lies rs p x i.stands.rec i.form
target_lies rs p m x i =
    let s = i.stands in
    let w = part_fits i.form (step.Field m) i.found i.is_part in
    let behind : 1 ≤ i.found.0 = w.behind in
    let inside : i.found.0 + size i.found.1 ≤ size i.form = w.within in
    let k = s.walked in
    let all : p.part + size i.form ≤ size (record_form s.rec) = below_fits (record_form s.rec) k.steps (p.part, i.form) k.leads in
    let from : x.from ≡ p.part + i.found.0 = i.is_from in
    let to : x.to ≡ p.part + i.found.0 + size i.found.1 = i.is_to in
    record { behind = omega arith; order = omega arith; inside = omega arith; within = omega arith }

pub target_rooms : (t : Tables) (rs : List Record) (live : ℕ) (p : Place) (m : ℕ) (x : Target) → IsTarget rs p m x → Fits t rs live → Knows t (objects_of rs) (path_in (forms_in rs) p) → on.broken t (objects_of rs) (path_in (forms_in rs) p) on.Activate ≡ None → HasRoomsAt rs p x.to
target_rooms t rs live p m x i f k b =
    let one = room t rs live p on.Activate (rule.InactiveMember ∷ []) f k refl b in
    let l = target_lies rs p m x i in
    let same : i.stands.rec ≡ one.rec = some_inj i.stands.rec one.rec (sym i.stands.is_rec ∙ one.is_rec) in
    let within : x.to ≤ size (record_form one.rec) = subst (λ (r : Record). x.to ≤ size (record_form r)) same l.within in
    record { rec = one.rec; is_rec = one.is_rec; rooms = all_rooms (record_form one.rec) one.rec.contents p.part x.to one.room (f.kept p.object one.rec one.is_rec).full within }

pub piece_fits : (t : Tables) (rs : List Record) (live : ℕ) (p : Place) (m : ℕ) (g : Form) (there dead : Bool) → Fits t rs live → StandsAt rs p g there dead → (q : Part) → part_of g (step.Field m) ≡ Some q → p.part + q.0 + size q.1 < 2 ^ 62
piece_fits t rs live p m g there dead f s q e =
    let w = part_fits g (step.Field m) q e in
    let inside : q.0 + size q.1 ≤ size g = w.within in
    let k = s.walked in
    let all : p.part + size g ≤ size (record_form s.rec) = below_fits (record_form s.rec) k.steps (p.part, g) k.leads in
    let small = (f.kept p.object s.rec s.is_rec).small in
    let few : size (record_form s.rec) < 2 ^ 62 = small.few_parts in
    omega arith

-- a union at a place

module _ (t : Tables) (rs : List Record) (live : ℕ) (p : Place) (m : ℕ) (x : Target) (i : IsTarget rs p m x) (f : Fits t rs live) (k : Knows t (objects_of rs) (path_in (forms_in rs) p))
    (u : IsUnionAt t (objects_of rs) (path_in (forms_in rs) p)) (h : HasField t (objects_of rs) (path_in (forms_in rs) p) m) (b : on.broken t (objects_of rs) (path_in (forms_in rs) p) on.Activate ≡ None) where
  abbrev os : Objects
  os = objects_of rs

  abbrev q : Path
  q = path_in (forms_in rs) p

  abbrev st : StandsAt rs p i.form i.there i.dead
  st = i.stands

  abbrev new_tree : Phase → Tree
  new_tree ph = steps.member_tree t ph m (row_of t os q)

  pub here : p.end ≡ end.At
  here = not_past t rs p on.Activate (rule.OutsideWrite ∷ rule.InactiveMember ∷ []) st.rec st.is_rec refl b

  record Seen : Type 0 where
    pub of : Member t os q m
    pub typed : IsForm t i.form of.row.kind
    pub members : Forms
    pub is_union : i.form ≡ Union members

  seen : Seen
  seen =
      let y = typed t rs live p i.form i.there i.dead f k here st in
      let w = the_member t os q m u h in
      let n = union_form t i.form y.row.kind y.form (of_row (λ r. is_union_kind t r.kind ≡ true) (row_of t os q) y.row u y.is_row) in
      record { of = w; typed = subst (λ (r : TypeRow). IsForm t i.form r.kind) (some_inj y.row w.row (sym y.is_row ∙ w.is_row)) y.form; members = n.0; is_union = n.1 }

  pub new_is : (ph : Phase) (c : ℕ) → new_tree ph ≡ tree_of i.found.1 (all_fresh ph) c
  new_is ph c = let s = seen in new_member t os q m ph s.of i.form i.found f.fit s.typed i.is_part c

  -- the active member stays as it is
  pub kept_objects : (new : Tree) → x.stays ≡ true → put (steps.activated m new) os q ≡ os
  kept_objects new e =
      let s = seen in
      let w = st.walked in
      let g = record_form st.rec in
      let c = cells_in rs st.rec in
      let o = object_in (forms_in rs) st.rec in
      let z : 0 + p.part ≡ p.part = omega arith in
      let F = steps.activated m new in
      let same : F (tree_of i.form c p.part) ≡ tree_of i.form c p.part =
      subst (λ y. part_of y (step.Field m) ≡ Some i.found → F (tree_of y c p.part) ≡ tree_of y c p.part) (sym s.is_union) (λ a. kept_is s.members c p.part m i.found new a (sym i.is_kept ∙ e)) i.is_part in
      let tr : changed F (tree_of g c 0) w.steps ≡ tree_of g c 0 =
      tree_changes g c c 0 w.steps (p.part, i.form) F w.leads (subst (λ n. F (tree_of i.form c n) ≡ tree_of i.form c n) (sym z) same) (record { before = record { same = λ n a b. refl }; behind = record { same = λ n a b. refl } }) in
      ap (put F os) (path_is rs p st.rec w.steps st.is_rec here w.are_steps)
      ∙ changed_at-same (λ (y : Object). record y { tree = changed F y.tree w.steps }) (λ y. y) os p.object (λ y a.
      subst (λ (v : Object). record v { tree = changed F v.tree w.steps } ≡ v) (some_inj o y (sym (the_object rs p st.rec st.is_rec) ∙ a)) (ap (λ v. record o { tree = v }) tr))
      ∙ changed_at-still os p.object

  -- another is new
  pub given_member : (new : List Record) (ph : Phase) → x.stays ≡ false → Rewritten rs new p (Renewed p.part x.from x.to m ph) → Gives t rs new live p (steps.activated m (new_tree ph))
  given_member new ph e w =
      let s = seen in
      let l = target_lies rs p m x i in
      let same : w.rec ≡ st.rec = some_inj w.rec st.rec (sym w.is_rec ∙ st.is_rec) in
      let is : new ≡ slice_set rs p.object (rewrite st.rec w.now) = w.is_new ∙ ap (λ y. slice_set rs p.object (rewrite y w.now)) same in
      let n : Renewed p.part x.from x.to m ph st.rec.contents w.now = subst (λ (y : Record). Renewed p.part x.from x.to m ph y.contents w.now) same w.put in
      let fs = forms_in rs in
      let g = record_form st.rec in
      let c = cells_in rs st.rec in
      let d = cells_of fs w.now in
      let r = f.kept p.object st.rec st.is_rec in
      let but = renewed_but fs p.part x.from x.to m ph st.rec.contents w.now n l.behind (size g) (size i.form) l.order l.inside in
      let tr : steps.activated m (new_tree ph) (tree_of i.form c p.part) ≡ tree_of i.form d p.part =
      subst (λ y. part_of y (step.Field m) ≡ Some i.found → steps.activated m (new_tree ph) (tree_of y c p.part) ≡ tree_of y d p.part) (sym s.is_union) (λ a.
      renewed_is s.members c d p.part m i.found (new_tree ph) a (sym i.is_kept ∙ e) (renewed_member fs p.part x.from x.to m ph st.rec.contents w.now n l.behind)
      (new_is ph (p.part + i.found.0) ∙ renewed_tree fs p.part x.from x.to m ph st.rec.contents w.now n l.behind i.found.1 (p.part + i.found.0) i.is_from i.is_to)) i.is_part in
      record {
        objects = ap objects_of is ∙ objects_put rs p i.form i.there i.dead st w.now (steps.activated m (new_tree ph)) here but tr;
        forms = ap forms_in is ∙ forms_set rs p.object st.rec (rewrite st.rec w.now) st.is_rec refl;
        fits = λ y. subst (λ (z : List Record). Fits t z live) (sym is) (fits_rewritten t rs live p.object st.rec w.now f st.is_rec (n.put.full g (n.cleared.full g r.full)) n.put.each (subst (λ (z : List Record). Fit t (objects_of z)) is y));
      }

  pub activate_fits : (new : List Record) (alive : Bool) → objects_of new ≡ put (steps.activated m (new_tree (steps.begun alive))) os q → Fit t (objects_of new)
  activate_fits new alive e =
      let s = seen in
      let w = s.of in
      let after = put (steps.activated m (new_tree (steps.begun alive))) os q in
      let ok : steps.activate t os q m alive ≡ Ok after = ap (λ o. steps.unless o after) b in
      subst (Fit t) (sym e) (Fit-activate t os after q m alive w.row w.class w.field f.fit w.is_row w.is_class w.is_field ok)
