-- New records.
use Rattle.std.proofs.Common.{◌≡◌, ℕ, zero, suc, ◌+◌, ◌<◌, Bool, true, false, ◌&&◌, ◌||◌, not, List, [], ◌∷◌, ◌++◌, length, map, sum, Option, None, Some, Ok, Err, inl, inr, if◌then◌else◌, refl, sym, ap, subst, ◌∙◌, slice_get, replicate, arith}
use Rattle.std.specs.Prelude.{option_map, option_and_then, unwrap_or, is_some}
use Rattle.cx_type_defs.specs.declared.ids.TypeId.{TypeId}
use Rattle.cx_type_defs.specs.Tables.{Tables}
use Rattle.cx_type_defs.specs.Questions as ask
use Rattle.cx_type_defs.specs.Questions.{asked, looked, most_levels, is_complete}
use Rattle.cx_state.proofs.Complete.{complete-cells, complete-tree, is_some-true}
use Rattle.cx_state.proofs.Making.{new-of, Fit-make}
use Rattle.cx_records.proofs.Placed.{get_within, get_map, length_map, get_at}
use Rattle.cx_shapes.specs.Forms.{Form, Row}
use Rattle.cx_shapes.specs.Contents.{fresh}
use Rattle.cx_shapes.specs.Kinds.{IsTold, OfRow, IsForm}
use Rattle.cx_state.specs.declared.kind.Phase.TheVariants as phase
use Rattle.cx_records.specs.declared.record.Content.{Content}
use Rattle.cx_records.specs.declared.record.Content.TheVariants as content
use Rattle.std.specs.List.{find}
use Rattle.cx_base.specs.declared.rule.Rule.{Rule}
use Rattle.cx_base.specs.declared.limits.Limits.{Limits}
use Rattle.cx_type_defs.proofs.Lists.{slice_get-more, slice_get-last, slice_get-push, option_and_then-some}
use Rattle.cx_types.proofs.Totals.{sum-push}
use Rattle.cx_type_defs.specs.declared.ids.Step.{Step}
use Rattle.cx_type_defs.specs.declared.kind.TypeRow.{TypeRow}
use Rattle.cx_state.specs.declared.kind.Birth.{Birth}
use Rattle.cx_state.specs.declared.kind.Birth.TheVariants as birth
use Rattle.cx_state.specs.declared.kind.Scalar.{Scalar}
use Rattle.cx_state.specs.declared.kind.Scalar.TheVariants as scalar
use Rattle.cx_state.specs.Objects as tree
use Rattle.cx_state.specs.Objects.{Path, Tree, Object, Objects, below, at, copies}
use Rattle.cx_state.specs.Places.{row_below, root_row, row_of, whole_kind, spot, spot_row}
use Rattle.cx_state.specs.Conditions as on
use Rattle.cx_state.specs.Steps as steps
use Rattle.cx_state.specs.Steps.{new_in, new_tree}
use Rattle.cx_state.specs.Counts as counts
use Rattle.cx_state.specs.Counts.{new_object, whole_tree, cells_in, live_cells, passes_limit, limit_order, next_place}
use Rattle.cx_state.specs.Forms.{Knows, KnowsIn, Fit}
use Rattle.cx_state.proofs.Spots.{row_of-plain}
use Rattle.cx_state.proofs.Known.{held-knows}
use Rattle.cx_store.specs.Stores.{seen}
use Rattle.cx_shapes.specs.Forms.{Leaf, steps_at, below_of}
use Rattle.cx_shapes.specs.Contents.{tree_of, opens}
use Rattle.cx_shapes.proofs.Typing.{below_has}
use Rattle.cx_shapes.proofs.Walking.{below_tree}
use Rattle.cx_shapes.proofs.Parting.{tree_same}
use Rattle.cx_shapes.proofs.Fresh.{all_fresh, new_tree_is, new_row_is}
use Rattle.cx_shapes.proofs.Seeing.{tree_alike}
use Rattle.cx_records.specs.declared.place.Place.{Place}
use Rattle.cx_records.specs.declared.place.End.TheVariants as end
use Rattle.cx_records.specs.declared.record.Contents.{Contents}
use Rattle.cx_records.specs.declared.record.Contents.TheVariants as contents
use Rattle.cx_records.specs.declared.record.Record.{Record}
use Rattle.cx_records.specs.Records.{steps_of, is_past, nowhere, path_in, cell_of, cells_of, record_form, forms_in, object_in, objects_of}
use Rattle.cx_records.specs.Fits.{Fits, RecordFits, live_in}
use Rattle.cx_records.specs.Makes.{WholeForm, IsNew, limit_broken}
use Rattle.cx_records.proofs.Rules.{path_is}
use Rattle.cx_records.proofs.Writing.{refit}
use Rattle.cx_records.proofs.Wholes.{live_cells_are}
use Rattle.cx_records.proofs.Deeper.{part_known}

-- a complete type's cells are told
pub complete_told : (t : Tables) (ty : TypeId) → is_complete t ty ≡ true → IsTold t 512 (ask.OfType ty)
unfolding asked most_levels
complete_told t ty e = let n = complete-cells t ty e in ap is_some n.1

pub all_alike : (n : ℕ) (c : Content) (fs : List Form) (k : ℕ) → cell_of fs c ≡ fresh phase.Unborn → unwrap_or (option_map (cell_of fs) (slice_get (replicate n c) k)) (fresh phase.Unborn) ≡ fresh phase.Unborn
all_alike zero c fs k e = refl
all_alike (suc n) c fs zero e = e
all_alike (suc n) c fs (suc k) e = all_alike n c fs k e

pub complete_known : (t : Tables) (ty : TypeId) → is_complete t ty ≡ true → ty.0 < length t.rows
complete_known t ty e = let w = new-of t phase.Unborn ty e in get_within t.rows ty.0 w.row w.is_row

-- the limits

pub limit_is : (t : Tables) (limits : Limits) (rs : List Record) (live : ℕ) (q : counts.Request) (counted : Bool) (cells : ℕ) → Fits t rs live → counted ≡ counts.counts q.kind q.birth → cells ≡ cells_in t (new_object t q)
    → limit_broken limits (length rs) live counted cells ≡ find (passes_limit t limits (objects_of rs) (new_object t q)) limit_order
limit_is t limits rs live q counted cells f e h =
    ap (λ n. limit_broken limits n live counted cells) (sym (length_map (object_in (forms_in rs)) rs))
    ∙ ap (λ n. limit_broken limits (length (objects_of rs)) n counted cells) (live_cells_are t rs live f)
    ∙ ap (λ b. limit_broken limits (length (objects_of rs)) (live_cells t (objects_of rs)) b cells) e
    ∙ ap (limit_broken limits (length (objects_of rs)) (live_cells t (objects_of rs)) (counts.counts q.kind q.birth)) h

pub make_err : (t : Tables) (limits : Limits) (os : Objects) (q : counts.Request) (r : Rule) → find (passes_limit t limits os (new_object t q)) limit_order ≡ Some r → counts.make t limits os q ≡ Err r
make_err t limits os q r e = ap (λ o. steps.unless o (os ++ new_object t q ∷ [])) e

pub make_ok : (t : Tables) (limits : Limits) (os : Objects) (q : counts.Request) → find (passes_limit t limits os (new_object t q)) limit_order ≡ None → counts.make t limits os q ≡ Ok (os ++ new_object t q ∷ [])
make_ok t limits os q e = ap (λ o. steps.unless o (os ++ new_object t q ∷ [])) e

-- a new record is a new object

pub new_parts : (t : Tables) (ty : TypeId) (count : Option ℕ) (f : Form) → WholeForm t ty count f → is_complete t ty ≡ true → tree_of f (all_fresh phase.Unborn) 0 ≡ whole_tree count (new_tree t phase.Unborn ty)
unfolding asked
new_parts t ty None f w c = sym (new_tree_is t phase.Unborn f ty most_levels (new_tree t phase.Unborn ty) w (complete-tree t phase.Unborn ty c) 0)
new_parts t ty (Some n) (Row m f) w c = ap (λ k. tree_of (Row k f) (all_fresh phase.Unborn) 0) w.0 ∙ sym (new_row_is t phase.Unborn f ty n most_levels (new_tree t phase.Unborn ty) w.1 (complete-tree t phase.Unborn ty c) 0)
new_parts t ty (Some n) f w c = absurd (first_of (assumption, cc))

pub whole_type : (t : Tables) (ty : TypeId) (count : Option ℕ) (f : Form) (r : TypeRow) → WholeForm t ty count f → slice_get t.rows ty.0 ≡ Some r → IsForm t f (whole_kind count ty r.kind)
whole_type t ty None f r w e = subst (OfRow (IsForm t f)) e w
whole_type t ty (Some n) (Row m f) r w e = (sym w.0, w.1)
whole_type t ty (Some n) f r w e = absurd (first_of (assumption, cc))

pub new_is : (t : Tables) (gs : List Form) (q : counts.Request) (r : Record) → IsNew t q r → is_complete t q.ty ≡ true → object_in gs r ≡ new_object t q
new_is t gs q r n c =
    let h = n.contents in
    let tr : tree_of (record_form r) (cells_of gs r.contents) 0 ≡ whole_tree q.count (new_tree t phase.Unborn q.ty) =
    tree_same (record_form r) (cells_of gs r.contents) (all_fresh phase.Unborn) 0 (record { same = λ k a b. h.cells gs k }) ∙ new_parts t q.ty q.count (record_form r) n.form c in
    ap (λ x. record (object_in gs r) { ty = x }) n.same_ty
    ∙ ap (λ x. record (object_in gs r) { ty = q.ty; count = x }) n.same_count
    ∙ ap (λ x. record (object_in gs r) { ty = q.ty; count = q.count; kind = x }) n.same_kind
    ∙ ap (λ x. record (object_in gs r) { ty = q.ty; count = q.count; kind = q.kind; konst = x }) n.same_konst
    ∙ ap (λ x. record (object_in gs r) { ty = q.ty; count = q.count; kind = q.kind; konst = q.konst; birth = x }) n.same_birth
    ∙ ap (λ x. record (object_in gs r) { ty = q.ty; count = q.count; kind = q.kind; konst = q.konst; birth = q.birth; released = x }) n.living
    ∙ ap (λ x. record (object_in gs r) { ty = q.ty; count = q.count; kind = q.kind; konst = q.konst; birth = q.birth; released = false; counted = x }) n.counted
    ∙ ap (λ x. record { ty = q.ty; count = q.count; kind = q.kind; konst = q.konst; birth = q.birth; released = false; counted = counts.counts q.kind q.birth; tree = x }) tr

pub here_each : (b : Birth) (c : Bool) → (on.is_here b && c) ≡ true → on.is_opaque b ≡ false
here_each birth.Here c e = refl
here_each birth.Usable c e = refl
here_each birth.Opaque c e = absurd (cc)

pub new_fits : (t : Tables) (gs : List Form) (q : counts.Request) (r : Record) → IsNew t q r → is_complete t q.ty ≡ true → RecordFits t (object_in gs r) r
new_fits t gs q r n c =
    let w = new-of t phase.Unborn q.ty c in
    let same = new_is t gs q r n c in
    let h = n.contents in
    record {
      row = record { kind = whole_kind q.count q.ty w.row.kind; konst = q.konst || w.row.konst };
      is_row = ap (root_row t) same ∙ ap (option_map (λ (x : TypeRow). record { kind = whole_kind q.count q.ty x.kind; konst = q.konst || x.konst })) w.is_row;
      form = whole_type t q.ty q.count (record_form r) w.row n.form w.is_row;
      small = n.small;
      full = h.full (record_form r) refl;
      held = λ m. h.each (here_each r.birth (not r.released) m);
      cells = ap (cells_in t) same ∙ sym n.cells;
    }

-- one more record leaves the others

pub forms_push : (rs : List Record) (r : Record) → forms_in (rs ++ r ∷ []) ≡ forms_in rs ++ record_form r ∷ []
forms_push [] r = refl
forms_push (x ∷ rs) r = ap (λ l. record_form x ∷ l) (forms_push rs r)

pub path_stays : (fs : List Form) (f : Form) (p : Place) → p.object < length fs → path_in (fs ++ f ∷ []) p ≡ path_in fs p
path_stays fs f p l =
    let x = get_at fs p.object l in
    ap (λ (o : Option Form). record { object = p.object; steps = unwrap_or (option_and_then (steps_of p) o) nowhere; past = is_past p.end }) (slice_get-more fs (f ∷ []) p.object x.0 x.1 ∙ sym x.1)

-- contents seen by other forms, where the places that they hold have the same paths
pub content_phase : (fs gs : List Form) (o : Option Content) → (unwrap_or (option_map (cell_of fs) o) (fresh phase.Unborn)).phase ≡ (unwrap_or (option_map (cell_of gs) o) (fresh phase.Unborn)).phase
content_phase fs gs None = refl
content_phase fs gs (Some (content.Value v)) = refl
content_phase fs gs (Some (content.Phase p)) = refl
content_phase fs gs (Some (content.Member m)) = refl

pub content_member : (fs gs : List Form) (o : Option Content) → (unwrap_or (option_map (cell_of fs) o) (fresh phase.Unborn)).member ≡ (unwrap_or (option_map (cell_of gs) o) (fresh phase.Unborn)).member
content_member fs gs None = refl
content_member fs gs (Some (content.Value v)) = refl
content_member fs gs (Some (content.Phase p)) = refl
content_member fs gs (Some (content.Member m)) = refl

pub seen_same : (fs gs : List Form) (v : Scalar Place) → ((p : Place) → seen (path_in fs) v ≡ scalar.Place (path_in fs p) → path_in fs p ≡ path_in gs p) → seen (path_in fs) v ≡ seen (path_in gs) v
seen_same fs gs (scalar.Int i) h = refl
seen_same fs gs scalar.Null h = refl
seen_same fs gs (scalar.Place p) h = ap scalar.Place (h p refl)
seen_same fs gs scalar.Indeterminate h = refl

pub content_value : (fs gs : List Form) (o : Option Content) → ((p : Place) → (unwrap_or (option_map (cell_of fs) o) (fresh phase.Unborn)).value ≡ scalar.Place (path_in fs p) → path_in fs p ≡ path_in gs p)
    → (unwrap_or (option_map (cell_of fs) o) (fresh phase.Unborn)).value ≡ (unwrap_or (option_map (cell_of gs) o) (fresh phase.Unborn)).value
content_value fs gs None h = refl
content_value fs gs (Some (content.Value v)) h = seen_same fs gs v h
content_value fs gs (Some (content.Phase p)) h = refl
content_value fs gs (Some (content.Member m)) h = refl

pub cells_phase : (fs gs : List Form) (c : Contents) (k : ℕ) → (cells_of fs c k).phase ≡ (cells_of gs c k).phase
cells_phase fs gs (contents.Same p) k = refl
cells_phase fs gs (contents.Each items) k = content_phase fs gs (slice_get items.items k)

pub cells_member : (fs gs : List Form) (c : Contents) (k : ℕ) → (cells_of fs c k).member ≡ (cells_of gs c k).member
cells_member fs gs (contents.Same p) k = refl
cells_member fs gs (contents.Each items) k = content_member fs gs (slice_get items.items k)

pub cells_value : (fs gs : List Form) (c : Contents) (k : ℕ) → ((p : Place) → (cells_of fs c k).value ≡ scalar.Place (path_in fs p) → path_in fs p ≡ path_in gs p) → (cells_of fs c k).value ≡ (cells_of gs c k).value
cells_value fs gs (contents.Same p) k h = refl
cells_value fs gs (contents.Each items) k h = content_value fs gs (slice_get items.items k) h

-- what a known object holds is known
pub held_known : (t : Tables) (rs : List Record) (live : ℕ) (n : ℕ) (r : Record) → Fits t rs live → slice_get rs n ≡ Some r → (ss : List Step) (j : ℕ) → below_of (record_form r) ss ≡ Some (j, Leaf) → opens (record_form r) (cells_of (forms_in rs) r.contents) 0 ss ≡ true
    → KnowsIn t (objects_of rs) (cells_of (forms_in rs) r.contents j).value
held_known t rs live n r f e ss j b o =
    let k = f.kept n r e in
    let os = objects_of rs in
    let here : slice_get os n ≡ Some (object_in (forms_in rs) r) = get_map (object_in (forms_in rs)) rs n ∙ ap (option_map (object_in (forms_in rs))) e in
    let q = below_has t (record_form r) k.row k.form ss (j, Leaf) b in
    let x : row_of t os (record { object = n; steps = ss; past = false }) ≡ Some q.0 =
    row_of-plain t os n ss ∙ ap (option_and_then (λ (r : TypeRow). row_below t r ss)) (ap (option_and_then (root_row t)) here ∙ k.is_row) ∙ q.1 in
    let z : 0 + j ≡ j = omega arith in
    let y : at os (record { object = n; steps = ss; past = false }) ≡ Some (tree.Leaf (cells_of (forms_in rs) r.contents j).value) =
    ap (option_and_then (λ (o : Object). below o.tree ss)) here ∙ below_tree (record_form r) (cells_of (forms_in rs) r.contents) 0 ss (j, Leaf) b
    ∙ ap (λ c. if c then Some (tree.Leaf (cells_of (forms_in rs) r.contents (0 + j)).value) else None) o ∙ ap (λ k. Some (tree.Leaf (cells_of (forms_in rs) r.contents k).value)) z in
    held-knows t os (record { object = n; steps = ss; past = false }) (cells_of (forms_in rs) r.contents j).value f.fit (ap is_some x) refl y

pub object_stays : (fs gs : List Form) (r : Record) → ((ss : List Step) (j : ℕ) → below_of (record_form r) ss ≡ Some (j, Leaf) → opens (record_form r) (cells_of fs r.contents) 0 ss ≡ true → (p : Place) → (cells_of fs r.contents j).value ≡ scalar.Place (path_in fs p) → path_in fs p ≡ path_in gs p)
    → object_in fs r ≡ object_in gs r
object_stays fs gs r h = ap (λ x. record (object_in fs r) { tree = x }) (tree_alike (record_form r) (cells_of fs r.contents) (cells_of gs r.contents) 0 (record {
  phases = cells_phase fs gs r.contents;
  members = cells_member fs gs r.contents;
  values = λ ss j b o. let z : 0 + j ≡ j = omega arith in ap (λ k. (cells_of fs r.contents k).value) z ∙ cells_value fs gs r.contents j (h ss j b o) ∙ ap (λ k. (cells_of gs r.contents k).value) (sym z);
}))

pub knows_within : (t : Tables) (os : Objects) (p : Path) → Knows t os p → p.object < length os
knows_within t os p k =
    let x = is_some-true (row_of t os p) k in
    let y = option_and_then-some (λ (o : Object). option_and_then (spot_row t p.past (spot p)) (root_row t o)) (slice_get os p.object) x.0 x.1 in
    get_within os p.object y.0 y.1

pub map_stays : (f g : Record → Object) (rs : List Record) → ((n : ℕ) (r : Record) → slice_get rs n ≡ Some r → f r ≡ g r) → map f rs ≡ map g rs
map_stays f g [] h = refl
map_stays f g (r ∷ rs) h = ap (λ x. x ∷ map f rs) (h 0 r refl) ∙ ap (λ l. g r ∷ l) (map_stays f g rs (λ n x e. h (suc n) x e))

pub map_push : {A B : Type 0} (f : A → B) (xs : List A) (x : A) → map f (xs ++ x ∷ []) ≡ map f xs ++ f x ∷ []
map_push f [] x = refl
map_push f (y ∷ ys) x = ap (λ l. f y ∷ l) (map_push f ys x)

pub objects_push : (t : Tables) (rs : List Record) (live : ℕ) (q : counts.Request) (r : Record) → Fits t rs live → IsNew t q r → is_complete t q.ty ≡ true → objects_of (rs ++ r ∷ []) ≡ objects_of rs ++ new_object t q ∷ []
objects_push t rs live q r f n c =
    let fs = forms_in rs in
    let gs = fs ++ record_form r ∷ [] in
    let stays : (m : ℕ) (x : Record) → slice_get rs m ≡ Some x → object_in gs x ≡ object_in fs x = λ m x e. sym (object_stays fs gs x (λ ss j b o p v.
    let kn : Knows t (objects_of rs) (path_in fs p) = subst (KnowsIn t (objects_of rs)) v (held_known t rs live m x f e ss j b o) in
    let l = knows_within t (objects_of rs) (path_in fs p) kn in
    let len : length (objects_of rs) ≡ length fs = length_map (object_in fs) rs ∙ sym (length_map record_form rs) in
    sym (path_stays fs (record_form r) p (subst (λ n. p.object < n) len l)))) in
    ap (λ z. map (object_in z) (rs ++ r ∷ [])) (forms_push rs r)
    ∙ map_push (object_in gs) rs r
    ∙ ap (λ l. l ++ object_in gs r ∷ []) (map_stays (object_in gs) (object_in fs) rs stays)
    ∙ ap (λ x. objects_of rs ++ x ∷ []) (new_is t gs q r n c)

pub paths_push : (rs : List Record) (r : Record) (p : Place) → p.object < length (objects_of rs) → path_in (forms_in (rs ++ r ∷ [])) p ≡ path_in (forms_in rs) p
paths_push rs r p l =
    let len : length (objects_of rs) ≡ length (forms_in rs) = length_map (object_in (forms_in rs)) rs ∙ sym (length_map record_form rs) in
    ap (λ z. path_in z p) (forms_push rs r) ∙ path_stays (forms_in rs) (record_form r) p (subst (λ n. p.object < n) len l)

pub fits_push : (t : Tables) (limits : Limits) (rs : List Record) (live after : ℕ) (q : counts.Request) (r : Record) → Fits t rs live → IsNew t q r → is_complete t q.ty ≡ true → counts.make t limits (objects_of rs) q ≡ Ok (objects_of rs ++ new_object t q ∷ [])
    → after ≡ live + live_in r → Fits t (rs ++ r ∷ []) after
fits_push t limits rs live after q r f n c ok e = record {
  fit = subst (Fit t) (sym (objects_push t rs live q r f n c)) (Fit-make t limits (objects_of rs) (objects_of rs ++ new_object t q ∷ []) q f.fit c ok);
  kept = λ m x g. elim (slice_get-push rs r m x g) as (λ _. RecordFits t (object_in (forms_in (rs ++ r ∷ [])) x) x) [
    | inl h ↦ refit t (forms_in rs) (forms_in (rs ++ r ∷ [])) x (f.kept m x h)
    | inr h ↦ subst (λ y. RecordFits t (object_in (forms_in (rs ++ r ∷ [])) y) y) (sym h.1) (new_fits t (forms_in (rs ++ r ∷ [])) q r n c)
  ];
  count = e ∙ ap (λ k. k + live_in r) f.count ∙ sym (ap sum (map_push live_in rs r) ∙ sum-push (map live_in rs) (live_in r));
}

pub next_path : (rs : List Record) (r : Record) (p : Place) → p.object ≡ length rs → p.part ≡ 0 → p.end ≡ end.At → path_in (forms_in (rs ++ r ∷ [])) p ≡ next_place (objects_of rs)
next_path rs r p o z e =
    path_is (rs ++ r ∷ []) p r [] (ap (slice_get (rs ++ r ∷ [])) o ∙ slice_get-last rs r) e (ap (steps_at (record_form r)) z)
    ∙ ap (λ n. record { object = n; steps = []; past = false }) (o ∙ sym (length_map (object_in (forms_in rs)) rs))

pub next_known : (t : Tables) (rs : List Record) (after : ℕ) (r : Record) (p : Place) → Fits t (rs ++ r ∷ []) after → p.object ≡ length rs → p.part ≡ 0 → p.end ≡ end.At → Knows t (objects_of (rs ++ r ∷ [])) (path_in (forms_in (rs ++ r ∷ [])) p)
next_known t rs after r p f o z e = part_known t (rs ++ r ∷ []) after p r [] f (ap (slice_get (rs ++ r ∷ [])) o ∙ slice_get-last rs r) e (ap (steps_at (record_form r)) z)

pub live_new : (t : Tables) (q : counts.Request) (r : Record) (counted : Bool) (cells : ℕ) → IsNew t q r → counted ≡ counts.counts q.kind q.birth → cells ≡ cells_in t (new_object t q) → live_in r ≡ (if counted then cells else 0)
live_new t q r counted cells n e h =
    ap (λ b. if b && not r.released then r.cells else 0) (n.counted ∙ sym e) ∙ ap (λ b. if counted && not b then r.cells else 0) n.living ∙ ap (λ k. if counted && true then k else 0) (n.cells ∙ sym h) ∙ go counted
  where
    go : (b : Bool) → (if b && true then cells else 0) ≡ (if b then cells else 0)
    go true = refl
    go false = refl
