-- The elements of an array, and the place past the last one.
use Rattle.std.proofs.Common.{◌≡◌, ℕ, zero, suc, ◌+◌, ◌-◌, ◌*◌, ◌<◌, ◌≤◌, ◌==◌, Bool, true, false, List, [], ◌∷◌, ◌++◌, Option, None, Some, Ok, refl, sym, ap, ◌∙◌, slice_get, arith, eq-eqb, ne_eqb, if◌then◌else◌}
use Rattle.std.proofs.lemmas.Bool.{lt-ltb}
use Rattle.std.specs.Prelude.{option_map, option_and_then, unwrap_or}
use Rattle.cx_type_defs.proofs.Lists.{option_map-some}
use Rattle.cx_type_defs.specs.declared.ids.Step.{Step}
use Rattle.cx_type_defs.specs.declared.ids.Step.TheVariants as step
use Rattle.cx_type_defs.specs.declared.ids.TypeId.{TypeId}
use Rattle.cx_type_defs.specs.declared.kind.TypeRow.{TypeRow}
use Rattle.cx_type_defs.specs.declared.kind.TypeKind.{TypeKind}
use Rattle.cx_type_defs.specs.declared.kind.TypeKind.TheVariants as kind
use Rattle.cx_type_defs.specs.Tables.{Tables}
use Rattle.cx_state.specs.Places.{elements, row_of}
use Rattle.cx_state.specs.Conditions as on
use Rattle.cx_state.specs.Steps as steps
use Rattle.cx_state.specs.Forms.{Knows}
use Rattle.cx_state.proofs.Known.{to_elem-knows}
use Rattle.cx_store.specs.Stores.{IsUpTo, HasElem}
use Rattle.cx_shapes.specs.Forms.{Form, Leaf, Row, Class, Union, Part, Way, way, Leads, further, size, part_of, steps_at, below_of}
use Rattle.cx_shapes.specs.Kinds.{IsForm, OfRow}
use Rattle.cx_shapes.proofs.Numbering.{way_leads, steps_way}
use Rattle.cx_shapes.proofs.Typing.{row_known}
use Rattle.cx_records.specs.declared.place.Place.{Place}
use Rattle.cx_records.specs.declared.place.End.{End}
use Rattle.cx_records.specs.declared.place.End.TheVariants as end
use Rattle.cx_records.specs.declared.record.Record.{Record}
use Rattle.cx_records.specs.Records.{steps_of, marked, end_steps, nowhere, path_in, record_form, forms_in, objects_of}
use Rattle.cx_records.specs.Fits.{Fits}
use Rattle.cx_records.specs.Checks.{StandsAt}
use Rattle.cx_records.specs.Parts.{IsPartAt, row_count}
use Rattle.cx_records.proofs.Placed.{get_map, get_within}
use Rattle.cx_records.proofs.Rules.{path_is}
use Rattle.cx_records.proofs.Reading.{not_past, typed, of_row}

-- an array whose elements go up to that index
pub record Elements (t : Tables) (rs : List Record) (p : Place) (g : Form) (i : ℕ) : Type 0 where
  pub is_at : p.end ≡ end.At
  pub row : TypeRow
  pub is_row : row_of t (objects_of rs) (path_in (forms_in rs) p) ≡ Some row
  pub of : TypeId
  pub count : ℕ
  pub inner : Form
  pub is_kind : row.kind ≡ kind.Array of count
  pub is_form : g ≡ Row count inner
  pub up_to : i ≤ count
  pub element : TypeRow
  pub is_element : slice_get t.rows of.0 ≡ Some element

pub array_form : (t : Tables) (g : Form) (k : TypeKind) (i : ℕ) → IsForm t g k → IsUpTo i (elements k) → (of : TypeId) × (n : ℕ) × (f : Form) × (k ≡ kind.Array of n) × (g ≡ Row n f) × (i ≤ n) × OfRow (IsForm t f) (slice_get t.rows of.0)
array_form t (Row n f) (kind.Array of m) i h u = (of, m, f, refl, ap (λ x. Row x f) (sym h.0), u, h.1)
array_form t Leaf (kind.Array of m) i h u = absurd h
array_form t (Class bs ms) (kind.Array of m) i h u = absurd h
array_form t (Union ms) (kind.Array of m) i h u = absurd h
array_form t g k i h u = absurd (first_of (assumption, cc))

pub elements_at : (t : Tables) (rs : List Record) (live : ℕ) (p : Place) (i : ℕ) (g : Form) (there dead : Bool) → Fits t rs live → Knows t (objects_of rs) (path_in (forms_in rs) p) → HasElem t (objects_of rs) (path_in (forms_in rs) p) i
    → on.broken t (objects_of rs) (path_in (forms_in rs) p) on.Part ≡ None → StandsAt rs p g there dead → Elements t rs p g i
elements_at t rs live p i g there dead f k h b s =
    let e = not_past t rs p on.Part [] s.rec s.is_rec refl b in
    let y = typed t rs live p g there dead f k e s in
    let x = array_form t g y.row.kind i y.form (of_row (λ r. IsUpTo i (elements r.kind)) (row_of t (objects_of rs) (path_in (forms_in rs) p)) y.row h y.is_row) in
    let r = row_known (IsForm t x.2) (slice_get t.rows x.0.0) x.6 in
    record { is_at = e; row = y.row; is_row = y.is_row; of = x.0; count = x.1; inner = x.2; is_kind = x.3; is_form = x.4; up_to = x.5; element = r.0; is_element = r.1 }

pub elem_part : (t : Tables) (rs : List Record) (live : ℕ) (p : Place) (i : ℕ) (g : Form) (there dead : Bool) → Fits t rs live → Knows t (objects_of rs) (path_in (forms_in rs) p) → HasElem t (objects_of rs) (path_in (forms_in rs) p) i
    → on.broken t (objects_of rs) (path_in (forms_in rs) p) on.Part ≡ None → StandsAt rs p g there dead → (row_count g ≡ i → ⊥) → IsPartAt rs p (step.Elem i)
elem_part t rs live p i g there dead f k h b s n =
    let x = elements_at t rs live p i g there dead f k h b s in
    let w = s.walked in
    let le : i ≤ x.count = x.up_to in
    let ne : (x.count ≡ i → ⊥) = λ e. n (ap row_count x.is_form ∙ e) in
    let lt : i < x.count = omega arith in
    record {
      rec = s.rec;
      is_rec = s.is_rec;
      is_at = x.is_at;
      form = g;
      stands = record { steps = w.steps; are_steps = w.are_steps; leads = w.leads };
      found = (suc (i * size x.inner), x.inner);
      is_part = ap (λ y. part_of y (step.Elem i)) x.is_form ∙ ap (λ z. if z then Some (suc (i * size x.inner), x.inner) else None) (lt-ltb i x.count lt);
    }

pub end_is : (t : Tables) (rs : List Record) (p : Place) (g : Form) (i : ℕ) (x : Elements t rs p g i) → steps.ends_at i (row_of t (objects_of rs) (path_in (forms_in rs) p)) ≡ (x.count == i)
end_is t rs p g i x = ap (steps.ends_at i) x.is_row ∙ ap (λ z. unwrap_or (option_map (λ (e : ℕ × TypeId). e.0 == i) (elements z)) false) x.is_kind

pub inner_end : (t : Tables) (rs : List Record) (live : ℕ) (p : Place) (i : ℕ) (g : Form) (there dead : Bool) → Fits t rs live → Knows t (objects_of rs) (path_in (forms_in rs) p) → HasElem t (objects_of rs) (path_in (forms_in rs) p) i
    → on.broken t (objects_of rs) (path_in (forms_in rs) p) on.Part ≡ None → StandsAt rs p g there dead → (row_count g ≡ i → ⊥) → steps.ends_at i (row_of t (objects_of rs) (path_in (forms_in rs) p)) ≡ false
inner_end t rs live p i g there dead f k h b s n =
    let x = elements_at t rs live p i g there dead f k h b s in
    end_is t rs p g i x ∙ ne_eqb x.count i (λ e. n (ap row_count x.is_form ∙ e))

pub last_is : (rs : List Record) (p : Place) (g : Form) (there dead : Bool) (n : ℕ) (inner : Form) → p.end ≡ end.At → (s : StandsAt rs p g there dead) → g ≡ Row n inner
    → path_in (forms_in rs) (record { object = p.object; part = p.part; end = end.Last }) ≡ steps.deeper (path_in (forms_in rs) p) (step.Elem n) true
last_is rs p g there dead n inner a s e =
    let w = s.walked in
    let f = record_form s.rec in
    let x : slice_get (forms_in rs) p.object ≡ Some f = get_map record_form rs p.object ∙ ap (option_map record_form) s.is_rec in
    let y : option_and_then (marked f end.Last) (steps_at f p.part) ≡ Some (w.steps ++ step.Elem n ∷ []) =
    ap (option_and_then (marked f end.Last)) w.are_steps ∙ ap (option_and_then (end_steps w.steps)) w.leads ∙ ap (λ h. end_steps w.steps (p.part, h)) e in
    ap (λ (o : Option (List Step)). record { object = p.object; steps = unwrap_or o nowhere; past = true }) (ap (option_and_then (steps_of (record { object = p.object; part = p.part; end = end.Last }))) x ∙ y)
    ∙ sym (ap (λ q. steps.deeper q (step.Elem n) true) (path_is rs p s.rec w.steps s.is_rec a w.are_steps))

pub last_path : (t : Tables) (rs : List Record) (live : ℕ) (p : Place) (i : ℕ) (g : Form) (there dead : Bool) → Fits t rs live → Knows t (objects_of rs) (path_in (forms_in rs) p) → HasElem t (objects_of rs) (path_in (forms_in rs) p) i
    → on.broken t (objects_of rs) (path_in (forms_in rs) p) on.Part ≡ None → StandsAt rs p g there dead → row_count g ≡ i
    → Ok (path_in (forms_in rs) (record { object = p.object; part = p.part; end = end.Last })) ≡ steps.to_elem t (objects_of rs) (path_in (forms_in rs) p) i
last_path t rs live p i g there dead f k h b s n =
    let x = elements_at t rs live p i g there dead f k h b s in
    let q = path_in (forms_in rs) p in
    let c : x.count ≡ i = sym (ap row_count x.is_form) ∙ n in
    let e : steps.ends_at i (row_of t (objects_of rs) q) ≡ true = end_is t rs p g i x ∙ eq-eqb x.count i c in
    ap Ok (last_is rs p g there dead x.count x.inner x.is_at s x.is_form ∙ ap (λ m. steps.deeper q (step.Elem m) true) c ∙ ap (steps.deeper q (step.Elem i)) (sym e))
    ∙ sym (ap (λ o. steps.unless o (steps.deeper q (step.Elem i) (steps.ends_at i (row_of t (objects_of rs) q)))) b)

pub last_known : (t : Tables) (rs : List Record) (live : ℕ) (p : Place) (i : ℕ) (g : Form) (there dead : Bool) → Fits t rs live → Knows t (objects_of rs) (path_in (forms_in rs) p) → HasElem t (objects_of rs) (path_in (forms_in rs) p) i
    → on.broken t (objects_of rs) (path_in (forms_in rs) p) on.Part ≡ None → StandsAt rs p g there dead → row_count g ≡ i
    → Knows t (objects_of rs) (path_in (forms_in rs) (record { object = p.object; part = p.part; end = end.Last }))
last_known t rs live p i g there dead f k h b s n =
    let x = elements_at t rs live p i g there dead f k h b s in
    to_elem-knows t (objects_of rs) (path_in (forms_in rs) p) (path_in (forms_in rs) (record { object = p.object; part = p.part; end = end.Last })) i x.row x.of x.count x.is_row x.is_kind (get_within t.rows x.of.0 x.element x.is_element) x.up_to
    (sym (last_path t rs live p i g there dead f k h b s n))

-- the steps of a place, one by one

pub marked_more : (f : Form) (e : End) (w : Way) (ss : List Step) → part_of f w.0 ≡ Some (w.1, w.2) → marked f e (w.0 ∷ ss) ≡ option_map (λ us. w.0 ∷ us) (marked w.2 e ss)
marked_more f end.At w ss h = refl
marked_more f end.Past w ss h = refl
marked_more f end.Last w ss h = ap (λ o. option_and_then (end_steps (w.0 ∷ ss)) (option_and_then (λ (p : Part). option_map (further p.0) (below_of p.1 ss)) o)) h ∙ go (below_of w.2 ss)
  where
    one : (n m : ℕ) (g : Form) → end_steps (w.0 ∷ ss) (n, g) ≡ option_map (λ us. w.0 ∷ us) (end_steps ss (m, g))
    one n m Leaf = refl
    one n m (Row k g) = refl
    one n m (Class bs ms) = refl
    one n m (Union ms) = refl

    go : (o : Option Part) → option_and_then (end_steps (w.0 ∷ ss)) (option_map (further w.1) o) ≡ option_map (λ us. w.0 ∷ us) (option_and_then (end_steps ss) o)
    go None = refl
    go (Some p) = one (w.1 + p.0) p.0 p.1

pub steps_more : (f : Form) (e : End) (j : ℕ) (w : Way) → way f j ≡ Some w → option_and_then (marked f e) (steps_at f (suc j)) ≡ option_map (λ us. w.0 ∷ us) (option_and_then (marked w.2 e) (steps_at w.2 (suc j - w.1)))
steps_more f e j w h =
    let l : Leads f j w = way_leads f j w h in
    ap (option_and_then (marked f e)) (steps_way f j w h) ∙ go (steps_at w.2 (suc j - w.1)) l.is_part
  where
    go : (o : Option (List Step)) → part_of f w.0 ≡ Some (w.1, w.2) → option_and_then (marked f e) (option_map (λ ss. w.0 ∷ ss) o) ≡ option_map (λ us. w.0 ∷ us) (option_and_then (marked w.2 e) o)
    go None q = refl
    go (Some ss) q = marked_more f e w ss q

pub later_step : (f : Form) (e : End) (rest k : ℕ) (w : Way) (us : List Step) (result : Option Step) → 1 ≤ rest → 1 ≤ k → way f (rest - 1) ≡ Some w → option_and_then (marked f e) (steps_at f rest) ≡ Some us
    → ((vs : List Step) → option_and_then (marked w.2 e) (steps_at w.2 (rest - w.1)) ≡ Some vs → result ≡ slice_get vs (k - 1)) → result ≡ slice_get us k
later_step f e zero k w us result l m h s r = absurd (omega arith)
later_step f e (suc j) zero w us result l m h s r = absurd (omega arith)
later_step f e (suc j) (suc k) w us result l m h s r =
    let z : suc j - 1 ≡ j = omega arith in
    let y : suc k - 1 ≡ k = omega arith in
    let x = option_map-some (λ vs. w.0 ∷ vs) (option_and_then (marked w.2 e) (steps_at w.2 (suc j - w.1))) us (sym (steps_more f e j w (ap (way f) (sym z) ∙ h)) ∙ s) in
    r x.0 x.1 ∙ ap (slice_get x.0) y ∙ ap (λ l. slice_get l (suc k)) x.2
