-- The places of parts.
use Rattle.std.proofs.Common.{◌≡◌, ℕ, ◌+◌, ◌<◌, ◌≤◌, ◌^◌, Bool, true, false, List, [], ◌∷◌, ◌++◌, None, Some, sym, ap, subst, ◌∙◌, slice_get, arith}
use Rattle.std.specs.Prelude.{option_map, option_and_then, is_some}
use Rattle.cx_base.specs.declared.rule.Rule.{Rule}
use Rattle.cx_base.specs.declared.rule.Rule.TheVariants as rule
use Rattle.cx_type_defs.proofs.Lists.{some_inj}
use Rattle.cx_type_defs.specs.declared.ids.Step.{Step}
use Rattle.cx_type_defs.specs.declared.kind.TypeRow.{TypeRow}
use Rattle.cx_type_defs.specs.Tables.{Tables}
use Rattle.cx_state.specs.Places.{row_part, row_below, root_row, row_of}
use Rattle.cx_state.specs.Conditions as on
use Rattle.cx_state.specs.Steps as steps
use Rattle.cx_state.specs.Forms.{Knows}
use Rattle.cx_state.proofs.Spots.{row_of-plain}
use Rattle.cx_state.proofs.Complete.{is_some-true}
use Rattle.cx_store.specs.Stores.{IsOf}
use Rattle.cx_shapes.specs.Forms.{Form, Part, further, size, part_of, steps_at, below_of, Stands}
use Rattle.cx_shapes.proofs.Numbering.{stands, below_more, lead_steps, below_fits, part_fits}
use Rattle.cx_shapes.proofs.Typing.{below_has, has_part}
use Rattle.cx_records.specs.declared.place.Place.{Place}
use Rattle.cx_records.specs.declared.place.End.TheVariants as end
use Rattle.cx_records.specs.declared.record.Record.{Record}
use Rattle.cx_records.specs.Records.{path_in, record_form, forms_in, objects_of}
use Rattle.cx_records.specs.Fits.{Fits}
use Rattle.cx_records.specs.Checks.{StandsAt}
use Rattle.cx_records.specs.Parts.{IsPartAt}
use Rattle.cx_records.proofs.Checking.{numbered, standing}
use Rattle.cx_records.proofs.Rules.{the_object, path_is}
use Rattle.cx_records.proofs.Reading.{not_past, typed, of_row}

-- a part's place is known
pub part_known : (t : Tables) (rs : List Record) (live : ℕ) (p : Place) (r : Record) (ss : List Step) → Fits t rs live → slice_get rs p.object ≡ Some r → p.end ≡ end.At → steps_at (record_form r) p.part ≡ Some ss → Knows t (objects_of rs) (path_in (forms_in rs) p)
part_known t rs live p r ss f e a s =
    let g = stands (record_form r) p.part ss s in
    let k = f.kept p.object r e in
    let q = below_has t (record_form r) k.row k.form ss (p.part, g.0) g.1 in
    let x : row_of t (objects_of rs) (record { object = p.object; steps = ss; past = false }) ≡ Some q.0 =
    row_of-plain t (objects_of rs) p.object ss ∙ ap (option_and_then (λ (r : TypeRow). row_below t r ss)) (ap (option_and_then (root_row t)) (the_object rs p r e) ∙ k.is_row) ∙ q.1 in
    subst (Knows t (objects_of rs)) (sym (path_is rs p r ss e a s)) (ap is_some x)

pub part_steps : (f : Form) (j : ℕ) (g : Form) (s : Step) (p : Part) → Stands f j g → (h : part_of g s ≡ Some p) → (ss : List Step) × (steps_at f j ≡ Some ss) × (steps_at f (j + p.0) ≡ Some (ss ++ s ∷ []))
part_steps f j g s p w h =
    let z : p.0 + 0 ≡ p.0 = omega arith in
    let one : below_of g (s ∷ []) ≡ Some (p.0, p.1) = ap (option_and_then (λ (x : Part). option_map (further x.0) (below_of x.1 []))) h ∙ ap (λ n. Some (n, p.1)) z in
    (w.steps, w.are_steps, lead_steps (j + p.0) f (w.steps ++ s ∷ []) (j + p.0, p.1) (below_more f w.steps (s ∷ []) (j, g) (p.0, p.1) w.leads one) (omega arith))

-- the place of a part
pub part_path : (t : Tables) (rs : List Record) (live : ℕ) (p q : Place) (s : Step) (w : IsPartAt rs p s) → Fits t rs live → q.object ≡ p.object → q.end ≡ end.At → q.part ≡ p.part + w.found.0
    → (path_in (forms_in rs) q ≡ steps.deeper (path_in (forms_in rs) p) s false) × Knows t (objects_of rs) (path_in (forms_in rs) q)
part_path t rs live p q s w f o a n =
    let x = part_steps (record_form w.rec) p.part w.form s w.found w.stands w.is_part in
    let e : slice_get rs q.object ≡ Some w.rec = ap (slice_get rs) o ∙ w.is_rec in
    let y : steps_at (record_form w.rec) q.part ≡ Some (x.0 ++ s ∷ []) = ap (steps_at (record_form w.rec)) n ∙ x.2 in (
      path_is rs q w.rec (x.0 ++ s ∷ []) e a y ∙ ap (λ k. record { object = k; steps = x.0 ++ s ∷ []; past = false }) o ∙ sym (ap (λ k. steps.deeper k s false) (path_is rs p w.rec x.0 w.is_rec w.is_at x.1)),
      part_known t rs live q w.rec (x.0 ++ s ∷ []) f e a y,
    )

-- a step that the type has is one that the shape has
pub step_part : (t : Tables) (rs : List Record) (live : ℕ) (p : Place) (s : Step) (a : on.Access) (rest : List Rule) → Fits t rs live → Knows t (objects_of rs) (path_in (forms_in rs) p) → IsOf (λ r. is_some (row_part t r s) ≡ true) (row_of t (objects_of rs) (path_in (forms_in rs) p))
    → on.order a ≡ rule.Dangling ∷ rule.PastEnd ∷ rest → on.broken t (objects_of rs) (path_in (forms_in rs) p) a ≡ None → IsPartAt rs p s
step_part t rs live p s a rest f k h o b =
    let m = numbered t rs live p f k in
    let e = not_past t rs p a rest m.rec m.is_rec o b in
    let w = standing t rs live p f k in
    let y = typed t rs live p w.form w.there w.dead f k e w.stands in
    let v = of_row (λ r. is_some (row_part t r s) ≡ true) (row_of t (objects_of rs) (path_in (forms_in rs) p)) y.row h y.is_row in
    let q = is_some-true (row_part t y.row s) v in
    let x = has_part t w.form y.row.konst y.row.kind y.form s q.0 q.1 in
    let st = w.stands in
    let wk = st.walked in
    record { rec = st.rec; is_rec = st.is_rec; is_at = e; form = w.form; stands = record { steps = wk.steps; are_steps = wk.are_steps; leads = wk.leads }; found = x.0; is_part = x.1 }

-- what is found of the step is that part
pub form_same : (rs : List Record) (p : Place) (s : Step) (g : Form) (there dead : Bool) (w : IsPartAt rs p s) → StandsAt rs p g there dead → g ≡ w.form
form_same rs p s g there dead w st =
    let x = st.walked in
    let r : st.rec ≡ w.rec = some_inj st.rec w.rec (sym st.is_rec ∙ w.is_rec) in
    let st2 = w.stands in
    let e : x.steps ≡ st2.steps = some_inj x.steps st2.steps (sym x.are_steps ∙ ap (λ (z : Record). steps_at (record_form z) p.part) r ∙ st2.are_steps) in
    ap (λ (q : Part). q.1) (some_inj (p.part, g) (p.part, w.form) (sym x.leads ∙ ap (λ (z : Record). below_of (record_form z) x.steps) r ∙ ap (below_of (record_form w.rec)) e ∙ st2.leads))

pub part_is : (rs : List Record) (p : Place) (s : Step) (g : Form) (there dead : Bool) (w : IsPartAt rs p s) → StandsAt rs p g there dead → part_of g s ≡ Some w.found
part_is rs p s g there dead w st = ap (λ x. part_of x s) (form_same rs p s g there dead w st) ∙ w.is_part

pub part_fits_number : (t : Tables) (rs : List Record) (live : ℕ) (p : Place) (s : Step) (w : IsPartAt rs p s) → Fits t rs live → p.part + w.found.0 < 2 ^ 62
part_fits_number t rs live p s w f =
    let st = w.stands in
    let k = f.kept p.object w.rec w.is_rec in
    let small = k.small in
    let few : size (record_form w.rec) < 2 ^ 62 = small.few_parts in
    let fit : p.part + size w.form ≤ size (record_form w.rec) = below_fits (record_form w.rec) st.steps (p.part, w.form) st.leads in
    let x = part_fits w.form s w.found w.is_part in
    let within : w.found.0 + size w.found.1 ≤ size w.form = x.within in
    omega arith
