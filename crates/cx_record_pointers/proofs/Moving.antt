-- The place with an index in the array that a place is in.
use Rattle.std.proofs.Common.{◌≡◌, ℕ, zero, suc, ◌+◌, ◌*◌, ◌<◌, ◌≤◌, ◌^◌, ◌==◌, Bool, true, false, List, [], ◌∷◌, ◌++◌, Option, None, Some, Result, Ok, Err, refl, sym, ap, subst, ◌∙◌, slice_get, arith, eq-eqb, ne_eqb, ℤ, pos, ◌+ℤ◌, if◌then◌else◌}
use Rattle.std.proofs.lemmas.Bool.{lt-ltb}
use Rattle.std.specs.Prelude.{option_map, option_and_then, unwrap_or}
use Rattle.cx_base.specs.declared.rule.Rule.{Rule}
use Rattle.cx_base.specs.declared.rule.Rule.TheVariants as rule
use Rattle.cx_type_defs.proofs.Lists.{some_inj}
use Rattle.cx_type_defs.specs.declared.ids.Step.{Step}
use Rattle.cx_type_defs.specs.declared.ids.Step.TheVariants as step
use Rattle.cx_type_defs.specs.declared.ids.TypeId.{TypeId}
use Rattle.cx_type_defs.specs.declared.kind.TypeRow.{TypeRow}
use Rattle.cx_type_defs.specs.declared.kind.TypeKind.{TypeKind}
use Rattle.cx_type_defs.specs.declared.kind.TypeKind.TheVariants as kind
use Rattle.cx_type_defs.specs.Tables.{Tables}
use Rattle.cx_state.specs.Objects.{Path}
use Rattle.cx_state.specs.Places.{row_below, root_row, Spot, spot, elements}
use Rattle.cx_state.specs.Pointers.{is_dangling, first_row, count_at, at_index, index_within, moved, add}
use Rattle.cx_shapes.specs.Forms.{Form, Row, size, Small, Part, part_of, below_of, steps_at, Stands}
use Rattle.cx_shapes.specs.Kinds.{IsForm}
use Rattle.cx_shapes.proofs.Numbering.{lead_steps, below_fits, size_pos, part_fits}
use Rattle.cx_shapes.proofs.Typing.{below_has}
use Rattle.cx_records.specs.declared.place.Place.{Place}
use Rattle.cx_records.specs.declared.place.End.{End}
use Rattle.cx_records.specs.declared.place.End.TheVariants as end
use Rattle.cx_records.specs.declared.record.Record.{Record}
use Rattle.cx_records.specs.Fits.{Fits}
use Rattle.cx_records.specs.Records.{end_steps, marked, steps_of, is_past, nowhere, path_in, record_form, forms_in, objects_of}
use Rattle.cx_records.proofs.Deeper.{part_steps}
use Rattle.cx_records.proofs.Placed.{get_map}
use Rattle.cx_records.proofs.Rules.{the_object}
use Rattle.cx_record_pointers.specs.declared.seat.Seat.{Seat}
use Rattle.cx_record_pointers.specs.Seats.{Holds, IsSeat, IsSeatAt, steps_to, IsPlaced, HasElement, one_place}

-- elements by number

pub element_small : (f : Form) (a i : ℕ) → HasElement f a i → Small f → a < 2 ^ 62
element_small f a i w s =
    let x : a + size w.form ≤ size f = below_fits f w.steps (a, w.form) w.leads in
    let y : 1 ≤ size w.form = size_pos w.form in
    let z : size f < 2 ^ 62 = s.few_parts in
    omega arith

pub element_there : (f : Form) (a i : ℕ) (w : HasElement f a i) → steps_at f a ≡ Some w.steps
element_there f a i w = lead_steps a f w.steps (a, w.form) w.leads (omega arith)

pub element_part : (f : Form) (a i : ℕ) (g : Form) (w : HasElement f a i) → Stands f a g → part_of g (step.Elem i) ≡ Some w.found
element_part f a i g w s =
    let e : s.steps ≡ w.steps = some_inj s.steps w.steps (sym s.are_steps ∙ element_there f a i w) in
    let same : (a, g) ≡ (a, w.form) = some_inj (a, g) (a, w.form) (sym s.leads ∙ ap (below_of f) e ∙ w.leads) in
    ap (λ (p : Part). part_of p.1 (step.Elem i)) same ∙ w.is_part

pub element_fits : (f : Form) (a i : ℕ) (w : HasElement f a i) → Small f → a + w.found.0 < 2 ^ 62
element_fits f a i w s =
    let x : a + size w.form ≤ size f = below_fits f w.steps (a, w.form) w.leads in
    let y = part_fits w.form (step.Elem i) w.found w.is_part in
    let z : size f < 2 ^ 62 = s.few_parts in
    let u : w.found.0 + size w.found.1 ≤ size w.form = y.within in
    let v : 1 ≤ size w.found.1 = size_pos w.found.1 in
    omega arith

-- the seat of an element

pub row_seat : (f : Form) (x : Spot) (s : Seat) → IsSeat f 0 x s → s.many ≡ true → (g : Form) × (below_of f x.array ≡ Some (s.array, Row s.count g))
row_seat f x s h m =
    let w : Holds true h.form s.count = subst (λ b. Holds b h.form s.count) (sym h.is_many ∙ m) h.holds in
    let n : h.from ≡ s.array = (let z = h.is_array in omega arith) in
    (w.0, h.leads ∙ ap (λ k. Some (k, h.form)) n ∙ ap (λ g. Some (s.array, g)) w.1)

pub seat_steps : (f : Form) (x : Spot) (s : Seat) → IsSeat f 0 x s → steps_at f s.array ≡ Some x.array
seat_steps f x s h =
    let n : h.from ≡ s.array = (let z = h.is_array in omega arith) in
    ap (steps_at f) (sym n) ∙ lead_steps h.from f x.array (h.from, h.form) h.leads (omega arith)

pub has_element : (f : Form) (x : Spot) (s : Seat) (i : ℕ) → IsSeat f 0 x s → s.many ≡ true → i < s.count → HasElement f s.array i
has_element f x s i h m l =
    let r = row_seat f x s h m in
    record {
      form = Row s.count r.0;
      steps = x.array;
      leads = r.1;
      found = (suc (i * size r.0), r.0);
      is_part = ap (λ b. if b then Some (suc (i * size r.0), r.0) else None) (lt-ltb i s.count l);
    }

many_steps : (x : Spot) (i : ℕ) → x.many ≡ true → x.array ++ step.Elem i ∷ [] ≡ steps_to x i
many_steps x i m = ap (λ b. if b then x.array ++ step.Elem i ∷ [] else x.array) (sym m)

pub placed_last : (f : Form) (o : ℕ) (x : Spot) (s : Seat) (i : ℕ) → IsSeat f 0 x s → s.many ≡ true → i ≡ s.count → IsPlaced f o x s.count i (record { object = o; part = s.array; end = end.Last })
placed_last f o x s i h m e =
    let r = row_seat f x s h m in
    record {
      is_object = refl;
      are_steps = ap (option_and_then (marked f end.Last)) (seat_steps f x s h) ∙ ap (option_and_then (end_steps x.array)) r.1 ∙ ap (λ k. Some (x.array ++ step.Elem k ∷ [])) (sym e) ∙ ap Some (many_steps x i (sym h.is_many ∙ m));
      is_past = sym (eq-eqb i s.count e);
    }

pub placed_element : (f : Form) (o : ℕ) (x : Spot) (s : Seat) (i j : ℕ) → IsSeat f 0 x s → s.many ≡ true → (i ≡ s.count → ⊥)
    → ((ss : List Step) → steps_at f s.array ≡ Some ss → steps_at f j ≡ Some (ss ++ step.Elem i ∷ [])) → IsPlaced f o x s.count i (record { object = o; part = j; end = end.At })
placed_element f o x s i j h m n e = record {
  is_object = refl;
  are_steps = ap (option_and_then (marked f end.At)) (e x.array (seat_steps f x s h)) ∙ ap Some (many_steps x i (sym h.is_many ∙ m));
  is_past = sym (ne_eqb i s.count n);
}

pub placed_one : (f : Form) (o : ℕ) (x : Spot) (s : Seat) (i : ℕ) (p : Place) → IsSeat f 0 x s → s.many ≡ false → i ≤ s.count → p ≡ one_place o s.array i → IsPlaced f o x s.count i p
placed_one f o x s i p h m l e =
    let w : Holds false h.form s.count = subst (λ b. Holds b h.form s.count) (sym h.is_many ∙ m) h.holds in
    subst (IsPlaced f o x s.count i) (sym e) (subst (λ n. IsPlaced f o x n i (one_place o s.array i)) (sym w) (go i (omega arith)))
  where
    steps : (e : End) → ((ss : List Step) → marked f e ss ≡ Some ss) → (i : ℕ) → option_and_then (marked f e) (steps_at f s.array) ≡ Some (steps_to x i)
    steps e n i = ap (option_and_then (marked f e)) (seat_steps f x s h) ∙ n x.array ∙ ap (λ b. Some (if b then x.array ++ step.Elem i ∷ [] else x.array)) (sym (sym h.is_many ∙ m))

    go : (i : ℕ) → i ≤ 1 → IsPlaced f o x 1 i (one_place o s.array i)
    go zero l = record { is_object = refl; are_steps = steps end.At (λ ss. refl) 0; is_past = refl }
    go (suc zero) l = record { is_object = refl; are_steps = steps end.Past (λ ss. refl) 1; is_past = refl }
    go (suc (suc i)) l = absurd (omega arith)

-- the number of elements, by the types

array_kind : (t : Tables) (n : ℕ) (g : Form) (k : TypeKind) → IsForm t (Row n g) k → (of : TypeId) × (elements k ≡ Some (n, of))
array_kind t n g (kind.Array of m) h = (of, ap (λ c. Some (c, of)) h.0)
array_kind t n g k h = absurd (first_of (assumption, cc))

pub count_is : (t : Tables) (rs : List Record) (live : ℕ) (p : Place) (s : Seat) → Fits t rs live → IsSeatAt rs p s → count_at t (objects_of rs) (path_in (forms_in rs) p) ≡ s.count
count_is t rs live p s f w = go (spot q).many w.seat.holds
  where
    q : Path
    q = path_in (forms_in rs) p

    go : (m : Bool) → Holds m w.seat.form s.count
        → (if m then unwrap_or (option_map (λ (e : ℕ × TypeId). e.0) (option_and_then (λ (r : TypeRow). elements r.kind) (option_and_then (λ r. row_below t r (spot q).array) (first_row t (objects_of rs) q)))) 0 else 1) ≡ s.count
    go false h = sym h
    go true h =
        let kept = f.kept p.object w.rec w.is_rec in
        let below = below_has t (record_form w.rec) kept.row kept.form (spot q).array (w.seat.from, w.seat.form) w.seat.leads in
        let x = array_kind t s.count h.0 below.0.kind (subst (λ g. IsForm t g below.0.kind) h.1 below.2) in
        ap (λ o. unwrap_or (option_map (λ (e : ℕ × TypeId). e.0) (option_and_then (λ (r : TypeRow). elements r.kind) (option_and_then (λ r. row_below t r (spot q).array) (option_and_then (root_row t) o)))) 0) (the_object rs p w.rec w.is_rec)
        ∙ ap (λ o. unwrap_or (option_map (λ (e : ℕ × TypeId). e.0) (option_and_then (λ (r : TypeRow). elements r.kind) (option_and_then (λ r. row_below t r (spot q).array) o))) 0) kept.is_row
        ∙ ap (λ o. unwrap_or (option_map (λ (e : ℕ × TypeId). e.0) (option_and_then (λ (r : TypeRow). elements r.kind) o)) 0) below.1
        ∙ ap (λ o. unwrap_or (option_map (λ (e : ℕ × TypeId). e.0) o) 0) x.1

-- its path

pub placed_path : (t : Tables) (rs : List Record) (live : ℕ) (p q : Place) (s : Seat) (i : ℕ) (r : Record) → Fits t rs live → IsSeatAt rs p s → slice_get rs p.object ≡ Some r
    → ((x : Spot) → IsSeat (record_form r) 0 x s → IsPlaced (record_form r) p.object x s.count i q)
    → path_in (forms_in rs) q ≡ at_index (path_in (forms_in rs) p) (count_at t (objects_of rs) (path_in (forms_in rs) p)) i
placed_path t rs live p q s i r f w is_rec h =
    let same : w.rec ≡ r = some_inj w.rec r (sym w.is_rec ∙ is_rec) in
    let x = spot (path_in (forms_in rs) p) in
    let n = h x (subst (λ (z : Record). IsSeat (record_form z) 0 x s) same w.seat) in
    let form : slice_get (forms_in rs) q.object ≡ Some (record_form r) = get_map record_form rs q.object ∙ ap (λ o. option_map record_form (slice_get rs o)) n.is_object ∙ ap (option_map record_form) is_rec in
    let steps : option_and_then (steps_of q) (slice_get (forms_in rs) q.object) ≡ Some (steps_to x i) = ap (option_and_then (steps_of q)) form ∙ n.are_steps in
    ap (λ o. record { object = o; steps = unwrap_or (option_and_then (steps_of q) (slice_get (forms_in rs) q.object)) nowhere; past = is_past q.end }) n.is_object
    ∙ ap (λ (o : Option (List Step)). record { object = p.object; steps = unwrap_or o nowhere; past = is_past q.end }) steps
    ∙ ap (λ b. record { object = p.object; steps = steps_to x i; past = b }) n.is_past
    ∙ ap (λ m. record { object = p.object; steps = steps_to x i; past = i == m }) (sym (count_is t rs live p s f w))

-- moving

abbrev moved_to : Path → ℕ → Option ℕ → Result Path Rule
moved_to p count o = unwrap_or (option_map (λ i. Ok (at_index p count i)) o) (Err rule.PointerRange)

pub add_is : (t : Tables) (rs : List Record) (live : ℕ) (p : Place) (s : Seat) (by : ℤ) (o : Option ℕ) → Fits t rs live → IsSeatAt rs p s → is_dangling (objects_of rs) (path_in (forms_in rs) p) ≡ false → index_within s.count (pos s.index +ℤ by) ≡ o
    → add t (objects_of rs) (path_in (forms_in rs) p) by ≡ moved_to (path_in (forms_in rs) p) (count_at t (objects_of rs) (path_in (forms_in rs) p)) o
add_is t rs live p s by o f w d e =
    let q = path_in (forms_in rs) p in
    let n = count_at t (objects_of rs) q in
    ap (λ b. if b then Err rule.Dangling else moved q n by) d
    ∙ ap (λ m. moved_to q n (index_within m (pos (spot q).index +ℤ by))) (count_is t rs live p s f w)
    ∙ ap (λ i. moved_to q n (index_within s.count (pos i +ℤ by))) (sym w.seat.is_index)
    ∙ ap (moved_to q n) e

pub element_steps : (f : Form) (a i : ℕ) (g : Form) (p : Part) → Stands f a g → part_of g (step.Elem i) ≡ Some p → (ss : List Step) → steps_at f a ≡ Some ss → steps_at f (a + p.0) ≡ Some (ss ++ step.Elem i ∷ [])
element_steps f a i g p s e ss h =
    let w = part_steps f a g (step.Elem i) p s e in
    w.2 ∙ ap (λ us. Some (us ++ step.Elem i ∷ [])) (some_inj w.0 ss (sym w.1 ∙ h))
