-- The arrays that places are in.
use Rattle.std.proofs.Common.{◌≡◌, ℕ, zero, suc, ◌+◌, ◌-◌, ◌*◌, ◌<◌, ◌≤◌, nat_lt, Bool, true, false, List, [], ◌∷◌, ◌++◌, Option, None, Some, refl, sym, ap, subst, ◌∙◌, arith, eqb-true, eq-eqb, if◌then◌else◌}
use Rattle.std.specs.Prelude.{option_map, option_and_then}
use Rattle.cx_type_defs.proofs.Lists.{some_inj, option_map-some, option_and_then-some}
use Rattle.cx_type_defs.specs.declared.ids.Step.{Step}
use Rattle.cx_type_defs.specs.declared.ids.Step.TheVariants as step
use Rattle.cx_state.specs.Places.{Spot, under, spot_of}
use Rattle.cx_shapes.specs.Forms.{Form, Leaf, Row, Class, Union, size, Part, further, part_of, below_of, Way, way, Leads, steps_at}
use Rattle.cx_shapes.proofs.Numbering.{way_leads, steps_way, steps_none, if_some, lt_true}
use Rattle.cx_records.specs.declared.place.End.{End}
use Rattle.cx_records.specs.declared.place.End.TheVariants as end
use Rattle.cx_records.specs.Parts.{row_count}
use Rattle.cx_records.specs.Records.{end_steps, marked, is_past}
use Rattle.cx_records.proofs.Checking.{none_some}
use Rattle.cx_records.proofs.Elements.{steps_more}
use Rattle.cx_record_pointers.specs.declared.seat.Seat.{Seat}
use Rattle.cx_record_pointers.specs.Seats.{IsSeat, element_index, ends_here}

-- at the first part

abbrev pub Seated : Form → ℕ → End → Seat → Type 0
Seated f b e s = (ss : List Step) → marked f e [] ≡ Some ss → IsSeat f b (spot_of (is_past e) ss) s

pub seat_here : (f : Form) (b : ℕ) (e : End) (s : Seat) → s ≡ record { array = b; many = false; count = 1; index = if is_past e then 1 else 0 } → (ss : List Step) → Some [] ≡ Some ss → IsSeat f b (spot_of (is_past e) ss) s
seat_here f b e s is ss h = subst (λ us. IsSeat f b (spot_of (is_past e) us) s) (some_inj [] ss h) (subst (IsSeat f b (spot_of (is_past e) [])) (sym is) (record {
  form = f;
  from = 0;
  leads = refl;
  is_array = omega arith;
  is_many = refl;
  is_index = refl;
  holds = refl;
  within = below (is_past e);
}))
  where
    below : (past : Bool) → (if past then 1 else 0) ≤ 1
    below true = omega arith
    below false = omega arith

pub seat_last : (f : Form) (b : ℕ) (s : Seat) → s ≡ record { array = b; many = true; count = row_count f; index = row_count f } → (ss : List Step) → marked f end.Last [] ≡ Some ss → IsSeat f b (spot_of true ss) s
seat_last (Row m g) b s is ss h = subst (λ us. IsSeat (Row m g) b (spot_of true us) s) (some_inj (step.Elem m ∷ []) ss h) (subst (IsSeat (Row m g) b (spot_of true (step.Elem m ∷ []))) (sym is) (record {
  form = Row m g;
  from = 0;
  leads = refl;
  is_array = omega arith;
  is_many = refl;
  is_index = refl;
  holds = (g, refl);
  within = omega arith;
}))
seat_last Leaf b s is ss h = absurd (cc)
seat_last (Class bs ms) b s is ss h = absurd (cc)
seat_last (Union ms) b s is ss h = absurd (cc)

-- at an element

pub row_of_element : (f : Form) (i : ℕ) (p : Part) → part_of f (step.Elem i) ≡ Some p → (n : ℕ) × (g : Form) × (f ≡ Row n g) × (i < n)
row_of_element (Row n g) i p e = (n, g, refl, lt_true i n (if_some (nat_lt i n) (suc (i * size g), g) p e).0)
row_of_element Leaf i p e = absurd (cc)
row_of_element (Class bs ms) i p e = absurd (cc)
row_of_element (Union ms) i p e = absurd (cc)

element_some : (s : Step) (c : Bool) (i : ℕ) → element_index s c ≡ Some i → (s ≡ step.Elem i) × (c ≡ true)
element_some (step.Elem j) true i e = (ap step.Elem (some_inj j i e), refl)
element_some (step.Elem j) false i e = absurd (cc)
element_some (step.Base j) c i e = absurd (cc)
element_some (step.Field j) c i e = absurd (cc)

ends_there : (e : End) (j n : ℕ) → ends_here e j n ≡ true → (j ≡ n) × ((f : Form) → marked f e [] ≡ Some [])
ends_there end.At j n h = (eqb-true j n h, λ f. refl)
ends_there end.Past j n h = (eqb-true j n h, λ f. refl)
ends_there end.Last j n h = absurd (cc)

-- the steps to a place behind the first part
pub record Further (f : Form) (e : End) (rest : ℕ) (w : Way) (ss : List Step) : Type 0 where
  pub steps : List Step
  pub are_steps : option_and_then (marked w.2 e) (steps_at w.2 (rest - w.1)) ≡ Some steps
  pub in_order : w.0 ∷ steps ≡ ss
  pub is_part : part_of f w.0 ≡ Some (w.1, w.2)
  pub from : w.1 ≤ rest

pub further_on : (f : Form) (e : End) (rest : ℕ) (w : Way) (ss : List Step) → 1 ≤ rest → way f (rest - 1) ≡ Some w → option_and_then (marked f e) (steps_at f rest) ≡ Some ss → Further f e rest w ss
further_on f e zero w ss l h s = absurd (omega arith)
further_on f e (suc j) w ss l h s =
    let z : suc j - 1 ≡ j = omega arith in
    let here : way f j ≡ Some w = ap (way f) (sym z) ∙ h in
    let leads : Leads f j w = way_leads f j w here in
    let m = option_map-some (λ us. w.0 ∷ us) (option_and_then (marked w.2 e) (steps_at w.2 (suc j - w.1))) ss (sym (steps_more f e j w here) ∙ s) in
    record { steps = m.0; are_steps = m.1; in_order = m.2; is_part = leads.is_part; from = leads.from }

pub seat_element : (f : Form) (b rest : ℕ) (e : End) (w : Way) (i : ℕ) (s : Seat) → 1 ≤ rest → way f (rest - 1) ≡ Some w → element_index w.0 (ends_here e rest w.1) ≡ Some i → s ≡ record { array = b; many = true; count = row_count f; index = i }
    → (ss : List Step) → option_and_then (marked f e) (steps_at f rest) ≡ Some ss → IsSeat f b (spot_of (is_past e) ss) s
seat_element f b rest e w i s l h el is ss es =
    let x = further_on f e rest w ss l h es in
    let y = element_some w.0 (ends_here e rest w.1) i el in
    let z = ends_there e rest w.1 y.1 in
    let none : rest - w.1 ≡ 0 = omega arith in
    let empty : [] ≡ x.steps = some_inj [] x.steps (sym (z.1 w.2) ∙ ap (λ k. option_and_then (marked w.2 e) (steps_at w.2 k)) (sym none) ∙ x.are_steps) in
    let all : step.Elem i ∷ [] ≡ ss = ap (λ u. u ∷ []) (sym y.0) ∙ ap (λ us. w.0 ∷ us) empty ∙ x.in_order in
    let r = row_of_element f i (w.1, w.2) (ap (part_of f) (sym y.0) ∙ x.is_part) in
    let n : row_count f ≡ r.0 = ap row_count r.2 in
    subst (λ us. IsSeat f b (spot_of (is_past e) us) s) all (subst (IsSeat f b (spot_of (is_past e) (step.Elem i ∷ []))) (sym is) (record {
      form = f;
      from = 0;
      leads = refl;
      is_array = omega arith;
      is_many = refl;
      is_index = refl;
      holds = (r.1, r.2 ∙ ap (λ k. Row k r.1) (sym n));
      within = omega (arith, r.3);
    }))

-- further on

seat_under : (f : Form) (b : ℕ) (t : Step) (p : Part) (x : Spot) (s : Seat) → part_of f t ≡ Some p → IsSeat p.1 (b + p.0) x s → IsSeat f b (under t x) s
seat_under f b t p x s e h = record {
  form = h.form;
  from = p.0 + h.from;
  leads = ap (option_and_then (λ (q : Part). option_map (further q.0) (below_of q.1 x.array))) e ∙ ap (option_map (further p.0)) h.leads;
  is_array = (let a = h.is_array in omega arith);
  is_many = h.is_many;
  is_index = h.is_index;
  holds = h.holds;
  within = h.within;
}

spot_under : (past : Bool) (t : Step) (us : List Step) → ((i : ℕ) → t ≡ step.Elem i → us ≡ [] → ⊥) → spot_of past (t ∷ us) ≡ under t (spot_of past us)
spot_under past (step.Base i) us h = refl
spot_under past (step.Field i) us h = refl
spot_under past (step.Elem i) [] h = absurd (h i refl refl)
spot_under past (step.Elem i) (u ∷ us) h = refl

no_end : (us : List Step) (u : Step) → us ++ u ∷ [] ≡ [] → ⊥
no_end [] u e = cc
no_end (x ∷ us) u e = cc

ended : (us : List Step) (o : Option Part) → option_and_then (end_steps us) o ≡ Some [] → ⊥
ended us None e = cc
ended us (Some (n, Row m f)) e = no_end us (step.Elem m) (some_inj (us ++ step.Elem m ∷ []) [] e)
ended us (Some (n, Leaf)) e = cc
ended us (Some (n, Class bs ms)) e = cc
ended us (Some (n, Union ms)) e = cc

first_number : (f : Form) (j : ℕ) → steps_at f j ≡ Some [] → j ≡ 0
first_number f zero e = refl
first_number f (suc j) e = go (way f j) refl
  where
    go : (o : Option Way) → way f j ≡ o → suc j ≡ 0
    go None h = absurd (none_some (sym (steps_none f j h) ∙ e))
    go (Some w) h =
        let m = option_map-some (λ us. w.0 ∷ us) (steps_at w.2 (suc j - w.1)) [] (sym (steps_way f j w h) ∙ e) in
        absurd (no_cons w.0 m.0 m.2)
      where
        no_cons : (u : Step) (us : List Step) → u ∷ us ≡ [] → ⊥
        no_cons u us e = cc

ends_when : (f : Form) (e : End) (k j n : ℕ) → j - n ≡ k → n ≤ j → option_and_then (marked f e) (steps_at f k) ≡ Some [] → ends_here e j n ≡ true
ends_when f e k j n is l h = let m = option_and_then-some (marked f e) (steps_at f k) [] h in go e m.0 m.1 m.2
  where
    go : (e : End) (us : List Step) → steps_at f k ≡ Some us → marked f e us ≡ Some [] → ends_here e j n ≡ true
    go end.At us a c = let z : k ≡ 0 = first_number f k (a ∙ c) in eq-eqb j n (omega arith)
    go end.Past us a c = let z : k ≡ 0 = first_number f k (a ∙ c) in eq-eqb j n (omega arith)
    go end.Last us a c = absurd (ended us (below_of f us) c)

pub seat_on : (f : Form) (b rest : ℕ) (e : End) (w : Way) (s : Seat) → 1 ≤ rest → way f (rest - 1) ≡ Some w → element_index w.0 (ends_here e rest w.1) ≡ None
    → ((us : List Step) → option_and_then (marked w.2 e) (steps_at w.2 (rest - w.1)) ≡ Some us → IsSeat w.2 (b + w.1) (spot_of (is_past e) us) s)
    → (ss : List Step) → option_and_then (marked f e) (steps_at f rest) ≡ Some ss → IsSeat f b (spot_of (is_past e) ss) s
seat_on f b rest e w s l h el r ss es =
    let x = further_on f e rest w ss l h es in
    let inner : (i : ℕ) → w.0 ≡ step.Elem i → x.steps ≡ [] → ⊥ = λ i t n.
    some_none i (sym (ap (element_index (step.Elem i)) (ends_when w.2 e (rest - w.1) rest w.1 refl x.from (x.are_steps ∙ ap Some n))) ∙ ap (λ u. element_index u (ends_here e rest w.1)) (sym t) ∙ el) in
    subst (λ us. IsSeat f b (spot_of (is_past e) us) s) x.in_order
    (subst (λ y. IsSeat f b y s) (sym (spot_under (is_past e) w.0 x.steps inner)) (seat_under f b w.0 (w.1, w.2) (spot_of (is_past e) x.steps) s x.is_part (r x.steps x.are_steps)))
  where
    some_none : (i : ℕ) → Some i ≡ None → ⊥
    some_none i e = cc
