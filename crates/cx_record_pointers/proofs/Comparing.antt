-- Places of one array, and what the others are to each other.
use Rattle.std.proofs.Common.{◌≡◌, ℕ, ◌==◌, nat_lt, Bool, true, false, ◌&&◌, ◌||◌, not, List, [], ◌∷◌, ◌++◌, Option, None, Some, Result, Ok, Err, inl, inr, refl, sym, ap, subst, ◌∙◌, slice_get, arith, eqb-true, eq-eqb, pos, ◌-ℤ◌, if◌then◌else◌}
use Rattle.std.proofs.lemmas.Bool.{cases_Bool, false_from_ne_true, eqb-false}
use Rattle.std.specs.Prelude.{option_map, option_and_then, unwrap_or}
use Rattle.cx_base.specs.declared.rule.Rule.{Rule}
use Rattle.cx_base.specs.declared.rule.Rule.TheVariants as rule
use Rattle.cx_type_defs.proofs.Lists.{some_inj}
use Rattle.cx_type_defs.specs.declared.ids.Step.{Step}
use Rattle.cx_type_defs.specs.declared.ids.Step.TheVariants as step
use Rattle.cx_type_defs.specs.declared.ids.TypeId.{TypeId}
use Rattle.cx_type_defs.specs.declared.kind.TypeRow.{TypeRow}
use Rattle.cx_type_defs.specs.Tables.{Tables}
use Rattle.cx_state.specs.Objects.{Path, Objects, same_step, same_steps, same_bool, same_path}
use Rattle.cx_state.specs.Places.{row_part, row_below, Spot, spot, elements, root_row}
use Rattle.cx_state.specs.Pointers.{is_dangling, same_array, distance, Parting, parting, parts_at, first_row, is_union_kind, are_members, part_before, or_unspecified, less, apart_from_end, in_two_literals, in_literal, goes_on, in_two_members, is_unspecified, equal}
use Rattle.cx_state.specs.Pointers as pointers
use Rattle.cx_state.specs.Forms.{Knows}
use Rattle.cx_state.proofs.Paths.{and-left, and-right, same_step-refl, same_steps-refl, same_steps-true, same_bool-true, same_path-refl, same_path-true}
use Rattle.cx_state.proofs.PointerLaws.{own, same_array-swap, same_array-refl}
use Rattle.cx_shapes.specs.Forms.{Form, Part, below_of, steps_at}
use Rattle.cx_shapes.proofs.Numbering.{lead_steps}
use Rattle.cx_records.specs.declared.place.Place.{Place}
use Rattle.cx_records.specs.declared.place.End.TheVariants as end
use Rattle.cx_records.specs.declared.record.Record.{Record}
use Rattle.cx_records.specs.Fits.{Fits}
use Rattle.cx_records.specs.Records.{path_in, record_form, forms_in, objects_of}
use Rattle.cx_records.proofs.Checking.{numbered}
use Rattle.cx_records.proofs.Rules.{path_is, the_object}
use Rattle.cx_record_pointers.specs.declared.meet.Meeting.{Meeting}
use Rattle.cx_record_pointers.specs.declared.seat.Seat.{Seat}
use Rattle.cx_record_pointers.specs.Meetings.{meeting_of, before_of, in_members, is_within, Met}
use Rattle.cx_record_pointers.specs.Seats.{IsSeatAt, in_one}
use Rattle.cx_record_pointers.proofs.Meetings.{members_at, parts, within_is}

-- the same steps lead to one part, and one part has only those steps

pub number_steps : (f : Form) (ss us : List Step) (p q : Part) → below_of f ss ≡ Some p → below_of f us ≡ Some q → (p.0 == q.0) ≡ same_steps ss us
number_steps f ss us p q a b = elim (cases_Bool (p.0 == q.0)) as (λ _. (p.0 == q.0) ≡ same_steps ss us) [
  | inl e ↦ (
      let n : p.0 ≡ q.0 = eqb-true p.0 q.0 e in
      let same : ss ≡ us = some_inj ss us (sym (lead_steps p.0 f ss p a (omega arith)) ∙ ap (steps_at f) n ∙ lead_steps q.0 f us q b (omega arith)) in
      e ∙ sym (same_steps-refl ss) ∙ ap (same_steps ss) same)
  | inr e ↦ e ∙ sym (false_from_ne_true (same_steps ss us) (λ h.
      eqb-false p.0 q.0 e (ap (λ (x : Part). x.0) (some_inj p q (sym a ∙ ap (below_of f) (same_steps-true ss us h) ∙ b)))))
]

pub in_one_is : (rs : List Record) (p q : Place) (s u : Seat) → IsSeatAt rs p s → IsSeatAt rs q u → in_one p s q u ≡ same_array (path_in (forms_in rs) p) (path_in (forms_in rs) q)
in_one_is rs p q s u x y = go (p.object == q.object) refl
  where
    a : Spot
    a = spot (path_in (forms_in rs) p)

    b : Spot
    b = spot (path_in (forms_in rs) q)

    go : (c : Bool) → (p.object == q.object) ≡ c → (c && (same_bool s.many u.many && (s.array == u.array))) ≡ (c && same_bool a.many b.many && same_steps a.array b.array)
    go false e = refl
    go true e =
        let same : x.rec ≡ y.rec = some_inj x.rec y.rec (sym x.is_rec ∙ ap (slice_get rs) (eqb-true p.object q.object e) ∙ y.is_rec) in
        let i = x.seat in
        let j = y.seat in
        let m : s.array ≡ i.from = (let z = i.is_array in omega arith) in
        let n : u.array ≡ j.from = (let z = j.is_array in omega arith) in
        ap (λ w. same_bool w u.many && (s.array == u.array)) i.is_many
        ∙ ap (λ w. same_bool a.many w && (s.array == u.array)) j.is_many
        ∙ ap (λ w. same_bool a.many b.many && (w == u.array)) m
        ∙ ap (λ w. same_bool a.many b.many && (i.from == w)) n
        ∙ ap (λ w. same_bool a.many b.many && w) (number_steps (record_form y.rec) a.array b.array (i.from, i.form) (j.from, j.form) (ap (λ (r : Record). below_of (record_form r) a.array) (sym same) ∙ i.leads) j.leads)

-- two places of one array

abbrev steps_of_spot : List Step → Bool → ℕ → List Step
steps_of_spot a many i = if many then a ++ step.Elem i ∷ [] else a

abbrev count_in : Tables → Objects → ℕ → Spot → ℕ
count_in t os o x = if x.many then unwrap_or (option_map (λ (e : ℕ × TypeId). e.0) (option_and_then (λ (r : TypeRow). elements r.kind) (option_and_then (λ r. row_below t r x.array) (option_and_then (root_row t) (slice_get os o))))) 0 else 1

abbrev place_in : Tables → Objects → ℕ → Spot → Path
place_in t os o x = record { object = o; steps = steps_of_spot x.array x.many x.index; past = x.index == count_in t os o x }

abbrev with_index : Spot → ℕ → Spot
with_index x i = record { array = x.array; many = x.many; index = i }

record OneArray (p q : Path) : Type 0 where
  object : p.object ≡ q.object
  spot_is : with_index (spot p) (spot q).index ≡ spot q

one_array : (p q : Path) → same_array p q ≡ true → OneArray p q
one_array p q e =
    let first = and-left ((p.object == q.object) && same_bool (spot p).many (spot q).many) (same_steps (spot p).array (spot q).array) e in
    let many : (spot p).many ≡ (spot q).many = same_bool-true (spot p).many (spot q).many (and-right (p.object == q.object) (same_bool (spot p).many (spot q).many) first) in
    let array : (spot p).array ≡ (spot q).array = same_steps-true (spot p).array (spot q).array (and-right ((p.object == q.object) && same_bool (spot p).many (spot q).many) (same_steps (spot p).array (spot q).array) e) in
    record {
      object = eqb-true p.object q.object (and-left (p.object == q.object) (same_bool (spot p).many (spot q).many) first);
      spot_is = ap (λ a. record { array = a; many = (spot p).many; index = (spot q).index }) array ∙ ap (λ m. record { array = (spot q).array; many = m; index = (spot q).index }) many;
    }

itself : (t : Tables) (os : Objects) (p : Path) → Knows t os p → place_in t os p.object (spot p) ≡ p
itself t os p k = (own t os p k).itself

-- they are one exactly if their indices are
same_index : (t : Tables) (os : Objects) (p q : Path) → Knows t os p → Knows t os q → OneArray p q → same_path p q ≡ ((spot p).index == (spot q).index)
same_index t os p q kp kq w = elim (cases_Bool ((spot p).index == (spot q).index)) as (λ _. same_path p q ≡ ((spot p).index == (spot q).index)) [
  | inl e ↦ (
      let i : spot p ≡ spot q = ap (with_index (spot p)) (eqb-true (spot p).index (spot q).index e) ∙ w.spot_is in
      let same : p ≡ q = sym (itself t os p kp) ∙ ap (λ o. place_in t os o (spot p)) w.object ∙ ap (place_in t os q.object) i ∙ itself t os q kq in
      ap (same_path p) (sym same) ∙ same_path-refl p ∙ sym e)
  | inr e ↦ false_from_ne_true (same_path p q) (λ h. eqb-false (spot p).index (spot q).index e (ap (λ (x : Path). (spot x).index) (same_path-true p q h))) ∙ sym e
]

-- neither is within the other, nor are they in two members of a union

and-false : (a : Bool) → (a && false) ≡ false
and-false true = refl
and-false false = refl

goes_on-elements : (a : List Step) (i j : ℕ) → goes_on (a ++ step.Elem i ∷ []) (a ++ step.Elem j ∷ []) ≡ false
goes_on-elements [] i j = and-false (i == j)
goes_on-elements (s ∷ a) i j = ap (λ b. same_step s s && b) (goes_on-elements a i j) ∙ and-false (same_step s s)

goes_on-itself : (a : List Step) → goes_on a a ≡ false
goes_on-itself [] = refl
goes_on-itself (s ∷ a) = ap (λ b. same_step s s && b) (goes_on-itself a) ∙ and-false (same_step s s)

goes_on-near : (a : List Step) (many : Bool) (i j : ℕ) → goes_on (steps_of_spot a many i) (steps_of_spot a many j) ≡ false
goes_on-near a true i j = goes_on-elements a i j
goes_on-near a false i j = goes_on-itself a

through : (t : Tables) (f : TypeRow → Option Parting) (o : Option TypeRow) → ((q : TypeRow) → members_at t (f q) ≡ false) → members_at t (option_and_then f o) ≡ false
through t f None h = refl
through t f (Some q) h = h q

one_more : (t : Tables) (s : Step) (ss us : List Step) (r : TypeRow) → ((q : TypeRow) → members_at t (parting t q ss us) ≡ false) → members_at t (parting t r (s ∷ ss) (s ∷ us)) ≡ false
one_more t s ss us r h =
    ap (λ b. members_at t (if b then option_and_then (λ (q : TypeRow). parting t q ss us) (row_part t r s) else Some (record { row = r; left = s; right = s }))) (same_step-refl s)
    ∙ through t (λ (q : TypeRow). parting t q ss us) (row_part t r s) h

members-elements : (t : Tables) (a : List Step) (i j : ℕ) (r : TypeRow) → members_at t (parting t r (a ++ step.Elem i ∷ []) (a ++ step.Elem j ∷ [])) ≡ false
members-elements t [] i j r = go (i == j)
  where
    go : (b : Bool) → members_at t (if b then option_and_then (λ (q : TypeRow). parting t q [] []) (row_part t r (step.Elem i)) else Some (record { row = r; left = step.Elem i; right = step.Elem j })) ≡ false
    go true = through t (λ (q : TypeRow). parting t q [] []) (row_part t r (step.Elem i)) (λ q. refl)
    go false = and-false (is_union_kind t r.kind)
members-elements t (s ∷ a) i j r = one_more t s (a ++ step.Elem i ∷ []) (a ++ step.Elem j ∷ []) r (members-elements t a i j)

members-itself : (t : Tables) (a : List Step) (r : TypeRow) → members_at t (parting t r a a) ≡ false
members-itself t [] r = refl
members-itself t (s ∷ a) r = one_more t s a a r (members-itself t a)

members-near : (t : Tables) (a : List Step) (many : Bool) (i j : ℕ) (r : TypeRow) → members_at t (parting t r (steps_of_spot a many i) (steps_of_spot a many j)) ≡ false
members-near t a true i j r = members-elements t a i j r
members-near t a false i j r = members-itself t a r

no_members : (t : Tables) (os : Objects) (p q : Path) → ((r : TypeRow) → members_at t (parting t r p.steps q.steps) ≡ false) → in_two_members t os p q ≡ false
no_members t os p q h = go (p.object == q.object)
  where
    go : (b : Bool) → members_at t (if b then option_and_then (λ r. parting t r p.steps q.steps) (first_row t os p) else None) ≡ false
    go true = through t (λ r. parting t r p.steps q.steps) (first_row t os p) h
    go false = refl

specified : (t : Tables) (os : Objects) (p q : Path) → Knows t os p → Knows t os q → same_array p q ≡ true → is_unspecified t os p q ≡ false
specified t os p q kp kq s =
    let w = one_array p q s in
    let x = spot p in
    let j = (spot q).index in
    let ps : p.steps ≡ steps_of_spot x.array x.many x.index = sym (ap (λ (y : Path). y.steps) (itself t os p kp)) in
    let qs : q.steps ≡ steps_of_spot x.array x.many j = sym (ap (λ (y : Path). y.steps) (itself t os q kq)) ∙ sym (ap (λ (y : Spot). steps_of_spot y.array y.many y.index) w.spot_is) in
    let on : goes_on p.steps q.steps ≡ false = ap (λ l. goes_on l q.steps) ps ∙ ap (goes_on (steps_of_spot x.array x.many x.index)) qs ∙ goes_on-near x.array x.many x.index j in
    let back : goes_on q.steps p.steps ≡ false = ap (λ l. goes_on l p.steps) qs ∙ ap (goes_on (steps_of_spot x.array x.many j)) ps ∙ goes_on-near x.array x.many j x.index in
    let members : (r : TypeRow) → members_at t (parting t r p.steps q.steps) ≡ false = λ r. ap (λ l. members_at t (parting t r l q.steps)) ps ∙ ap (λ l. members_at t (parting t r (steps_of_spot x.array x.many x.index) l)) qs ∙ members-near t x.array x.many x.index j r in
    ap (λ b. p.past && not b || apart_from_end q p || in_two_literals os p q || pointers.is_within p q || in_two_members t os p q) s
    ∙ ap (λ b. b || apart_from_end q p || in_two_literals os p q || pointers.is_within p q || in_two_members t os p q) (and-false p.past)
    ∙ ap (λ b. q.past && not b || in_two_literals os p q || pointers.is_within p q || in_two_members t os p q) (sym (same_array-swap p q) ∙ s)
    ∙ ap (λ b. b || in_two_literals os p q || pointers.is_within p q || in_two_members t os p q) (and-false q.past)
    ∙ ap (λ b. not b && in_literal os p && in_literal os q || pointers.is_within p q || in_two_members t os p q) (eq-eqb p.object q.object w.object)
    ∙ ap (λ b. (p.object == q.object) && (b || goes_on q.steps p.steps) || in_two_members t os p q) on
    ∙ ap (λ b. (p.object == q.object) && b || in_two_members t os p q) back
    ∙ ap (λ b. b || in_two_members t os p q) (and-false (p.object == q.object))
    ∙ no_members t os p q members

if_itself : (b : Bool) → ◌≡◌ {A = Result Bool Rule} (if b then Ok true else Ok false) (Ok b)
if_itself true = refl
if_itself false = refl

pub equal_one : (t : Tables) (os : Objects) (p q : Path) → Knows t os p → Knows t os q → same_array p q ≡ true → equal t os p q ≡ Ok ((spot p).index == (spot q).index)
equal_one t os p q kp kq s =
    ap (λ b. if same_path p q then Ok true else if b then Err rule.UnspecifiedCompare else Ok false) (specified t os p q kp kq s)
    ∙ if_itself (same_path p q)
    ∙ ap Ok (same_index t os p q kp kq (one_array p q s))

-- two places that are in no array together

apart : (p q : Path) → same_array p q ≡ false → same_path p q ≡ false
apart p q s = false_from_ne_true (same_path p q) (λ h. true_false (sym (same_array-refl p) ∙ ap (same_array p) (same_path-true p q h) ∙ s))
  where
    true_false : true ≡ false → ⊥
    true_false e = cc

abbrev pub if_unspecified : Bool → Result Bool Rule
if_unspecified b = if b then Err rule.UnspecifiedCompare else Ok false

equal_if : (t : Tables) (os : Objects) (p q : Path) → same_array p q ≡ false → equal t os p q ≡ if_unspecified (is_unspecified t os p q)
equal_if t os p q s = ap (λ b. if b then Ok true else if_unspecified (is_unspecified t os p q)) (apart p q s)

pub equal_past : (t : Tables) (os : Objects) (p q : Path) → same_array p q ≡ false → p.past ≡ true → equal t os p q ≡ Err rule.UnspecifiedCompare
equal_past t os p q s e =
    equal_if t os p q s
    ∙ ap (λ b. if_unspecified (b && not (same_array p q) || apart_from_end q p || in_two_literals os p q || pointers.is_within p q || in_two_members t os p q)) e
    ∙ ap (λ b. if_unspecified (not b || apart_from_end q p || in_two_literals os p q || pointers.is_within p q || in_two_members t os p q)) s

pub equal_past_second : (t : Tables) (os : Objects) (p q : Path) → same_array p q ≡ false → p.past ≡ false → q.past ≡ true → equal t os p q ≡ Err rule.UnspecifiedCompare
equal_past_second t os p q s e f =
    equal_if t os p q s
    ∙ ap (λ b. if_unspecified (b && not (same_array p q) || apart_from_end q p || in_two_literals os p q || pointers.is_within p q || in_two_members t os p q)) e
    ∙ ap (λ b. if_unspecified (b && not (same_array q p) || in_two_literals os p q || pointers.is_within p q || in_two_members t os p q)) f
    ∙ ap (λ b. if_unspecified (not b || in_two_literals os p q || pointers.is_within p q || in_two_members t os p q)) (sym (same_array-swap p q) ∙ s)

-- the three cases that are left unspecified, of two places neither of which is past an end
pub equal_apart : (t : Tables) (os : Objects) (p q : Path) (l w m : Bool) → same_array p q ≡ false → p.past ≡ false → q.past ≡ false → l ≡ in_two_literals os p q → w ≡ pointers.is_within p q → m ≡ in_two_members t os p q
    → if_unspecified (l || w || m) ≡ equal t os p q
equal_apart t os p q l w m s e f x y z =
    ap (λ b. if_unspecified (b || w || m)) x
    ∙ ap (λ b. if_unspecified (in_two_literals os p q || b || m)) y
    ∙ ap (λ b. if_unspecified (in_two_literals os p q || pointers.is_within p q || b)) z
    ∙ sym (
    equal_if t os p q s
    ∙ ap (λ b. if_unspecified (b && not (same_array p q) || apart_from_end q p || in_two_literals os p q || pointers.is_within p q || in_two_members t os p q)) e
    ∙ ap (λ b. if_unspecified (b && not (same_array q p) || in_two_literals os p q || pointers.is_within p q || in_two_members t os p q)) f
    )

-- order

pub less_one : (t : Tables) (os : Objects) (p q : Path) → is_dangling os p ≡ false → is_dangling os q ≡ false → same_array p q ≡ true → less t os p q ≡ Ok (nat_lt (spot p).index (spot q).index)
less_one t os p q a b s =
    ap (λ c. if c || is_dangling os q then Err rule.Dangling else if same_array p q then Ok (nat_lt (spot p).index (spot q).index) else tail) a
    ∙ ap (λ c. if c then Err rule.Dangling else if same_array p q then Ok (nat_lt (spot p).index (spot q).index) else tail) b
    ∙ ap (λ c. if c then Ok (nat_lt (spot p).index (spot q).index) else tail) s
  where
    tail : Result Bool Rule
    tail = if p.past || q.past then Err rule.UnspecifiedCompare else or_unspecified (option_and_then (part_before t) (parts_at t os p q))

pub less_apart : (t : Tables) (os : Objects) (p q : Path) (c d : Bool) → is_dangling os p ≡ false → is_dangling os q ≡ false → same_array p q ≡ false → p.past ≡ c → q.past ≡ d
    → less t os p q ≡ (if c || d then Err rule.UnspecifiedCompare else or_unspecified (option_and_then (part_before t) (parts_at t os p q)))
less_apart t os p q c d a b s e f =
    ap (λ x. if x || is_dangling os q then Err rule.Dangling else if same_array p q then Ok (nat_lt (spot p).index (spot q).index) else tail p.past q.past) a
    ∙ ap (λ x. if x then Err rule.Dangling else if same_array p q then Ok (nat_lt (spot p).index (spot q).index) else tail p.past q.past) b
    ∙ ap (λ x. if x then Ok (nat_lt (spot p).index (spot q).index) else tail p.past q.past) s
    ∙ ap (λ x. tail x q.past) e
    ∙ ap (tail c) f
  where
    tail : Bool → Bool → Result Bool Rule
    tail x y = if x || y then Err rule.UnspecifiedCompare else or_unspecified (option_and_then (part_before t) (parts_at t os p q))

pub distance_one : (os : Objects) (p q : Path) (one : Bool) → is_dangling os p ≡ false → is_dangling os q ≡ false → same_array p q ≡ one → distance os p q ≡ (if one then Ok (pos (spot p).index -ℤ pos (spot q).index) else Err rule.PointerDistance)
distance_one os p q one a b s =
    ap (λ c. if c || is_dangling os q then Err rule.Dangling else if same_array p q then Ok (pos (spot p).index -ℤ pos (spot q).index) else Err rule.PointerDistance) a
    ∙ ap (λ c. if c then Err rule.Dangling else if same_array p q then Ok (pos (spot p).index -ℤ pos (spot q).index) else Err rule.PointerDistance) b
    ∙ ap (λ c. if c then Ok (pos (spot p).index -ℤ pos (spot q).index) else Err rule.PointerDistance) s

-- two parts of one object

module _ (t : Tables) (rs : List Record) (live : ℕ) (a b : Place) (r : Record) (m : Meeting) (f : Fits t rs live) (ka : Knows t (objects_of rs) (path_in (forms_in rs) a)) (kb : Knows t (objects_of rs) (path_in (forms_in rs) b)) where
  pub met : a.end ≡ end.At → b.end ≡ end.At → a.object ≡ b.object → slice_get rs a.object ≡ Some r
      → ((ss us : List Step) → steps_at (record_form r) a.part ≡ Some ss → steps_at (record_form r) b.part ≡ Some us → m ≡ meeting_of (record_form r) ss us)
      → Met t (objects_of rs) (path_in (forms_in rs) a) (path_in (forms_in rs) b) m
  met ea eb o is_rec h =
      let x = numbered t rs live a f ka in
      let y = numbered t rs live b f kb in
      let rx : x.rec ≡ r = some_inj x.rec r (sym x.is_rec ∙ is_rec) in
      let ry : y.rec ≡ r = some_inj y.rec r (sym y.is_rec ∙ ap (slice_get rs) (sym o) ∙ is_rec) in
      let kept = f.kept a.object r is_rec in
      let form = record_form r in
      let lx : below_of form x.steps ≡ Some (a.part, x.form) = ap (λ (z : Record). below_of (record_form z) x.steps) (sym rx) ∙ x.leads in
      let ly : below_of form y.steps ≡ Some (b.part, y.form) = ap (λ (z : Record). below_of (record_form z) y.steps) (sym ry) ∙ y.leads in
      let is : m ≡ meeting_of form x.steps y.steps =
      h x.steps y.steps (ap (λ (z : Record). steps_at (record_form z) a.part) (sym rx) ∙ x.are_steps) (ap (λ (z : Record). steps_at (record_form z) b.part) (sym ry) ∙ y.are_steps) in
      let w = parts t form kept.row kept.form x.steps y.steps (a.part, x.form) (b.part, y.form) lx ly in
      let e : (a.object == b.object) ≡ true = eq-eqb a.object b.object o in
      let os = objects_of rs in
      let p : Path = record { object = a.object; steps = x.steps; past = false } in
      let q : Path = record { object = b.object; steps = y.steps; past = false } in
      let at : parts_at t os p q ≡ parting t kept.row x.steps y.steps =
      ap (λ c. if c then option_and_then (λ r. parting t r x.steps y.steps) (first_row t os p) else None) e
      ∙ ap (λ z. option_and_then (λ r. parting t r x.steps y.steps) (option_and_then (root_row t) z)) (the_object rs a r is_rec)
      ∙ ap (option_and_then (λ r. parting t r x.steps y.steps)) kept.is_row in
      subst (λ z. Met t os z (path_in (forms_in rs) b) m) (sym (path_is rs a x.rec x.steps x.is_rec ea x.are_steps))
      (subst (λ z. Met t os p z m) (sym (path_is rs b y.rec y.steps y.is_rec eb y.are_steps)) (record {
        is_before = ap before_of is ∙ sym w.is_before ∙ ap (option_and_then (part_before t)) (sym at);
        in_members = ap in_members is ∙ sym w.are_members ∙ ap (members_at t) (sym at);
        within = ap is_within is ∙ within_is form x.steps y.steps (a.part, x.form) (b.part, y.form) lx ly ∙ ap (λ c. c && (goes_on x.steps y.steps || goes_on y.steps x.steps)) (sym e);
      }))
