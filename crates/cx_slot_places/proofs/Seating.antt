-- The array that a place is in, and its place there.
use Rattle.std.proofs.Common.{◌≡◌, ℕ, ◌+◌, ◌*◌, ◌-◌, ◌/◌, ◌≤◌, ◌<◌, ◌==◌, nat_lt, Bool, true, false, true≢false, ◌&&◌, List, [], ◌∷◌, ◌++◌, length, Option, None, Some, Result, Ok, Err, inl, inr, refl, sym, ap, subst, ◌∙◌, arith, slice_get, length-append, eqb-true, eq-eqb, ne_eqb, ℤ, pos, negsuc, ◌+ℤ◌, ◌-ℤ◌, nat_le, if◌then◌else◌}
use mir.Val.{bool_byte}
use Rattle.std.proofs.lemmas.Bool.{ltb-true, leb-true, lt-ltb, cases_Bool, eqb-false, false_from_ne_true}
use Rattle.std.proofs.Math.Nat.{mul-le-mul_right}
use Rattle.std.specs.Prelude.{option_map, option_and_then, unwrap_or}
use Rattle.cx_base.specs.declared.rule.Rule.{Rule}
use Rattle.cx_base.specs.declared.rule.Rule.TheVariants as rule
use Rattle.cx_type_defs.specs.declared.ids.Step.{Step}
use Rattle.cx_type_defs.specs.declared.ids.Step.TheVariants as step
use Rattle.cx_state.specs.Objects.{Path, same_bool, same_steps}
use Rattle.cx_state.specs.Places.{Spot, spot_of, spot}
use Rattle.cx_state.specs.Pointers.{at_index, index_within, moved, same_array}
use Rattle.cx_state.proofs.Spots as spots
use Rattle.cx_state.proofs.Spots.{at_element, at_single, spot_of-element, AtElement, AtSingle}
use Rattle.cx_state.proofs.Paths.{same_steps-refl, same_steps-true}
use Rattle.cx_layout.specs.declared.columns.Under.{Under}
use Rattle.cx_layout.specs.declared.columns.Node.{Node}
use Rattle.cx_layout.specs.declared.place.Place.{Place}
use Rattle.cx_layout.specs.Forms.{Form, Row, cells, Part, further, part_of, below_of, PartsFull}
use Rattle.cx_layout.specs.Laid.{kind_of}
use Rattle.cx_layout.specs.Places.{is_index, last_of, place_at, placed, Leads}
use Rattle.cx_layout.specs.Paths.{SameAnswer}
use Rattle.cx_layout.specs.Described.{Described}
use Rattle.cx_layout.specs.Walks.{IsIn, is_element, count_of, is_past_elements}
use Rattle.cx_layout.proofs.Options.{some_inj, if_some}
use Rattle.cx_layout.proofs.Fitting.{below_inside, below_last, next, Last, Nothing, After, last}
use Rattle.cx_layout.proofs.WaysBack.{one_way}
use Rattle.cx_layout.proofs.Placing.{AtPart, at_part, IsListed, last_listed, last_next, place_last}
use Rattle.cx_layout.proofs.Pasts.{no_last, last_is}
use Rattle.cx_layout.proofs.Pathing.{cells_are, parent_there}
use Rattle.cx_layout.proofs.Walking.{Above, Showing, Element, ABase, AMember, in_parent, in_there, node_sum}
use Rattle.cx_slot_places.specs.declared.walk.Next.{Next}
use Rattle.cx_slot_places.specs.declared.seat.Seat.{Seat}
use Rattle.cx_slot_places.specs.Pointers.{path_to, row_count, array_count, added, distance_of}
use Rattle.cx_slot_places.specs.Walks.{Within, stepped_by, Starts, Seats, IsSeat, same_seat}
use Rattle.cx_slot_places.proofs.Walking.{within_in, whole_within, length_within, up, up_within, under_is, many_is, same_cells, up_showing, kind_above, step_is}
use Rattle.cx_slot_places.proofs.Ends.{part_within, here, ending, parent_is, slot_is, count_is}

-- steps that end at no element

-- so the steps end
abbrev pub NoElement : List Step → Type 0
NoElement ss = (init : List Step) (i : ℕ) → ss ≡ init ++ step.Elem i ∷ [] → ⊥

single_spot : (past : Bool) (ss : List Step) → NoElement ss → spot_of past ss ≡ at_single ss past
single_spot past ss n = go (spots.end ss)
  where
    go : spots.End ss → spot_of past ss ≡ at_single ss past
    go (AtElement us i e g) = absurd (n us i e)
    go (AtSingle g) = g past

place_single : (f : Form) (past : Bool) (ss : List Step) → NoElement ss → place_at f past ss ≡ below_of f ss
place_single f past ss n = go ss (last ss) n
  where
    listed : (us : List Step) (u : Step) → NoElement (us ++ u ∷ []) → IsListed u
    listed us (step.Elem i) n = n us i refl
    listed us (step.Base i) n = tt
    listed us (step.Field i) n = tt

    same : (u : Step) → IsListed u → (o : Option Part) → option_and_then (last_next past u) o ≡ option_and_then (next u) o
    same u h None = refl
    same u h (Some p) = ap (option_map (further p.node p.slot)) (last_listed past p.form u h)

    go : (ss : List Step) → Last ss → NoElement ss → place_at f past ss ≡ below_of f ss
    go [] Nothing n = refl
    go (_) (After us u) n = place_last f past us u ∙ same u (listed us u n) (below_of f us) ∙ sym (below_last f us u)

pub byte_is : (b : Bool) → bool_byte b ≡ (if b then 1 else 0)
byte_is true = refl
byte_is false = refl

element_inj : (a b : ℕ) → step.Elem a ≡ step.Elem b → a ≡ b
element_inj a b e = cc

module _ (ns : List Node) (ks : List ℕ) (f : Form) (at : Place) (d : Described ns ks f) (ss : List Step) (l : Leads f ss at) (row : Node) (r : slice_get ns at.node ≡ Some row) where
  -- a part that is no element

  module _ (p : AtPart f ss at) where
    first_no_element : at.node ≡ 0 → NoElement ss
    first_no_element z init i e = no_last init (step.Elem i) (sym (whole_within f at.node at.slot z ss p.part (part_within ns ks f ss at d p)).0 ∙ e)

    other_no_element : is_element row.under.step ≡ false → NoElement ss
    other_no_element z init i e =
        let a = length-append init (step.Elem i ∷ []) in
        let b = ap (length {A = Step}) e in
        let c = length_within f ss p.part p.leads in
        let m = p.node in
        let later : 1 ≤ at.node = omega arith in
        let w = part_within ns ks f ss at d p in
        let u = up ns ks f at.node at.slot d later row r ss p.part w in
        go later w (last_is u.init init u.last_step (step.Elem i) (sym u.are_steps ∙ e)) (up_showing ns ks f at.node at.slot d later row r ss p.part w)
      where
        go : (later : 1 ≤ at.node) (w : Within f at.node at.slot ss p.part) → (up ns ks f at.node at.slot d later row r ss p.part w).last_step ≡ step.Elem i
            → Showing (up ns ks f at.node at.slot d later row r ss p.part w).outer.form (up ns ks f at.node at.slot d later row r ss p.part w).last_step (up ns ks f at.node at.slot d later row r ss p.part w).inner (up ns ks f at.node at.slot d later row r ss p.part w).outer.node → ⊥
        go later w x (Element m g j fe se so sh) = true≢false (sym (ap (λ (u : Under). is_element u.step) (under_is ns ks f at.node at.slot d later row r ss p.part w ∙ sh)) ∙ z)
        go later w x (ABase j se sh) = let y : step.Base j ≡ step.Elem i = sym se ∙ x in absurd (cc)
        go later w x (AMember j se sh) = let y : step.Field j ≡ step.Elem i = sym se ∙ x in absurd (cc)

    abbrev single : Seat
    single = record { node = at.node; start = at.slot; many = false; count = 1; stride = 0; index = if at.past then 1 else 0 }

    single_seat : NoElement ss → IsSeat f at (spot_of at.past ss) single
    single_seat n = subst (λ x. IsSeat f at x single) (sym (single_spot at.past ss n)) (record {
      part = p.part;
      leads = p.leads;
      node_is = sym p.node;
      start_is = sym p.slot;
      many_is = refl;
      index_is = refl;
      within = within at.past;
      past_is = past at.past;
      seats = (refl, refl, sym p.node, λ past. place_single f past ss n ∙ p.leads);
    })
      where
        within : (b : Bool) → (if b then 1 else 0) ≤ 1
        within true = omega arith
        within false = omega arith

        past : (b : Bool) → b ≡ ((if b then 1 else 0) == 1)
        past true = refl
        past false = refl

  and_false : (b : Bool) → (b && false) ≡ false
  and_false true = refl
  and_false false = refl

  pub first_seat : at.node ≡ 0 → IsSeat f at (spot_of at.past ss) (record { node = at.node; start = at.slot; many = false; count = 1; stride = 0; index = if at.past then 1 else 0 })
  first_seat z =
      let n : is_past_elements row at ≡ false = ap (λ n. (at.past && nat_lt 0 n) && is_element row.under.step) z ∙ ap (λ b. b && is_element row.under.step) (and_false at.past) in
      let p = here ns ks f at d ss l row r n in
      single_seat p (first_no_element p z)

  pub other_seat : is_element row.under.step ≡ false → IsSeat f at (spot_of at.past ss) (record { node = at.node; start = at.slot; many = false; count = 1; stride = 0; index = if at.past then 1 else 0 })
  other_seat z =
      let n : is_past_elements row at ≡ false = ap (λ b. (at.past && nat_lt 0 at.node) && b) z ∙ and_false (at.past && nat_lt 0 at.node) in
      let p = here ns ks f at d ss l row r n in
      single_seat p (other_no_element p z)

  -- an element, or the place past the last one

  module _ (later : 1 ≤ at.node) (element : is_element row.under.step ≡ true) (above : Node) (v : slice_get ns row.under.parent ≡ Some above) (count : ℕ) (k : count ≡ count_of above.kind) where
    abbrev seated : ℕ → ℕ → Seat
    seated start index = record { node = row.under.parent; start = start; many = true; count = count; stride = row.cells; index = index }

    pub is_end : at.past ≡ true → is_past_elements row at ≡ true
    is_end z = ap (λ b. (b && nat_lt 0 at.node) && is_element row.under.step) z ∙ ap (λ b. b && is_element row.under.step) (lt-ltb 0 at.node (omega arith)) ∙ element

    pub end_seat : at.past ≡ true → IsSeat f at (spot_of at.past ss) (seated (at.slot - count * row.cells) count)
    end_seat z =
        let e = ending ns ks f at d ss l row r (is_end z) in
        let c = count_is ns ks f at d ss l row r (is_end z) above v count k in
        let m = ap (λ n. n * row.cells) c in
        let s = slot_is ns ks f at d ss l row r (is_end z) in
        subst (λ x. IsSeat f at x (seated (at.slot - count * row.cells) count)) (sym (ap (spot_of at.past) e.are_steps ∙ spot_of-element at.past e.init e.count)) (record {
          part = e.array;
          leads = e.leads;
          node_is = parent_is ns ks f at d ss l row r (is_end z);
          start_is = omega arith;
          many_is = refl;
          index_is = c;
          within = omega arith;
          past_is = z ∙ sym (eq-eqb count count refl);
          seats = (e.element, e.form_is ∙ ap (λ n. Row n e.element) (sym c), cells_are ns ks f at d ss e row r, e.node);
        })

    module _ (z : at.past ≡ false) where
      abbrev p : AtPart f ss at
      p = at_part f ss at z l

      abbrev w : Within f at.node at.slot ss p.part
      w = part_within ns ks f ss at d p

      abbrev o : Above ns ks f ss p.part
      o = up ns ks f at.node at.slot d later row r ss p.part w

      module _ (start : ℕ) (starts : Starts f row.under.parent at.slot start) where
        seated_by : Showing o.outer.form o.last_step o.inner o.outer.node → IsSeat f at (spot_of at.past ss) (seated start ((at.slot - start) / row.cells))
        seated_by (Element m g i fe se so sh) =
            let b = up_within ns ks f at.node at.slot d later row r ss p.part w in
            let us : row.under.step ≡ step.Elem 0 = ap (λ (u : Under). u.step) (under_is ns ks f at.node at.slot d later row r ss p.part w ∙ sh) in
            let x : ◌≡◌ {A = Next} (stepped_by (step.Elem 0) row start at.slot) (record { step = o.last_step; start = p.part.slot }) =
            ap (λ s. stepped_by s row start at.slot) (sym us) ∙ step_is ns ks f at.node at.slot d later row r ss p.part w start starts in
            let index : (at.slot - start) / row.cells ≡ i = element_inj ((at.slot - start) / row.cells) i (ap (λ (n : Next). n.step) x ∙ se) in
            let c : count ≡ m = k ∙ ap count_of (kind_above ns ks f at.node at.slot d later row r ss p.part w above v ∙ ap kind_of fe) in
            let q : part_of (Row m g) (step.Elem i) ≡ Some o.inner = ap (λ h. part_of h (step.Elem i)) (sym fe) ∙ ap (part_of o.outer.form) (sym se) ∙ o.is_inner in
            let y = if_some (nat_lt i m) (record { node = 1; slot = i * cells g; form = g }) o.inner q in
            let lt = ltb-true i m y.0 in
            let one : 1 ≡ o.inner.node = ap (λ (a : Part). a.node) y.1 in
            let sum = node_sum ns ks f at.node at.slot (within_in ns ks f at.node at.slot d ss p.part w) later row r in
            subst (λ x. IsSeat f at x (seated start ((at.slot - start) / row.cells))) (sym (ap (spot_of at.past) (o.are_steps ∙ ap (λ s. o.init ++ s ∷ []) se) ∙ spot_of-element at.past o.init i)) (record {
              part = o.outer;
              leads = o.leads;
              node_is = sym b.node_is;
              start_is = starts o.init o.outer b;
              many_is = refl;
              index_is = index;
              within = omega arith;
              past_is = z ∙ sym (ne_eqb ((at.slot - start) / row.cells) count (λ q. absurd (omega arith)));
              seats = (g, fe ∙ ap (λ n. Row n g) (sym c), many_is ns ks f at.node at.slot d later row r ss p.part w ∙ ap (λ (a : Part). cells a.form) (sym y.1), omega arith);
            })
        seated_by (ABase j se sh) = absurd (true≢false (sym element ∙ ap (λ (u : Under). is_element u.step) (under_is ns ks f at.node at.slot d later row r ss p.part w ∙ sh)))
        seated_by (AMember j se sh) = absurd (true≢false (sym element ∙ ap (λ (u : Under). is_element u.step) (under_is ns ks f at.node at.slot d later row r ss p.part w ∙ sh)))

        pub element_seat : IsSeat f at (spot_of at.past ss) (seated start ((at.slot - start) / row.cells))
        element_seat = seated_by (up_showing ns ks f at.node at.slot d later row r ss p.part w)

        pub start_before : start ≤ at.slot
        start_before = let b = up_within ns ks f at.node at.slot d later row r ss p.part w in let e = starts o.init o.outer b in let x = b.from in omega arith

      pub some_cells : 1 ≤ row.cells
      some_cells =
          let a = many_is ns ks f at.node at.slot d later row r ss p.part w in
          let b = same_cells ns ks f at.node at.slot d later row r ss p.part w in
          let x = w.from in
          let y = w.before later in
          omega arith

      pub parent_in : IsIn ns ks f row.under.parent at.slot
      parent_in = in_parent ns ks f at.node at.slot (within_in ns ks f at.node at.slot d ss p.part w) later row r

  -- the array's node is there
  pub array_there : 1 ≤ at.node → is_element row.under.step ≡ true → row.under.parent < length ns
  array_there later element = elim (cases_Bool at.past) as (λ _. row.under.parent < length ns) [
    | inl z ↦ parent_there ns ks f at d (ss, l) row r (ap (λ b. (b && nat_lt 0 at.node) && is_element row.under.step) z ∙ ap (λ b. b && is_element row.under.step) (lt-ltb 0 at.node (omega arith)) ∙ element)
    | inr z ↦ (
        let p = at_part f ss at z l in
        in_there ns ks f row.under.parent at.slot (in_parent ns ks f at.node at.slot (within_in ns ks f at.node at.slot d ss p.part (part_within ns ks f ss at d p)) later row r))
  ]

-- the place with an index in the array of a seat

abbrev steps_to : Spot → ℕ → List Step
steps_to x i = if x.many then x.array ++ step.Elem i ∷ [] else x.array

end_index : (i n : ℕ) → i ≤ n → is_index (i == n) i n ≡ true
end_index i n l = elim (cases_Bool (i == n)) as (λ _. is_index (i == n) i n ≡ true) [
  | inl e ↦ ap (λ b. if b then i == n else nat_lt i n) e ∙ e
  | inr e ↦ ap (λ b. if b then i == n else nat_lt i n) e ∙ (let m = eqb-false i n e in lt-ltb i n (less m))
]
  where
    less : (i ≡ n → ⊥) → i < n
    less m = omega arith

module _ (f : Form) (at : Place) (x : Spot) (s : Seat) (h : IsSeat f at x s) where
  pub count_of_seat : array_count f x ≡ s.count
  count_of_seat = go x.many h.seats
    where
      go : (m : Bool) → Seats f m x.array h.part s at.node → (if m then unwrap_or (option_map (λ (p : Part). row_count p.form) (below_of f x.array)) 0 else 1) ≡ s.count
      go true g = ap (λ o. unwrap_or (option_map (λ (p : Part). row_count p.form) o) 0) h.leads ∙ ap row_count g.1
      go false g = sym g.0

  pub seat_leads : (block i : ℕ) → i ≤ s.count → Leads f (steps_to x i) (record { block = block; slot = s.start + i * s.stride; node = at.node; past = i == s.count })
  seat_leads block i l = go x.many h.seats
    where
      go : (m : Bool) → Seats f m x.array h.part s at.node → Leads f (if m then x.array ++ step.Elem i ∷ [] else x.array) (record { block = block; slot = s.start + i * s.stride; node = at.node; past = i == s.count })
      go true g =
          let past = i == s.count in
          ap (option_map (placed block past))
          (place_last f past x.array (step.Elem i) ∙ ap (option_and_then (last_next past (step.Elem i))) h.leads
          ∙ ap (λ q. option_map (further h.part.node h.part.slot) (last_of past q (step.Elem i))) g.1
          ∙ ap (λ b. option_map (further h.part.node h.part.slot) (if b then Some (record { node = 1; slot = i * cells g.0; form = g.0 }) else None)) (end_index i s.count l))
          ∙ ap (λ n. Some (record { block = block; slot = n + i * cells g.0; node = h.part.node + 1; past = past })) (sym h.start_is)
          ∙ ap (λ n. Some (record { block = block; slot = s.start + i * n; node = h.part.node + 1; past = past })) (sym g.2)
          ∙ ap (λ n. Some (record { block = block; slot = s.start + i * s.stride; node = n; past = past })) (sym g.3)
      go false g =
          let past = i == s.count in
          let z : h.part.slot ≡ s.start + i * s.stride = (let a = h.start_is in let b : i * s.stride ≡ i * 0 = ap (λ n. i * n) g.1 in omega arith) in
          ap (option_map (placed block past)) (g.3 past)
          ∙ ap (λ n. Some (record { block = block; slot = n; node = h.part.node; past = past })) z
          ∙ ap (λ n. Some (record { block = block; slot = s.start + i * s.stride; node = n; past = past })) (sym g.2)

-- an index that was found is within the count
pub index_small : (n : ℕ) (z : ℤ) (i : ℕ) → index_within n z ≡ Some i → i ≤ n
index_small n (pos k) i e =
    let w = if_some (nat_le k n) k i e in
    let a = leb-true k n w.0 in
    let b = w.1 in
    omega arith
index_small n (negsuc k) i e = absurd (cc)

-- the place is small enough for the numbers of the code
pub slot_small : (f : Form) (at : Place) (x : Spot) (s : Seat) → IsSeat f at x s → (i : ℕ) → i ≤ s.count → s.start + i * s.stride ≤ cells f
slot_small f at x s h i l = go x.many h.seats
  where
    inside : h.part.slot + cells h.part.form ≤ cells f
    inside = (below_inside f x.array h.part h.leads).in_cells

    go : (m : Bool) → Seats f m x.array h.part s at.node → s.start + i * s.stride ≤ cells f
    go true g =
        let a = inside in
        let b : cells h.part.form ≡ s.count * s.stride = ap cells g.1 ∙ ap (λ n. s.count * n) (sym g.2) in
        let c : i * s.stride ≤ s.count * s.stride = mul-le-mul_right s.stride l in
        let e = h.start_is in
        omega arith
    go false g =
        let a = inside in
        let b : i * s.stride ≡ i * 0 = ap (λ n. i * n) g.1 in
        let e = h.start_is in
        omega arith

module _ (f : Form) (at : Place) (ss : List Step) (s : Seat) (h : IsSeat f at (spot (path_to at ss)) s) where
  abbrev moved_to : Option ℕ → Result Path Rule
  moved_to o = unwrap_or (option_map (λ i. Ok (at_index (path_to at ss) s.count i)) o) (Err rule.PointerRange)

  added_as : (by : ℤ) (o : Option ℕ) → index_within s.count (pos s.index +ℤ by) ≡ o → added f (path_to at ss) by ≡ moved_to o
  added_as by o e =
      ap (λ n. moved (path_to at ss) n by) (count_of_seat f at (spot (path_to at ss)) s h)
      ∙ ap (λ i. moved_to (index_within s.count (pos i +ℤ by))) (sym h.index_is)
      ∙ ap moved_to e

  pub adds_none : (by : ℤ) → index_within s.count (pos s.index +ℤ by) ≡ None → SameAnswer f (Err rule.PointerRange) (added f (path_to at ss) by)
  adds_none by e = subst (SameAnswer f (Err rule.PointerRange)) (sym (added_as by None e)) refl

  pub adds : (by : ℤ) (i : ℕ) → i ≤ s.count → index_within s.count (pos s.index +ℤ by) ≡ Some i → SameAnswer f (Ok (record { block = at.block; slot = s.start + i * s.stride; node = at.node; past = i == s.count })) (added f (path_to at ss) by)
  adds by i l e =
      subst (SameAnswer f (Ok (record { block = at.block; slot = s.start + i * s.stride; node = at.node; past = i == s.count }))) (sym (added_as by (Some i) e))
      (record { object = refl; past = refl; leads = seat_leads f at (spot (path_to at ss)) s h at.block i l })

-- two seats

module _ (f : Form) (full : PartsFull f) (a b : Place) (one : a.block ≡ b.block) (ss us : List Step) (s u : Seat) (g : IsSeat f a (spot (path_to a ss)) s) (h : IsSeat f b (spot (path_to b us)) u) where
  abbrev xs : List Step
  xs = (spot (path_to a ss)).array

  abbrev ys : List Step
  ys = (spot (path_to b us)).array

  same_part : ((s.node == u.node) && (s.start == u.start)) ≡ same_steps (spot (path_to a ss)).array (spot (path_to b us)).array
  same_part = elim (cases_Bool (same_steps xs ys)) as (λ _. ((s.node == u.node) && (s.start == u.start)) ≡ same_steps xs ys) [
    | inl e ↦ (
        let w : g.part ≡ h.part = some_inj g.part h.part (sym g.leads ∙ ap (below_of f) (same_steps-true xs ys e) ∙ h.leads) in
        let n : s.node ≡ u.node = g.node_is ∙ ap (λ (p : Part). p.node) w ∙ sym h.node_is in
        let m : s.start ≡ u.start = g.start_is ∙ ap (λ (p : Part). p.slot) w ∙ sym h.start_is in
        ap (λ b. b && (s.start == u.start)) (eq-eqb s.node u.node n) ∙ eq-eqb s.start u.start m ∙ sym e)
    | inr e ↦ false_from_ne_true ((s.node == u.node) && (s.start == u.start)) (λ z.
        let n = eqb-true s.node u.node (left (s.node == u.node) (s.start == u.start) z) in
        let m = eqb-true s.start u.start (right (s.node == u.node) (s.start == u.start) z) in
        let w : xs ≡ ys = one_way f xs ys g.part h.part full g.leads h.leads (sym g.node_is ∙ n ∙ h.node_is) (sym g.start_is ∙ m ∙ h.start_is) in
        true≢false (sym (same_steps-refl ys) ∙ ap (λ zs. same_steps zs ys) (sym w) ∙ e)) ∙ sym e
  ]
    where
      left : (a b : Bool) → (a && b) ≡ true → a ≡ true
      left true b e = refl
      left false b e = absurd (true≢false (sym e))

      right : (a b : Bool) → (a && b) ≡ true → b ≡ true
      right true b e = e
      right false b e = absurd (true≢false (sym e))

  and_assoc : (a b c : Bool) → ((a && b) && c) ≡ (a && (b && c))
  and_assoc true b c = refl
  and_assoc false b c = refl

  pub same_is : same_seat s u ≡ same_array (path_to a ss) (path_to b us)
  same_is =
      and_assoc (same_bool s.many u.many) (s.node == u.node) (s.start == u.start)
      ∙ ap (λ c. same_bool s.many u.many && c) same_part
      ∙ ap (λ m. same_bool m u.many && same_steps (spot (path_to a ss)).array (spot (path_to b us)).array) g.many_is
      ∙ ap (λ m. same_bool (spot (path_to a ss)).many m && same_steps (spot (path_to a ss)).array (spot (path_to b us)).array) h.many_is
      ∙ sym (ap (λ c. c && same_bool (spot (path_to a ss)).many (spot (path_to b us)).many && same_steps (spot (path_to a ss)).array (spot (path_to b us)).array) (eq-eqb a.block b.block one))

  pub distance_in : same_seat s u ≡ true → Ok (pos s.index -ℤ pos u.index) ≡ distance_of (path_to a ss) (path_to b us)
  distance_in e =
      ap (λ i. Ok (pos i -ℤ pos u.index)) g.index_is ∙ ap (λ i. Ok (pos (spot (path_to a ss)).index -ℤ pos i)) h.index_is
      ∙ sym (ap (λ c. if c then Ok (pos (spot (path_to a ss)).index -ℤ pos (spot (path_to b us)).index) else Err rule.PointerDistance) (sym same_is ∙ e))

  pub distance_apart : same_seat s u ≡ false → Err rule.PointerDistance ≡ distance_of (path_to a ss) (path_to b us)
  distance_apart e = sym (ap (λ c. if c then Ok (pos (spot (path_to a ss)).index -ℤ pos (spot (path_to b us)).index) else Err rule.PointerDistance) (sym same_is ∙ e))
