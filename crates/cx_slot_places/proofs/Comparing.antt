-- What is answered of two places, by how their parts lie to each other.
use Rattle.std.proofs.Common.{◌≡◌, ℕ, ◌==◌, nat_lt, Bool, true, false, true≢false, ◌&&◌, ◌||◌, not, List, [], ◌∷◌, ◌++◌, Option, None, Some, Result, Ok, Err, inl, inr, refl, sym, ap, ◌∙◌, eqb-true, eq-eqb, if◌then◌else◌}
use Rattle.std.proofs.lemmas.Bool.{cases_Bool, eqb-false, false_from_ne_true}
use Rattle.std.specs.Prelude.{option_map, option_and_then, unwrap_or}
use Rattle.cx_base.specs.declared.rule.Rule.{Rule}
use Rattle.cx_base.specs.declared.rule.Rule.TheVariants as rule
use Rattle.cx_type_defs.specs.declared.ids.Step.{Step}
use Rattle.cx_type_defs.specs.declared.ids.Step.TheVariants as step
use Rattle.cx_state.specs.Objects.{Path, same_step, same_steps, same_bool, same_path}
use Rattle.cx_state.specs.Places.{Spot, spot_of, spot}
use Rattle.cx_state.specs.Pointers.{same_array, or_unspecified, apart_from_end, goes_on, is_within}
use Rattle.cx_state.proofs.Spots as spots
use Rattle.cx_state.proofs.Spots.{AtElement, AtSingle}
use Rattle.cx_state.proofs.Paths.{and-left, and-right, same_step-refl, same_step-true, same_step-is, same_steps-true, same_bool-true, same_path-refl, same_path-true}
use Rattle.cx_state.proofs.PointerLaws.{same_array-swap, same_array-refl}
use Rattle.cx_layout.specs.declared.columns.Node.{Node}
use Rattle.cx_layout.specs.declared.place.Place.{Place}
use Rattle.cx_layout.specs.Forms.{Form, Row, Part, further, whole, part_of, below_of, PartsFull}
use Rattle.cx_layout.specs.Places.{Leads}
use Rattle.cx_layout.specs.Described.{Described}
use Rattle.cx_layout.proofs.Placing.{at_part}
use Rattle.cx_layout.proofs.Options.{some_inj, and_then_some, map_some}
use Rattle.cx_slot_places.specs.declared.seat.Seat.{Seat}
use Rattle.cx_slot_places.specs.declared.meet.Fork.{Fork}
use Rattle.cx_slot_places.specs.declared.meet.Meeting.{Meeting}
use Rattle.cx_slot_places.specs.declared.meet.Meeting.TheVariants as meeting
use Rattle.cx_slot_places.specs.Pointers.{path_to, Parted, is_union, parted, comes_before, less_of, are_in_union, equal_of}
use Rattle.cx_slot_places.specs.Walks.{Seats, IsSeat, same_seat, IsFork, IsMeeting, Meets, seen}
use Rattle.cx_slot_places.proofs.Ends.{part_within}
use Rattle.cx_slot_places.proofs.Seating.{same_is}

and_false : (b : Bool) → (b && false) ≡ false
and_false true = refl
and_false false = refl

through : {A : Type 0} (f : Part → Option A) (o : Option Part) → ((p : Part) → f p ≡ None) → option_and_then f o ≡ None
through f None h = refl
through f (Some p) h = h p

-- the meeting of two places past no end
pub met : (ns : List Node) (ks : List ℕ) (f : Form) (d : Described ns ks f) (a b : Place) (x : a.past ≡ false) (y : b.past ≡ false) (ss us : List Step) → Leads f ss a → Leads f us b → (m : Meeting) → Meets f a.node a.slot b.node b.slot m → (slot : ℕ) × IsMeeting f ss us slot m
met ns ks f d a b x y ss us l k m g =
    let p = at_part f ss a x l in
    let q = at_part f us b y k in
    (p.part.slot, g ss us p.part q.part (part_within ns ks f ss a d p) (part_within ns ks f us b d q))

-- what the steps say

more_parted : (s : Step) (ss us : List Step) (f : Form) → ((g : Form) → parted g ss us ≡ None) → parted f (s ∷ ss) (s ∷ us) ≡ None
more_parted s ss us f h =
    ap (λ b. if b then option_and_then (λ (p : Part). parted p.form ss us) (part_of f s) else Some (record { in_union = is_union f; left = s; right = s })) (same_step-refl s)
    ∙ through (λ (p : Part). parted p.form ss us) (part_of f s) (λ p. h p.form)

none_on : (f : Form) (us : List Step) (s : Step) (rest : List Step) → parted f (us ++ s ∷ rest) us ≡ None
none_on f [] s rest = refl
none_on f (u ∷ us) s rest = more_parted u (us ++ s ∷ rest) us f (λ g. none_on g us s rest)

none_back : (f : Form) (us : List Step) (s : Step) (rest : List Step) → parted f us (us ++ s ∷ rest) ≡ None
none_back f [] s rest = refl
none_back f (u ∷ us) s rest = more_parted u us (us ++ s ∷ rest) f (λ g. none_back g us s rest)

none_itself : (f : Form) (us : List Step) → parted f us us ≡ None
none_itself f [] = refl
none_itself f (u ∷ us) = more_parted u us us f (λ g. none_itself g us)

on_goes : (us : List Step) (s : Step) (rest : List Step) → goes_on us (us ++ s ∷ rest) ≡ true
on_goes [] s rest = refl
on_goes (u ∷ us) s rest = ap (λ b. b && goes_on us (us ++ s ∷ rest)) (same_step-refl u) ∙ on_goes us s rest

fork_parts : (f : Form) (both : List Step) (part : Part) (l r : Step) (after others : List Step) → below_of f both ≡ Some part → same_step l r ≡ false → parted f (both ++ l ∷ after) (both ++ r ∷ others) ≡ Some (record { in_union = is_union part.form; left = l; right = r })
fork_parts f [] part l r after others e d =
    ap (λ b. if b then option_and_then (λ (p : Part). parted p.form after others) (part_of f l) else Some (record { in_union = is_union f; left = l; right = r })) d
    ∙ ap (λ (p : Part). Some (record { in_union = is_union p.form; left = l; right = r })) (some_inj (whole f) part e)
fork_parts f (s ∷ both) part l r after others e d =
    let a = and_then_some (λ (p : Part). option_map (further p.node p.slot) (below_of p.form both)) (part_of f s) part e in
    let b = map_some (further a.0.node a.0.slot) (below_of a.0.form both) part a.2 in
    ap (λ c. if c then option_and_then (λ (p : Part). parted p.form (both ++ l ∷ after) (both ++ r ∷ others)) (part_of f s) else Some (record { in_union = is_union f; left = s; right = s })) (same_step-refl s)
    ∙ ap (option_and_then (λ (p : Part). parted p.form (both ++ l ∷ after) (both ++ r ∷ others))) a.1
    ∙ fork_parts a.0.form both b.0 l r after others b.1 d
    ∙ ap (λ (p : Part). Some (record { in_union = is_union p.form; left = l; right = r })) b.2

fork_aside : (both : List Step) (l r : Step) (after others : List Step) → same_step l r ≡ false → goes_on (both ++ l ∷ after) (both ++ r ∷ others) ≡ false
fork_aside [] l r after others d = ap (λ b. b && goes_on after others) d
fork_aside (s ∷ both) l r after others d = ap (λ b. same_step s s && b) (fork_aside both l r after others d) ∙ and_false (same_step s s)

module _ (f : Form) (ss us : List Step) (k : Fork) (w : IsFork f ss us k) where
  fork_is : parted f ss us ≡ Some (seen k)
  fork_is =
      ap (λ l. parted f l us) w.first ∙ ap (parted f (w.both ++ k.left ∷ w.after)) w.second ∙ fork_parts f w.both w.part k.left k.right w.after w.others w.leads w.differ
      ∙ ap (λ b. Some (record { in_union = b; left = k.left; right = k.right })) (sym w.in_union)

  other_way : same_step k.right k.left ≡ false
  other_way = false_from_ne_true (same_step k.right k.left) (λ e. true≢false (sym (same_step-is k.left k.right (sym (same_step-true k.right k.left e))) ∙ w.differ))

  fork_not_within : (goes_on ss us || goes_on us ss) ≡ false
  fork_not_within =
      ap (λ b. b || goes_on us ss) (ap (λ l. goes_on l us) w.first ∙ ap (goes_on (w.both ++ k.left ∷ w.after)) w.second ∙ fork_aside w.both k.left k.right w.after w.others w.differ)
      ∙ ap (λ l. goes_on l ss) w.second ∙ ap (goes_on (w.both ++ k.right ∷ w.others)) w.first ∙ fork_aside w.both k.right k.left w.others w.after other_way

-- a place's steps, by the array that it is in

abbrev steps_of : List Step → Bool → ℕ → List Step
steps_of a many i = if many then a ++ step.Elem i ∷ [] else a

steps_are : (past : Bool) (ss : List Step) → ss ≡ steps_of (spot_of past ss).array (spot_of past ss).many (spot_of past ss).index
steps_are past ss = go (spots.end ss)
  where
    go : spots.End ss → ss ≡ steps_of (spot_of past ss).array (spot_of past ss).many (spot_of past ss).index
    go (AtElement us i e g) = e ∙ sym (ap (λ (x : Spot). steps_of x.array x.many x.index) (g past))
    go (AtSingle g) = sym (ap (λ (x : Spot). steps_of x.array x.many x.index) (g past))

goes_on_elements : (a : List Step) (i j : ℕ) → goes_on (a ++ step.Elem i ∷ []) (a ++ step.Elem j ∷ []) ≡ false
goes_on_elements [] i j = and_false (i == j)
goes_on_elements (s ∷ a) i j = ap (λ b. same_step s s && b) (goes_on_elements a i j) ∙ and_false (same_step s s)

goes_on_itself : (a : List Step) → goes_on a a ≡ false
goes_on_itself [] = refl
goes_on_itself (s ∷ a) = ap (λ b. same_step s s && b) (goes_on_itself a) ∙ and_false (same_step s s)

goes_on_near : (a : List Step) (many : Bool) (i j : ℕ) → goes_on (steps_of a many i) (steps_of a many j) ≡ false
goes_on_near a true i j = goes_on_elements a i j
goes_on_near a false i j = goes_on_itself a

abbrev members_in : Option Parted → Bool
members_in o = unwrap_or (option_map are_in_union o) false

members_elements : (f : Form) (a : List Step) (i j : ℕ) → members_in (parted f (a ++ step.Elem i ∷ []) (a ++ step.Elem j ∷ [])) ≡ false
members_elements f [] i j = go (i == j)
  where
    no : (o : Option Part) → members_in (option_and_then (λ (p : Part). parted p.form [] []) o) ≡ false
    no None = refl
    no (Some p) = refl

    go : (b : Bool) → members_in (if b then option_and_then (λ (p : Part). parted p.form [] []) (part_of f (step.Elem i)) else Some (record { in_union = is_union f; left = step.Elem i; right = step.Elem j })) ≡ false
    go true = no (part_of f (step.Elem i))
    go false = and_false (is_union f)
members_elements f (s ∷ a) i j =
    ap (λ b. members_in (if b then option_and_then (λ (p : Part). parted p.form (a ++ step.Elem i ∷ []) (a ++ step.Elem j ∷ [])) (part_of f s) else Some (record { in_union = is_union f; left = s; right = s }))) (same_step-refl s)
    ∙ go (part_of f s) (λ g. members_elements g a i j)
  where
    go : (o : Option Part) → ((g : Form) → members_in (parted g (a ++ step.Elem i ∷ []) (a ++ step.Elem j ∷ [])) ≡ false) → members_in (option_and_then (λ (p : Part). parted p.form (a ++ step.Elem i ∷ []) (a ++ step.Elem j ∷ [])) o) ≡ false
    go None h = refl
    go (Some p) h = h p.form

members_near : (f : Form) (a : List Step) (many : Bool) (i j : ℕ) → members_in (parted f (steps_of a many i) (steps_of a many j)) ≡ false
members_near f a true i j = members_elements f a i j
members_near f a false i j = ap members_in (none_itself f a)

abbrev unspecified : Form → Path → Path → Bool
unspecified f p q = apart_from_end p q || apart_from_end q p || is_within p q || members_in (parted f p.steps q.steps)

abbrev pub told : Bool → Result Bool Rule
told b = if b then Err rule.UnspecifiedCompare else Ok false

row_inj : (n m : ℕ) (f g : Form) → Row n f ≡ Row m g → n ≡ m
row_inj n m f g e = cc

module _ (f : Form) (full : PartsFull f) (a b : Place) (one : a.block ≡ b.block) (ss us : List Step) (s u : Seat) (g : IsSeat f a (spot (path_to a ss)) s) (h : IsSeat f b (spot (path_to b us)) u) where
  abbrev p : Path
  p = path_to a ss

  abbrev q : Path
  q = path_to b us

  -- in one array

  module _ (is : same_seat s u ≡ true) where
    in_one : same_array p q ≡ true
    in_one = sym (same_is f full a b one ss us s u g h) ∙ is

    first : ((p.object == q.object) && same_bool (spot p).many (spot q).many) ≡ true
    first = and-left ((p.object == q.object) && same_bool (spot p).many (spot q).many) (same_steps (spot p).array (spot q).array) in_one

    many_same : (spot p).many ≡ (spot q).many
    many_same = same_bool-true (spot p).many (spot q).many (and-right (p.object == q.object) (same_bool (spot p).many (spot q).many) first)

    array_same : (spot p).array ≡ (spot q).array
    array_same = same_steps-true (spot p).array (spot q).array (and-right ((p.object == q.object) && same_bool (spot p).many (spot q).many) (same_steps (spot p).array (spot q).array) in_one)

    count_same : s.count ≡ u.count
    count_same = go (spot p).many (spot q).many many_same g.seats h.seats
      where
        same : g.part ≡ h.part
        same = some_inj g.part h.part (sym g.leads ∙ ap (below_of f) array_same ∙ h.leads)

        go : (m n : Bool) → m ≡ n → Seats f m (spot p).array g.part s a.node → Seats f n (spot q).array h.part u b.node → s.count ≡ u.count
        go true true e x y = row_inj s.count u.count x.0 y.0 (sym x.1 ∙ ap (λ (z : Part). z.form) same ∙ y.1)
        go false false e x y = x.0 ∙ sym y.0
        go true false e x y = absurd (true≢false e)
        go false true e x y = absurd (true≢false (sym e))

    second_steps : (i : ℕ) → i ≡ (spot q).index → us ≡ steps_of (spot p).array (spot p).many i
    second_steps i e =
        steps_are b.past us ∙ ap (λ l. steps_of l (spot q).many (spot q).index) (sym array_same) ∙ ap (λ m. steps_of (spot p).array m (spot q).index) (sym many_same) ∙ ap (steps_of (spot p).array (spot p).many) (sym e)

    same_index : same_path p q ≡ (s.index == u.index)
    same_index = elim (cases_Bool (s.index == u.index)) as (λ _. same_path p q ≡ (s.index == u.index)) [
      | inl e ↦ (
          let i : s.index ≡ u.index = eqb-true s.index u.index e in
          let steps : ss ≡ us = steps_are a.past ss ∙ sym (second_steps (spot p).index (sym g.index_is ∙ i ∙ h.index_is)) in
          let past : a.past ≡ b.past = g.past_is ∙ ap (λ n. n == s.count) i ∙ ap (λ n. u.index == n) count_same ∙ sym h.past_is in
          let same : p ≡ q = ap (λ n. record { object = n; steps = ss; past = a.past }) one ∙ ap (λ l. record { object = b.block; steps = l; past = a.past }) steps ∙ ap (λ c. record { object = b.block; steps = us; past = c }) past in
          ap (same_path p) (sym same) ∙ same_path-refl p ∙ sym e)
      | inr e ↦ false_from_ne_true (same_path p q) (λ z. eqb-false s.index u.index e (g.index_is ∙ ap (λ (x : Path). (spot x).index) (same_path-true p q z) ∙ sym h.index_is)) ∙ sym e
    ]

    near : (goes_on ss us || goes_on us ss) ≡ false
    near =
        let x = spot p in
        let j = (spot q).index in
        let e = steps_are a.past ss in
        let w = second_steps j refl in
        ap (λ c. c || goes_on us ss) (ap (λ l. goes_on l us) e ∙ ap (goes_on (steps_of x.array x.many x.index)) w ∙ goes_on_near x.array x.many x.index j)
        ∙ ap (λ l. goes_on l ss) w ∙ ap (goes_on (steps_of x.array x.many j)) e ∙ goes_on_near x.array x.many j x.index

    specified : unspecified f p q ≡ false
    specified =
        let x = spot p in
        let j = (spot q).index in
        let m : members_in (parted f ss us) ≡ false = ap (λ l. members_in (parted f l us)) (steps_are a.past ss) ∙ ap (λ l. members_in (parted f (steps_of x.array x.many x.index) l)) (second_steps j refl) ∙ members_near f x.array x.many x.index j in
        ap (λ c. a.past && not c || apart_from_end q p || is_within p q || members_in (parted f ss us)) in_one
        ∙ ap (λ c. c || apart_from_end q p || is_within p q || members_in (parted f ss us)) (and_false a.past)
        ∙ ap (λ c. b.past && not c || is_within p q || members_in (parted f ss us)) (sym (same_array-swap p q) ∙ in_one)
        ∙ ap (λ c. c || is_within p q || members_in (parted f ss us)) (and_false b.past)
        ∙ ap (λ c. ((p.object == q.object) && c) || members_in (parted f ss us)) near
        ∙ ap (λ c. c || members_in (parted f ss us)) (and_false (p.object == q.object))
        ∙ m

    if_itself : (c : Bool) → ◌≡◌ {A = Result Bool Rule} (if c then Ok true else Ok false) (Ok c)
    if_itself true = refl
    if_itself false = refl

    pub equal_in : Ok (s.index == u.index) ≡ equal_of f p q
    equal_in = sym (ap (λ c. if same_path p q then Ok true else told c) specified ∙ if_itself (same_path p q) ∙ ap Ok same_index)

    pub less_in : Ok (nat_lt s.index u.index) ≡ less_of f p q
    less_in =
        ap (λ i. Ok (nat_lt i u.index)) g.index_is ∙ ap (λ i. Ok (nat_lt (spot p).index i)) h.index_is
        ∙ sym (ap (λ c. if c then Ok (nat_lt (spot p).index (spot q).index) else if p.past || q.past then Err rule.UnspecifiedCompare else or_unspecified (option_and_then comes_before (parted f ss us))) in_one)

  -- in two

  module _ (is : same_seat s u ≡ false) where
    in_two : same_array p q ≡ false
    in_two = sym (same_is f full a b one ss us s u g h) ∙ is

    no_path : same_path p q ≡ false
    no_path = false_from_ne_true (same_path p q) (λ z. true≢false (sym (same_array-refl p) ∙ ap (same_array p) (same_path-true p q z) ∙ in_two))

    equal_if : equal_of f p q ≡ told (unspecified f p q)
    equal_if = ap (λ c. if c then Ok true else told (unspecified f p q)) no_path

    less_if : less_of f p q ≡ (if a.past || b.past then Err rule.UnspecifiedCompare else or_unspecified (option_and_then comes_before (parted f ss us)))
    less_if = ap (λ c. if c then Ok (nat_lt (spot p).index (spot q).index) else if p.past || q.past then Err rule.UnspecifiedCompare else or_unspecified (option_and_then comes_before (parted f ss us))) in_two

    pub equal_past : a.past ≡ true → Err rule.UnspecifiedCompare ≡ equal_of f p q
    equal_past e =
        sym (equal_if
        ∙ ap (λ c. told (c && not (same_array p q) || apart_from_end q p || is_within p q || members_in (parted f ss us))) e
        ∙ ap (λ c. told (not c || apart_from_end q p || is_within p q || members_in (parted f ss us))) in_two)

    pub equal_past_second : b.past ≡ true → Err rule.UnspecifiedCompare ≡ equal_of f p q
    equal_past_second e =
        sym (equal_if
        ∙ ap (λ c. told (apart_from_end p q || c && not (same_array q p) || is_within p q || members_in (parted f ss us))) e
        ∙ ap (λ c. told (apart_from_end p q || not c || is_within p q || members_in (parted f ss us))) (sym (same_array-swap p q) ∙ in_two)
        ∙ go (apart_from_end p q))
      where
        go : (c : Bool) → told (c || true || is_within p q || members_in (parted f ss us)) ≡ Err rule.UnspecifiedCompare
        go true = refl
        go false = refl

    pub less_past : a.past ≡ true → Err rule.UnspecifiedCompare ≡ less_of f p q
    less_past e = sym (less_if ∙ ap (λ c. if c || b.past then Err rule.UnspecifiedCompare else or_unspecified (option_and_then comes_before (parted f ss us))) e)

    pub less_past_second : b.past ≡ true → Err rule.UnspecifiedCompare ≡ less_of f p q
    less_past_second e = sym (less_if ∙ ap (λ c. if a.past || c then Err rule.UnspecifiedCompare else or_unspecified (option_and_then comes_before (parted f ss us))) e ∙ go a.past)
      where
        go : (c : Bool) → (if c || true then Err rule.UnspecifiedCompare else or_unspecified (option_and_then comes_before (parted f ss us))) ≡ Err rule.UnspecifiedCompare
        go true = refl
        go false = refl

    module _ (x : a.past ≡ false) (y : b.past ≡ false) where
      equal_apart : (w m : Bool) → (goes_on ss us || goes_on us ss) ≡ w → members_in (parted f ss us) ≡ m → equal_of f p q ≡ told (w || m)
      equal_apart w m e k =
          equal_if
          ∙ ap (λ c. told (c && not (same_array p q) || apart_from_end q p || is_within p q || members_in (parted f ss us))) x
          ∙ ap (λ c. told (c && not (same_array q p) || is_within p q || members_in (parted f ss us))) y
          ∙ ap (λ c. told ((c && (goes_on ss us || goes_on us ss)) || members_in (parted f ss us))) (eq-eqb a.block b.block one)
          ∙ ap (λ c. told (c || members_in (parted f ss us))) e
          ∙ ap (λ c. told (w || c)) k

      less_apart : (o : Option Parted) → parted f ss us ≡ o → less_of f p q ≡ or_unspecified (option_and_then comes_before o)
      less_apart o e =
          less_if
          ∙ ap (λ c. if c || b.past then Err rule.UnspecifiedCompare else or_unspecified (option_and_then comes_before (parted f ss us))) x
          ∙ ap (λ c. if c then Err rule.UnspecifiedCompare else or_unspecified (option_and_then comes_before (parted f ss us))) y
          ∙ ap (λ o. or_unspecified (option_and_then comes_before o)) e

      pub equal_same : ss ≡ us → Ok true ≡ equal_of f p q
      equal_same e =
          let same : p ≡ q = ap (λ n. record { object = n; steps = ss; past = a.past }) one ∙ ap (λ l. record { object = b.block; steps = l; past = a.past }) e ∙ ap (λ c. record { object = b.block; steps = us; past = c }) (x ∙ sym y) in
          sym (ap (λ c. if c then Ok true else told (unspecified f p q)) (ap (same_path p) (sym same) ∙ same_path-refl p))

      or_true : (c : Bool) → (c || true) ≡ true
      or_true true = refl
      or_true false = refl

      equal_within : (goes_on ss us || goes_on us ss) ≡ true → Err rule.UnspecifiedCompare ≡ equal_of f p q
      equal_within e = sym (equal_apart true (members_in (parted f ss us)) e refl)

      pub equal_fork : (k : Fork) → IsFork f ss us k → told (are_in_union (seen k)) ≡ equal_of f p q
      equal_fork k w = sym (equal_apart false (are_in_union (seen k)) (fork_not_within f ss us k w) (ap members_in (fork_is f ss us k w)))

      pub equal_inner : (t : Step) (rest : List Step) → ss ≡ us ++ t ∷ rest → Err rule.UnspecifiedCompare ≡ equal_of f p q
      equal_inner t rest e = equal_within (ap (λ z. goes_on ss us || z) (ap (goes_on us) e ∙ on_goes us t rest) ∙ or_true (goes_on ss us))

      pub equal_outer : (t : Step) (rest : List Step) → us ≡ ss ++ t ∷ rest → Err rule.UnspecifiedCompare ≡ equal_of f p q
      equal_outer t rest e = equal_within (ap (λ z. z || goes_on us ss) (ap (goes_on ss) e ∙ on_goes ss t rest))

      pub less_fork : (k : Fork) → IsFork f ss us k → or_unspecified (comes_before (seen k)) ≡ less_of f p q
      less_fork k w = sym (less_apart (Some (seen k)) (fork_is f ss us k w))

      less_none : parted f ss us ≡ None → Err rule.UnspecifiedCompare ≡ less_of f p q
      less_none e = sym (less_apart None e)

      pub less_other : (slot : ℕ) (m : Meeting) → IsMeeting f ss us slot m → ((k : Fork) → m ≡ meeting.Apart k → ⊥) → Err rule.UnspecifiedCompare ≡ less_of f p q
      less_other slot (meeting.Same n) e d = less_none (ap (λ l. parted f l us) e.0 ∙ none_itself f us)
      less_other slot (meeting.Apart k) e d = absurd (d k refl)
      less_other slot (meeting.Inner t) e d = less_none (ap (λ l. parted f l us) e.1 ∙ none_on f us t e.0)
      less_other slot (meeting.Outer t) e d = less_none (ap (λ l. parted f ss l) e.1 ∙ none_back f ss t e.0)
