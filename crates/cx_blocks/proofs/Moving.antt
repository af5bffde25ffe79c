-- From a known place to others of its block.
use Rattle.std.proofs.Common.{◌≡◌, ℕ, ◌+◌, ◌<◌, ◌≤◌, Bool, true, false, List, [], ◌∷◌, ◌++◌, length, Option, None, Some, Ok, Err, refl, sym, ap, subst, ◌∙◌, slice_get, if◌then◌else◌}
use Rattle.std.specs.Prelude.{Result, IfOk, option_map, option_and_then, is_some}
use Rattle.std.specs.List.{find}
use Rattle.cx_base.specs.declared.rule.Rule.{Rule}
use Rattle.cx_base.specs.declared.rule.Rule.TheVariants as rule
use Rattle.cx_type_defs.specs.declared.ids.Step.{Step}
use Rattle.cx_type_defs.specs.declared.ids.Step.TheVariants as step
use Rattle.cx_type_defs.specs.declared.ids.TypeId.{TypeId}
use Rattle.cx_type_defs.specs.declared.ids.ClassId.{ClassId}
use Rattle.cx_type_defs.specs.declared.kind.TypeRow.{TypeRow}
use Rattle.cx_type_defs.specs.declared.kind.TypeKind.{TypeKind}
use Rattle.cx_type_defs.specs.declared.kind.TypeKind.TheVariants as kind
use Rattle.cx_type_defs.specs.Tables.{Tables}
use Rattle.cx_type_defs.specs.Questions.{OfType, is_complete}
use Rattle.cx_type_defs.specs.Sound.{Sound}
use Rattle.cx_state.specs.Objects.{Path, Object, Objects}
use Rattle.cx_state.specs.Places.{row_of, row_part, elements, is_place}
use Rattle.cx_state.specs.Conditions as on
use Rattle.cx_state.specs.Steps as steps
use Rattle.cx_state.specs.Steps.{unless, deeper, ends_at}
use Rattle.cx_state.specs.Forms.{Knows}
use Rattle.cx_state.proofs.Complete.{is_some-true}
use Rattle.cx_state.proofs.Known.{part-row, to_elem-knows, unless-ok}
use Rattle.cx_store.specs.Stores.{IsOf, IsUpTo, HasElem, result_seen}
use Rattle.cx_layout.specs.declared.columns.Descriptor.{Descriptor}
use Rattle.cx_layout.specs.declared.place.Place.{Place}
use Rattle.cx_layout.specs.Forms.{Form, Row, Part, PartsFull, Full}
use Rattle.cx_layout.specs.TypeForms.{object_of, object_form, form_in}
use Rattle.cx_layout.specs.Places.{Leads, IsPlace, HasStep, OneStep, place_at, placed, place_of, or_else}
use Rattle.cx_layout.specs.Paths.{Stands, Tells, SameAnswer, stepped}
use Rattle.cx_layout.specs.Described.{form_at}
use Rattle.cx_layout.proofs.Options.{some_inj, map_some}
use Rattle.cx_layout.proofs.WaysBack.{full_parts}
use Rattle.cx_layout.proofs.Complete.{form_told}
use Rattle.cx_layout.proofs.Forming.{type_known}
use Rattle.cx_layout.proofs.Agreeing.{Has}
use Rattle.cx_layout.proofs.Onward.{same_places}
use Rattle.cx_slot_places.specs.Lives as places
use Rattle.cx_blocks.specs.declared.block.Block.{Block}
use Rattle.cx_blocks.specs.Paths.{steps_to}
use Rattle.cx_blocks.specs.Seen.{paths_in, object_in, objects_in}
use Rattle.cx_blocks.specs.Fits.{AllKnown, Fits}
use Rattle.cx_blocks.proofs.Objects.{the_object, steps_in}
use Rattle.cx_blocks.proofs.Leading.{steps_are}
use Rattle.cx_blocks.proofs.Reaching.{steps_lead, Reached, reached}

full_object : (n : Option ℕ) (f : Form) → Full f → PartsFull (object_of n f)
full_object None f h = full_parts f h
full_object (Some n) f h = h

-- no part of an object's form is an empty array
pub form_full : (t : Tables) (sound : Sound t) (ty : TypeId) (n : Option ℕ) (f : Form) → is_complete t ty ≡ true → object_form t ty n ≡ Some f → PartsFull f
unfolding object_form
form_full t sound ty n f c e =
    let w = form_told t ty sound c in
    let same : object_of n w.form ≡ f = some_inj (object_of n w.form) f (sym (ap (option_map (object_of n)) w.is_form) ∙ e) in
    subst PartsFull same (full_object n w.form w.full)

abbrev pub part_rule : Bool → Bool → Option Rule
part_rule released past = if released then Some rule.Dangling else if past then Some rule.PastEnd else None

module _ (t : Tables) (ds : List Descriptor) (bs : List Block) (at : Place) (b : Block) (is_block : slice_get bs at.block ≡ Some b) where
  abbrev os : Objects
  os = objects_in ds bs

  abbrev p : Path
  p = paths_in ds bs at

  abbrev o : Object
  o = object_in (paths_in ds bs) ds b

  abbrev f : Form
  f = form_at ds b.desc

  -- one step more, or a rule
  pub step_rule : on.broken t os p on.Part ≡ part_rule b.released at.past
  step_rule = ap (option_and_then (λ (o : Object). find (on.holds t o p on.Part) (on.order on.Part))) (the_object ds bs at.block b is_block)

  pub step_dangles : (q : Path) → b.released ≡ true → unless (on.broken t os p on.Part) q ≡ Err rule.Dangling
  step_dangles q e = ap (λ r. unless r q) (step_rule ∙ ap (λ x. part_rule x at.past) e)

  pub outer_dangles : (c : ClassId) (q : Path) → b.released ≡ true → unless (on.broken t os p (on.Outer c)) q ≡ Err rule.Dangling
  outer_dangles c q e =
      ap (λ r. unless r q)
      (ap (option_and_then (λ (o : Object). find (on.holds t o p (on.Outer c)) (on.order (on.Outer c)))) (the_object ds bs at.block b is_block)
      ∙ ap (λ x. if x then Some rule.Dangling else find (on.holds t o p (on.Outer c)) (rule.PastEnd ∷ rule.DownCast ∷ [])) e)

  module _ (sound : Sound t) (live : ℕ) (fits : Fits t ds bs live) where
    full : PartsFull f
    full = form_full t sound b.ty b.length f (fits.fit at.block o (the_object ds bs at.block b is_block)).complete (fits.each at.block b is_block).form

    -- a place of the block has the path to whose end its steps lead
    pub path_of : (to : Place) (q : Path) → to.block ≡ at.block → Tells f to q → paths_in ds bs to ≡ q
    path_of to q e w =
        let here : slice_get bs to.block ≡ Some b = ap (slice_get bs) e ∙ is_block in
        let s = steps_in ds bs to b here ∙ steps_are f to q.steps w.leads full in
        ap (λ us. record { object = to.block; steps = us; past = to.past }) s
        ∙ ap (λ n. record { object = n; steps = q.steps; past = to.past }) (sym w.object) ∙ ap (λ m. record { object = q.object; steps = q.steps; past = m }) (sym w.past)

    module _ (alive : b.released ≡ false) where
      pub standing : (n : ℕ) → n ≡ at.block → Stands t os n f
      standing n e = record { object = o; is_there = ap (slice_get os) e ∙ the_object ds bs at.block b is_block; unreleased = alive; form_is = (fits.each at.block b is_block).form }

      pub place_known : (to : Place) (q : Path) → q.object ≡ at.block → Tells f to q → Knows t os q
      place_known to q e w =
          let m = map_some (placed to.block to.past) (place_at f to.past q.steps) to w.leads in
          same_places t sound os f q (standing q.object e) ∙ ap (λ b. is_some (place_at f b q.steps)) w.past ∙ ap is_some m.1

      -- an answer that is a place, or a rule, is that of the definitions
      pub record Answers (answer : Result Place Rule) (r : Result Path Rule) : Type 0 where
        pub gives : result_seen (paths_in ds bs) answer ≡ r
        pub known : IfOk answer (λ to. Knows t os (paths_in ds bs to))

      pub answers : (answer : Result Place Rule) (r : Result Path Rule) → ((q : Path) → r ≡ Ok q → q.object ≡ at.block) → SameAnswer f answer r → Answers answer r
      answers (Ok to) (Ok q) h w =
          let e = h q refl in
          let s = path_of to q (sym w.object ∙ e) w in
          record { gives = ap Ok s; known = subst (Knows t os) (sym s) (place_known to q e w) }
      answers (Err e) (Err r) h w = record { gives = ap Err w; known = tt }
      answers (Ok to) (Err r) h w = absurd w
      answers (Err e) (Ok q) h w = absurd w

      -- the class that decides, and the place of its object
      pub record Decided (answer : Result (ClassId × Place) Rule) (r : Result (Option (ClassId × List Step)) Rule) : Type 0 where
        pub gives : result_seen (λ (x : ClassId × Place). Some (x.0, paths_in ds bs x.1)) answer ≡ places.placed p r
        pub known : IfOk answer (λ x. Knows t os (paths_in ds bs x.1))

      pub decided : (answer : Result (ClassId × Place) Rule) (r : Result (Option (ClassId × List Step)) Rule) → places.Tells f at.block answer r → Decided answer r
      decided (Ok x) (Ok (Some y)) w =
          let q = steps.whole_path p y.1 in
          let tell : Tells f x.1 q = record { object = sym w.3; past = sym w.2; leads = w.1 } in
          let s = path_of x.1 q w.3 tell in
          record {
            gives = ap (λ c. Ok (Some (c, paths_in ds bs x.1))) w.0 ∙ ap (λ q. Ok (Some (y.0, q))) s;
            known = subst (Knows t os) (sym s) (place_known x.1 q refl tell);
          }
      decided (Err e) (Err r) w = record { gives = ap Err w; known = tt }
      decided (Ok x) (Ok None) w = absurd w
      decided (Ok x) (Err r) w = absurd w
      decided (Err e) (Ok y) w = absurd w

      -- a step to a place that there is can be taken
      module _ (known : AllKnown ds bs) (k : Knows t os p) where
        pub tells : Tells f at p
        tells = record { object = refl; past = refl; leads = steps_lead t ds bs known at b is_block k }

        pub is_here : IsPlace f at
        is_here = (p.steps, steps_lead t ds bs known at b is_block k)

        pub can_step : (s : Step) (m : Bool) → is_place t os (deeper p s m) ≡ true → HasStep f at s
        can_step s m e =
            let a = is_some-true (place_at f m (p.steps ++ s ∷ [])) (sym (same_places t sound os f (deeper p s m) (standing at.block refl)) ∙ e) in
            let w = go m (place_at f false (p.steps ++ s ∷ [])) (place_at f true (p.steps ++ s ∷ [])) refl refl a.0 a.1 in
            (p.steps, w.0, steps_lead t ds bs known at b is_block k, w.1)
          where
            go : (m : Bool) (x y : Option Part) → place_at f false (p.steps ++ s ∷ []) ≡ x → place_at f true (p.steps ++ s ∷ []) ≡ y → (a : Part) → place_at f m (p.steps ++ s ∷ []) ≡ Some a → (to : Place) × (place_of f at.block (p.steps ++ s ∷ []) ≡ Some to)
            go m (Some z) y ex ey a e = (placed at.block false z, ap (λ o. or_else (option_map (placed at.block false) o) (option_map (placed at.block true) (place_at f true (p.steps ++ s ∷ [])))) ex)
            go true None y ex ey a e =
                (placed at.block true a, ap (λ o. or_else (option_map (placed at.block false) o) (option_map (placed at.block true) (place_at f true (p.steps ++ s ∷ [])))) ex ∙ ap (λ o. option_map (placed at.block true) o) e)
            go false None y ex ey a e = let w = sym ex ∙ e in absurd (cc)

        module _ (here : at.past ≡ false) where
          abbrev there : Reached t ds bs known at b is_block k sound live fits here
          there = reached t ds bs known at b is_block k sound live fits here

          pub can_part : (s : Step) → IsOf (λ r. is_some (row_part t r s) ≡ true) (row_of t os p) → HasStep f at s
          can_part s h =
              let y : is_some (row_part t there.row s) ≡ true = subst (IsOf (λ r. is_some (row_part t r s) ≡ true)) there.is_row h in
              can_step s false (ap is_some (part-row t os p s there.row here there.is_row) ∙ y)

          pub can_elem : (i : ℕ) → HasElem t os p i → HasStep f at (step.Elem i)
          can_elem i h =
              let y : IsUpTo i (elements there.row.kind) = subst (IsOf (λ r. IsUpTo i (elements r.kind))) there.is_row h in
              let w = array_of there.row.kind refl y in
              let rows = of_known w.0 w.1 w.2 in
              let ok : steps.to_elem t os p i ≡ Ok (deeper p (step.Elem i) (ends_at i (row_of t os p))) = ap (λ r. unless r (deeper p (step.Elem i) (ends_at i (row_of t os p)))) (step_rule ∙ ap (λ x. part_rule x at.past) alive ∙ ap (part_rule false) here) in
              can_step (step.Elem i) (ends_at i (row_of t os p)) (to_elem-knows t os p (deeper p (step.Elem i) (ends_at i (row_of t os p))) i there.row w.1 w.0 there.is_row w.2 rows w.3 ok)
            where
              array_of : (q : TypeKind) → there.row.kind ≡ q → IsUpTo i (elements q) → (n : ℕ) × (of : TypeId) × (there.row.kind ≡ kind.Array of n) × (i ≤ n)
              array_of (kind.Array of n) e u = (n, of, e, u)
              array_of kind.Void e u = absurd u
              array_of kind.Nullptr e u = absurd u
              array_of (kind.Int x) e u = absurd u
              array_of (kind.Enum x) e u = absurd u
              array_of (kind.Pointer x) e u = absurd u
              array_of (kind.Reference x) e u = absurd u
              array_of (kind.Class c) e u = absurd u

              of_known : (n : ℕ) (of : TypeId) → there.row.kind ≡ kind.Array of n → of.0 < length t.rows
              of_known n of e =
                  let h = subst (λ q. Has t sound q there.part.form) e there.has in
                  let a = map_some (Row n) (form_in t h.0 (OfType of)) there.part.form h.1 in
                  type_known t h.0 of a.0 a.1

-- a step's path is of the same object
pub step_object : (r : Option Rule) (p : Path) (s : Step) (m : Bool) (q : Path) → unless r (deeper p s m) ≡ Ok q → q.object ≡ p.object
step_object r p s m q e = ap (λ (x : Path). x.object) (sym (unless-ok r (deeper p s m) q e).1)

pub whole_object : (r : Option Rule) (p : Path) (ss : List Step) (q : Path) → unless r (steps.whole_path p ss) ≡ Ok q → q.object ≡ p.object
whole_object r p ss q e = ap (λ (x : Path). x.object) (sym (unless-ok r (steps.whole_path p ss) q e).1)
