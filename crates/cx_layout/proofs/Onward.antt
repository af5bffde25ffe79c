-- The places of a form are those of the definitions of objects, and both are led on by the same steps.
use Rattle.std.proofs.Common.{◌≡◌, ℕ, ◌*◌, ◌==◌, nat_lt, Bool, true, false, List, [], ◌∷◌, ◌++◌, reverse, Option, None, Some, inl, inr, refl, sym, ap, subst, ◌∙◌, slice_get, if◌then◌else◌, eqb-true, eq-eqb}
use Rattle.std.proofs.lemmas.Bool.{cases_Bool}
use Rattle.std.specs.Prelude.{not, is_some, unwrap_or, option_map, option_and_then, Result, Ok, Err}
use Rattle.std.specs.List.{find}
use Rattle.cx_base.specs.declared.rule.Rule.{Rule}
use Rattle.cx_base.specs.declared.rule.Rule.TheVariants as rule
use Rattle.cx_type_defs.specs.declared.ids.Step.{Step}
use Rattle.cx_type_defs.specs.declared.ids.Step.TheVariants as step
use Rattle.cx_type_defs.specs.declared.ids.TypeId.{TypeId}
use Rattle.cx_type_defs.specs.declared.ids.ClassId.{ClassId}
use Rattle.cx_type_defs.specs.declared.kind.TypeRow.{TypeRow}
use Rattle.cx_type_defs.specs.declared.kind.TypeKind.{TypeKind}
use Rattle.cx_type_defs.specs.declared.kind.TypeKind.TheVariants as kind
use Rattle.cx_type_defs.specs.declared.decl.ClassDecl.{ClassDecl}
use Rattle.cx_type_defs.specs.Tables.{Tables}
use Rattle.cx_type_defs.specs.Questions.{OfType}
use Rattle.cx_type_defs.specs.Sound.{Sound}
use Rattle.cx_state.specs.Objects.{Path, Object, Objects}
use Rattle.cx_state.specs.Places.{element, row_below, root_row, under, spot_of, spot, elements, index_row, spot_row, row_of, is_place}
use Rattle.cx_state.specs.Conditions.{Part as OnPart, Outer as OnOuter, enclosing, outer_in, holds, order, broken}
use Rattle.cx_state.specs.Steps.{unless, deeper, ends_at, whole_path, outer}
use Rattle.cx_state.proofs.Spots.{and_then-Some, at_single, spot_of-element}
use Rattle.cx_layout.specs.declared.place.Place.{Place}
use Rattle.cx_layout.specs.Forms.{Form, Leaf, Row, cells, Part, further, below_of}
use Rattle.cx_layout.specs.TypeForms.{is_union, base_parts, member_parts, each_form, body_form, kind_form, form_in}
use Rattle.cx_layout.specs.Places.{Leads, OneStep, last_of, place_at, placed, or_else, place_of, form_class, class_at, is_class, nearest, or_down_cast, outer_answer}
use Rattle.cx_layout.specs.Paths.{Stands, Tells, SameAnswer, stepped}
use Rattle.cx_layout.proofs.Options.{some_inj, and_then_some, map_some}
use Rattle.cx_layout.proofs.Forming.{with_some}
use Rattle.cx_layout.proofs.Fitting.{Last, Nothing, After, last, next, below_last}
use Rattle.cx_layout.proofs.Placing.{IsListed, last_listed, last_next, place_last, place_here, AtPart, at_part, place_of_last, listed_place, element_place}
use Rattle.cx_layout.proofs.Agreeing.{Has, Both, both_by, both_further, type_has, below_both, root_has, nearest_is_outer}

-- a place that was found is the one that the steps lead to
pub found_leads : (f : Form) (b : ℕ) (ss : List Step) (to : Place) → place_of f b ss ≡ Some to → Leads f ss to × (to.block ≡ b)
found_leads f b ss to e = go (place_at f false ss) (place_at f true ss) refl refl e
  where
    is_it : (past : Bool) (q : Part) → place_at f past ss ≡ Some q → placed b past q ≡ to → Leads f ss to × (to.block ≡ b)
    is_it past q z w = subst (λ (x : Place). Leads f ss x × (x.block ≡ b)) w (ap (option_map (placed b past)) z, refl)

    go : (x y : Option Part) → place_at f false ss ≡ x → place_at f true ss ≡ y → or_else (option_map (placed b false) x) (option_map (placed b true) y) ≡ Some to → Leads f ss to × (to.block ≡ b)
    go (Some q) y h k e = is_it false q h (some_inj (placed b false q) to e)
    go None (Some q) h k e = is_it true q k (some_inj (placed b true q) to e)
    go None None h k e = absurd (cc)

-- how steps that end at no element are in an array
spot_single : (past : Bool) (us : List Step) (s : Step) → IsListed s → spot_of past (us ++ s ∷ []) ≡ at_single (us ++ s ∷ []) past
spot_single past [] (step.Base i) h = refl
spot_single past [] (step.Field i) h = refl
spot_single past [] (step.Elem i) h = absurd h
spot_single past (step.Elem k ∷ []) s h = ap (under (step.Elem k)) (spot_single past [] s h)
spot_single past (t ∷ us) s h = ap (under t) (spot_single past us s h)

place_listed : (past : Bool) (g : Form) (us : List Step) (s : Step) → IsListed s → place_at g past (us ++ s ∷ []) ≡ below_of g (us ++ s ∷ [])
place_listed past g us s h = place_last g past us s ∙ go (below_of g us) ∙ sym (below_last g us s)
  where
    go : (o : Option Part) → option_and_then (last_next past s) o ≡ option_and_then (next s) o
    go None = refl
    go (Some p) = ap (option_map (further p.node p.slot)) (last_listed past p.form s h)

find_holds : {A : Type 0} (test : A → Bool) (xs : List A) (x : A) → find test xs ≡ Some x → test x ≡ true
find_holds test [] x e = absurd (cc)
find_holds test (y ∷ ys) x e = go (test y) refl (find_holds test ys x) e
  where
    go : (b : Bool) → test y ≡ b → (find test ys ≡ Some x → test x ≡ true) → (if b then Some y else find test ys) ≡ Some x → test x ≡ true
    go true h later e = ap test (sym (some_inj y x e)) ∙ h
    go false h later e = later e

part_there : (c : ClassId) (o : Option Part) → is_class c (option_and_then (λ (p : Part). form_class p.form) o) ≡ true → (q : Part) × (o ≡ Some q)
part_there c None e = absurd (cc)
part_there c (Some q) e = (q, refl)

equal_swap : (a b : ℕ) → (a == b) ≡ (b == a)
equal_swap a b = elim (cases_Bool (a == b)) as (λ _. (a == b) ≡ (b == a)) [
  | inl h ↦ h ∙ sym (eq-eqb b a (sym (eqb-true a b h)))
  | inr h ↦ elim (cases_Bool (b == a)) as (λ _. (a == b) ≡ (b == a)) [ inl k ↦ eq-eqb a b (sym (eqb-true b a k)) ∙ sym k | inr k ↦ h ∙ sym k ]
]

module _ (t : Tables) (sound : Sound t) where
  -- an element, or the place past the last one

  abbrev indexed : Bool → ℕ → Bool → TypeKind → Option TypeRow
  indexed past i konst k = option_and_then (λ (e : ℕ × TypeId). if (if past then i == e.0 else nat_lt i e.0) then option_map (element konst) (slice_get t.rows e.1.0) else None) (elements k)

  module _ (past : Bool) (i : ℕ) (konst : Bool) where
    leaf_index : (k : TypeKind) (g : Form) → Leaf ≡ g → indexed past i konst k ≡ None → Both t sound (indexed past i konst k) (last_of past g (step.Elem i))
    leaf_index k g e h = subst (λ (f : Form). Both t sound (indexed past i konst k) (last_of past f (step.Elem i))) e (both_by t sound (indexed past i konst k) None None None h refl tt)

    index_both : (m : ℕ) (k : TypeKind) (g : Form) → kind_form t (form_in t m) k ≡ Some g → Both t sound (indexed past i konst k) (last_of past g (step.Elem i))
    index_both m kind.Void g e = absurd (cc)
    index_both m kind.Nullptr g e = leaf_index kind.Nullptr g (some_inj Leaf g e) refl
    index_both m (kind.Int x) g e = leaf_index (kind.Int x) g (some_inj Leaf g e) refl
    index_both m (kind.Enum x) g e = leaf_index (kind.Enum x) g (some_inj Leaf g e) refl
    index_both m (kind.Pointer x) g e = leaf_index (kind.Pointer x) g (some_inj Leaf g e) refl
    index_both m (kind.Reference x) g e = leaf_index (kind.Reference x) g (some_inj Leaf g e) refl
    index_both m (kind.Array of n) g e =
        let a = map_some (Row n) (form_in t m (OfType of)) g e in
        let r = type_has t sound m of a.0 a.1 in
        subst (λ (f : Form). Both t sound (indexed past i konst (kind.Array of n)) (last_of past f (step.Elem i))) a.2 (go a.0 r.0 r.1 r.2 (if past then i == n else nat_lt i n))
      where
        go : (f : Form) (r : TypeRow) → slice_get t.rows of.0 ≡ Some r → Has t sound r.kind f → (b : Bool) → Both t sound (if b then option_map (element konst) (slice_get t.rows of.0) else None) (if b then Some (record { node = 1; slot = i * cells f; form = f }) else None)
        go f r z h true = both_by t sound (option_map (element konst) (slice_get t.rows of.0)) (Some (element konst r)) (Some (record { node = 1; slot = i * cells f; form = f })) (Some (record { node = 1; slot = i * cells f; form = f })) (ap (option_map (element konst)) z) refl h
        go f r z h false = tt
    index_both m (kind.Class c) g e =
        let a = and_then_some (λ (d : ClassDecl). option_and_then (body_form (form_in t m) c d.key) d.body) (slice_get t.classes c.0) g e in
        let b = and_then_some (body_form (form_in t m) c a.0.key) a.0.body g a.2 in
        let w = with_some c (is_union a.0.key) (each_form (form_in t m) (base_parts a.0.key b.0)) (each_form (form_in t m) (member_parts b.0)) g b.2 in
        subst (λ (f : Form). Both t sound None (last_of past f (step.Elem i))) w.4 tt

  -- what steps lead to, with a mark or without
  place_both : (past : Bool) (ss : List Step) (r : TypeRow) (g : Form) → Has t sound r.kind g → Both t sound (spot_row t past (spot_of past ss) r) (place_at g past ss)
  place_both past ss r g h = go ss (last ss)
    where
      listed : (us : List Step) (s : Step) → IsListed s → Both t sound (spot_row t past (spot_of past (us ++ s ∷ [])) r) (place_at g past (us ++ s ∷ []))
      listed us s l =
          both_by t sound (spot_row t past (spot_of past (us ++ s ∷ [])) r) (row_below t r (us ++ s ∷ [])) (place_at g past (us ++ s ∷ [])) (below_of g (us ++ s ∷ []))
          (ap (λ x. spot_row t past x r) (spot_single past us s l) ∙ and_then-Some (row_below t r (us ++ s ∷ []))) (place_listed past g us s l) (below_both t sound (us ++ s ∷ []) r g h)

      inner : (i : ℕ) (x : Option TypeRow) (a : Option Part) → Both t sound x a → Both t sound (option_and_then (λ (q : TypeRow). index_row t past i q) x) (option_and_then (last_next past (step.Elem i)) a)
      inner i None None b = tt
      inner i (Some q) (Some p) b = both_further t sound p.node p.slot (index_row t past i q) (last_of past p.form (step.Elem i)) (index_both past i q.konst b.0 q.kind p.form b.1)
      inner i None (Some p) b = absurd b
      inner i (Some q) None b = absurd b

      go : (ss : List Step) → Last ss → Both t sound (spot_row t past (spot_of past ss) r) (place_at g past ss)
      go [] Nothing = h
      go (_) (After us (step.Base i)) = listed us (step.Base i) tt
      go (_) (After us (step.Field i)) = listed us (step.Field i) tt
      go (_) (After us (step.Elem i)) =
          both_by t sound (spot_row t past (spot_of past (us ++ step.Elem i ∷ [])) r) (option_and_then (λ (q : TypeRow). index_row t past i q) (row_below t r us)) (place_at g past (us ++ step.Elem i ∷ [])) (option_and_then (last_next past (step.Elem i)) (below_of g us))
          (ap (λ x. spot_row t past x r) (spot_of-element past us i)) (place_last g past us (step.Elem i)) (inner i (row_below t r us) (below_of g us) (below_both t sound us r g h))

  module _ (os : Objects) (f : Form) where
    row_both : (p : Path) → Stands t os p.object f → Both t sound (row_of t os p) (place_at f p.past p.steps)
    row_both p s =
        let r = root_has t sound s.object f s.form_is in
        both_by t sound (row_of t os p) (spot_row t p.past (spot p) r.0) (place_at f p.past p.steps) (place_at f p.past p.steps)
        (ap (option_and_then (λ (o : Object). option_and_then (spot_row t p.past (spot p)) (root_row t o))) s.is_there ∙ ap (option_and_then (spot_row t p.past (spot p))) r.1) refl (place_both p.past p.steps r.0 f r.2)

    pub same_places : (p : Path) → Stands t os p.object f → is_place t os p ≡ is_some (place_at f p.past p.steps)
    same_places p s = go (row_of t os p) (place_at f p.past p.steps) (row_both p s)
      where
        go : (x : Option TypeRow) (a : Option Part) → Both t sound x a → is_some x ≡ is_some a
        go None None b = refl
        go (Some r) (Some q) b = refl
        go None (Some q) b = absurd b
        go (Some r) None b = absurd b

    -- one step more

    part_rule : (p : Path) → Stands t os p.object f → broken t os p OnPart ≡ (if p.past then Some rule.PastEnd else None)
    part_rule p s = ap (option_and_then (λ (o : Object). find (holds t o p OnPart) (order OnPart))) s.is_there ∙ ap (λ b. if b then Some rule.Dangling else (if p.past then Some rule.PastEnd else None)) s.unreleased

    abbrev marked : Path → Step → Bool
    marked p (step.Elem i) = ends_at i (row_of t os p)
    marked p s = false

    stepped_is : (p : Path) (s : Step) → stepped t os p s ≡ unless (broken t os p OnPart) (deeper p s (marked p s))
    stepped_is p (step.Base i) = refl
    stepped_is p (step.Field i) = refl
    stepped_is p (step.Elem i) = refl

    ends_so : (i m : ℕ) (k : TypeKind) (n : ℕ) (g : Form) → kind_form t (form_in t m) k ≡ Some (Row n g) → unwrap_or (option_map (λ (e : ℕ × TypeId). e.0 == i) (elements k)) false ≡ (n == i)
    ends_so i m kind.Void n g e = absurd (cc)
    ends_so i m kind.Nullptr n g e = let w = some_inj Leaf (Row n g) e in absurd (cc)
    ends_so i m (kind.Int x) n g e = let w = some_inj Leaf (Row n g) e in absurd (cc)
    ends_so i m (kind.Enum x) n g e = let w = some_inj Leaf (Row n g) e in absurd (cc)
    ends_so i m (kind.Pointer x) n g e = let w = some_inj Leaf (Row n g) e in absurd (cc)
    ends_so i m (kind.Reference x) n g e = let w = some_inj Leaf (Row n g) e in absurd (cc)
    ends_so i m (kind.Array of k) n g e =
        let a = map_some (Row k) (form_in t m (OfType of)) (Row n g) e in
        let w = a.2 in
        let v : k ≡ n = cc in
        ap (λ x. x == i) v
    ends_so i m (kind.Class c) n g e =
        let a = and_then_some (λ (d : ClassDecl). option_and_then (body_form (form_in t m) c d.key) d.body) (slice_get t.classes c.0) (Row n g) e in
        let b = and_then_some (body_form (form_in t m) c a.0.key) a.0.body (Row n g) a.2 in
        let w = (with_some c (is_union a.0.key) (each_form (form_in t m) (base_parts a.0.key b.0)) (each_form (form_in t m) (member_parts b.0)) (Row n g) b.2).4 in
        absurd (cc)

    module _ (at : Place) (p : Path) (s : Stands t os at.block f) (tells : Tells f at p) where
      abbrev standing : Stands t os p.object f
      standing = record { object = s.object; is_there = ap (slice_get os) tells.object ∙ s.is_there; unreleased = s.unreleased; form_is = s.form_is }

      module _ (here : at.past ≡ false) where
        abbrev part_at : AtPart f p.steps at
        part_at = at_part f p.steps at here tells.leads

        at_part_both : Both t sound (row_of t os p) (Some part_at.part)
        at_part_both = subst (Both t sound (row_of t os p)) (ap (λ b. place_at f b p.steps) (tells.past ∙ here) ∙ place_here f p.steps ∙ part_at.leads) (row_both p standing)

        ends_at_count : (i n : ℕ) (g : Form) → part_at.part.form ≡ Row n g → ends_at i (row_of t os p) ≡ (n == i)
        ends_at_count i n g e = go (row_of t os p) at_part_both
          where
            go : (x : Option TypeRow) → Both t sound x (Some part_at.part) → ends_at i x ≡ (n == i)
            go None b = absurd b
            go (Some r) b = ends_so i b.0 r.kind n g (b.1 ∙ ap Some e)

        mark_is : (u : Step) (to : Place) → place_of f at.block (p.steps ++ u ∷ []) ≡ Some to → marked p u ≡ to.past
        mark_is (step.Base i) to e = ap (λ (x : Place). x.past) (listed_place at.block part_at.part (step.Base i) to tt (sym (place_of_last f at.block p.steps (step.Base i) part_at.part part_at.leads) ∙ e)).2
        mark_is (step.Field i) to e = ap (λ (x : Place). x.past) (listed_place at.block part_at.part (step.Field i) to tt (sym (place_of_last f at.block p.steps (step.Field i) part_at.part part_at.leads) ∙ e)).2
        mark_is (step.Elem i) to e =
            let q = element_place at.block i part_at.part to (sym (place_of_last f at.block p.steps (step.Elem i) part_at.part part_at.leads) ∙ e) in
            ends_at_count i q.count q.element q.form_is ∙ equal_swap q.count i ∙ sym (ap (λ (x : Place). x.past) q.to_is)

      pub same_steps : (u : Step) (answer : Result Place Rule) → OneStep f at u answer → SameAnswer f answer (stepped t os p u)
      same_steps u (Ok to) one =
          let e = one.1 p.steps tells.leads in
          let l = found_leads f at.block (p.steps ++ u ∷ []) to e in
          subst (SameAnswer f (Ok to)) (sym (stepped_is p u ∙ ap (λ o. unless o (deeper p u (marked p u))) (part_rule p standing ∙ ap (λ b. if b then Some rule.PastEnd else None) (tells.past ∙ one.0))))
          (record { object = tells.object ∙ sym l.1; past = mark_is one.0 u to e; leads = l.0 })
      same_steps u (Err r) one =
          subst (SameAnswer f (Err r)) (sym (stepped_is p u ∙ ap (λ o. unless o (deeper p u (marked p u))) (part_rule p standing ∙ ap (λ b. if b then Some rule.PastEnd else None) (tells.past ∙ one.0)))) one.1

      -- the enclosing object

      module _ (c : ClassId) where
        abbrev outer_rule : Bool → Option (List Step) → Option Rule
        outer_rule past o = if past then Some rule.PastEnd else (if not (is_some o) then Some rule.DownCast else None)

        abbrev outer_by : Bool → Option (List Step) → Result Path Rule
        outer_by past o = unless (outer_rule past o) (whole_path p (unwrap_or o p.steps))

        outer_is : outer t os p c ≡ outer_by p.past (outer_in t s.object c p.steps)
        outer_is =
            ap (λ x. unless (option_and_then (λ (o : Object). find (holds t o p (OnOuter c)) (order (OnOuter c))) x) (whole_path p (unwrap_or (option_and_then (λ (o : Object). outer_in t o c p.steps) x) p.steps))) standing.is_there
            ∙ ap (λ b. unless (if b then Some rule.Dangling else outer_rule p.past (outer_in t s.object c p.steps)) (whole_path p (unwrap_or (outer_in t s.object c p.steps) p.steps))) s.unreleased

        by_steps : (past : Bool) (o : Option (List Step)) → nearest f c p.steps ≡ o → SameAnswer f (if past then Err rule.PastEnd else or_down_cast (option_and_then (place_of f at.block) o)) (outer_by past o)
        by_steps true o z = refl
        by_steps false None z = refl
        by_steps false (Some us) z =
            let k : is_class c (class_at f us) ≡ true = find_holds (λ us. is_class c (class_at f us)) (reverse (enclosing p.steps)) us z in
            let q = part_there c (below_of f us) k in
            let e : option_map (placed at.block false) (place_at f false us) ≡ Some (placed at.block false q.0) = ap (option_map (placed at.block false)) (place_here f us ∙ q.1) in
            let w : place_of f at.block us ≡ Some (placed at.block false q.0) = ap (λ x. or_else x (option_map (placed at.block true) (place_at f true us))) e in
            subst (λ x. SameAnswer f (or_down_cast x) (Ok (whole_path p us))) (sym w) (record { object = tells.object; past = refl; leads = e })

        pub same_outer : SameAnswer f (outer_answer f at c p.steps) (outer t os p c)
        same_outer =
            subst (λ b. SameAnswer f (if b then Err rule.PastEnd else or_down_cast (option_and_then (place_of f at.block) (nearest f c p.steps))) (outer t os p c)) tells.past
            (subst (SameAnswer f (if p.past then Err rule.PastEnd else or_down_cast (option_and_then (place_of f at.block) (nearest f c p.steps)))) (sym (outer_is ∙ ap (outer_by p.past) (sym (nearest_is_outer t s.object f c p.steps sound s.form_is)))) (by_steps p.past (nearest f c p.steps) refl))
