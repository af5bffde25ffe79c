-- The steps of a place, by walking up from it.
use Rattle.std.proofs.Common.{nat_lt, ◌&&◌, true≢false, inl, inr, ◌≡◌, ℕ, suc, ◌+◌, ◌*◌, ◌-◌, ◌≤◌, ◌<◌, Bool, true, false, List, [], ◌∷◌, ◌++◌, length, Some, refl, sym, ap, subst, ◌∙◌, arith, slice_get}
use Rattle.std.proofs.lemmas.Bool.{ltb-true, lt-ltb, cases_Bool}
use Rattle.cx_type_defs.specs.declared.ids.Step.{Step}
use Rattle.cx_type_defs.specs.declared.ids.Step.TheVariants as step
use Rattle.cx_layout.specs.declared.columns.Kind.TheVariants as kind
use Rattle.cx_layout.specs.declared.columns.Under.{Under}
use Rattle.cx_layout.specs.declared.columns.Node.{Node}
use Rattle.cx_layout.specs.declared.place.Place.{Place}
use Rattle.cx_layout.specs.Forms.{Form, Row, cells}
use Rattle.cx_layout.specs.Laid.{Laid, under}
use Rattle.cx_layout.specs.Places.{Leads, IsPlace}
use Rattle.cx_layout.specs.Described.{Described}
use Rattle.cx_layout.specs.Walks.{IsIn, Walks, is_element, is_past_elements, count_of}
use Rattle.cx_layout.proofs.Options.{some_inj}
use Rattle.cx_layout.proofs.Parts.{shown, laid_node, part_laid}
use Rattle.cx_layout.proofs.Placing.{AtPart, at_part}
use Rattle.cx_layout.proofs.Walking.{Above, Showing, Element, ABase, AMember, showing, in_there, in_above, shown_is}
use Rattle.cx_layout.proofs.Filling.{get_within}
use Rattle.cx_layout.proofs.Fitting.{below_inside}
use Rattle.cx_layout.proofs.Enclosing.{part_in, part_before}
use Rattle.cx_layout.proofs.Pasts.{ArrayEnd, OtherEnd, End, OfArray, OfOther, end_of}

module _ (ns : List Node) (ks : List ℕ) (f : Form) (at : Place) (d : Described ns ks f) (ss : List Step) where
  -- past the last element of an array
  module _ (e : ArrayEnd f ss at) where
    array_laid : Laid ns ks e.array.node (Row e.count e.element)
    array_laid = subst (Laid ns ks e.array.node) e.form_is (part_laid ns ks f e.init e.array d.laid e.leads)

    next_node : suc e.array.node ≡ at.node
    next_node = let w = e.node in omega arith

    module _ (row : Node) (r : slice_get ns at.node ≡ Some row) where
      same_row : array_laid.1.row ≡ row
      same_row = some_inj array_laid.1.row row (sym array_laid.1.is_row ∙ ap (slice_get ns) next_node ∙ r)

      pub under_is : row.under ≡ under e.array.node (step.Elem 0) 0
      under_is = ap (λ (x : Node). x.under) (sym same_row) ∙ array_laid.1.under_is

      pub cells_are : row.cells ≡ cells e.element
      cells_are =
          let i = laid_node ns ks (suc e.array.node) e.element array_laid.2 in
          ap (λ (x : Node). x.cells) (sym (some_inj i.row row (sym i.is_row ∙ ap (slice_get ns) next_node ∙ r))) ∙ i.cells

      pub kind_is : (above : Node) → slice_get ns row.under.parent ≡ Some above → above.kind ≡ kind.Array e.count
      kind_is above g =
          let w : row.under.parent ≡ e.array.node = ap (λ (u : Under). u.parent) under_is in
          ap (λ (x : Node). x.kind) (sym (some_inj array_laid.0.row above (sym array_laid.0.is_row ∙ ap (slice_get ns) (sym w) ∙ g))) ∙ array_laid.0.kind

      pub array_slot : at.slot ≡ e.array.slot + e.count * row.cells
      array_slot = e.slot ∙ ap (λ n. e.array.slot + e.count * n) (sym cells_are)

      array_place : Place
      array_place = record { block = at.block; slot = e.array.slot; node = e.array.node; past = false }

      array_part : AtPart f e.init (record { block = at.block; slot = e.array.slot; node = e.array.node; past = false })
      array_part = record { part = e.array; leads = e.leads; node = refl; slot = refl }

      pub array_in : IsIn ns ks f row.under.parent (at.slot - e.count * row.cells)
      array_in =
          let w : row.under.parent ≡ e.array.node = ap (λ (u : Under). u.parent) under_is in
          let a = array_slot in
          let s : e.array.slot ≡ at.slot - e.count * row.cells = omega arith in
          subst (λ n. IsIn ns ks f n (at.slot - e.count * row.cells)) (sym w) (subst (IsIn ns ks f e.array.node) s (part_in ns ks f e.init (record { block = at.block; slot = e.array.slot; node = e.array.node; past = false }) d array_part))

  -- a place past another part shows no element
  module _ (o : OtherEnd f ss at) (row : Node) (r : slice_get ns at.node ≡ Some row) (later : 1 ≤ at.node) where
    abbrev such : IsIn ns ks f at.node at.slot
    such = part_in ns ks f ss at d o.part

    abbrev up : Above ns ks f ss o.part.part
    up = in_above ns ks f at.node at.slot such later row r

    step_is : row.under.step ≡ (shown up.outer.form up.last_step up.inner up.outer.node).step
    step_is = ap (λ (u : Under). u.step) (shown_is ns ks f at.node at.slot such later row r)

    pub other_shows : is_element row.under.step ≡ false
    other_shows = go (showing up.outer.form up.last_step up.inner up.outer.node up.is_inner)
      where
        go : Showing up.outer.form up.last_step up.inner up.outer.node → is_element row.under.step ≡ false
        go (Element m g i fe se so sh) = absurd (o.no_element up.init i (up.are_steps ∙ ap (λ s. up.init ++ s ∷ []) se))
        go (ABase i se sh) = ap is_element (step_is ∙ ap (λ (u : Under). u.step) sh)
        go (AMember i se sh) = ap is_element (step_is ∙ ap (λ (u : Under). u.step) sh)

  -- the steps that were written from the place of a part lead to it
  pub part_path : (p : AtPart f ss at) (start : ℕ) (new : List Step) → Leads f ss at → Walks f at.node at.slot start [] new → Leads f new at
  part_path p start new l w =
      let i = part_in ns ks f ss at d p in
      subst (λ us. Leads f us at) (sym (w ss p.part p.leads p.node i.from i.before).1) l

  -- and so do those from the array, with its length
  pub array_path : (e : ArrayEnd f ss at) (row : Node) (r : slice_get ns at.node ≡ Some row) (start : ℕ) (new : List Step) → Leads f ss at → Walks f row.under.parent (at.slot - e.count * row.cells) start [] new → Leads f (new ++ step.Elem e.count ∷ []) at
  array_path e row r start new l w =
      let p : e.array.node ≡ row.under.parent = sym (ap (λ (u : Under). u.parent) (under_is e row r)) in
      let a = array_slot e row r in
      let s : e.array.slot ≡ at.slot - e.count * row.cells = omega arith in
      let b = part_before ns ks f e.init (record { block = at.block; slot = e.array.slot; node = e.array.node; past = false }) (record { part = e.array; leads = e.leads; node = refl; slot = refl }) d in
      let n : new ≡ e.init = (w e.init e.array e.leads p (omega arith) (λ k. let c = b (subst (λ m. 1 ≤ m) (sym p) k) in omega arith)).1 in
      subst (λ us. Leads f us at) (e.are_steps ∙ ap (λ us. us ++ step.Elem e.count ∷ []) (sym n)) l

module _ (ns : List Node) (ks : List ℕ) (f : Form) (at : Place) (d : Described ns ks f) (h : IsPlace f at) where
  pub place_there : at.node < length ns
  place_there = elim (cases_Bool at.past) as (λ _. at.node < length ns) [ inl z ↦ past (end_of f h.0 at z h.1) | inr z ↦ here (at_part f h.0 at z h.1) ]
    where
      here : AtPart f h.0 at → at.node < length ns
      here p = in_there ns ks f at.node at.slot (part_in ns ks f h.0 at d p)

      past : End f h.0 at → at.node < length ns
      past (OfOther o) = here o.part
      past (OfArray e) = subst (λ n. n < length ns) (next_node ns ks f at d h.0 e) (get_within ns (suc e.array.node) (array_laid ns ks f at d h.0 e).1.row (array_laid ns ks f at d h.0 e).1.is_row)

  module _ (row : Node) (r : slice_get ns at.node ≡ Some row) where
    both_true : (a b c : Bool) → ((a && b) && c) ≡ true → (a ≡ true) × (b ≡ true) × (c ≡ true)
    both_true true true true e = (refl, refl, refl)
    both_true true true false e = absurd (cc)
    both_true true false c e = absurd (cc)
    both_true false b c e = absurd (cc)

    pub end_part : is_past_elements row at ≡ true → ArrayEnd f h.0 at
    end_part z = go (end_of f h.0 at t.0 h.1)
      where
        t : (at.past ≡ true) × (nat_lt 0 at.node ≡ true) × (is_element row.under.step ≡ true)
        t = both_true at.past (nat_lt 0 at.node) (is_element row.under.step) z

        go : End f h.0 at → ArrayEnd f h.0 at
        go (OfArray e) = e
        go (OfOther o) = absurd (true≢false (sym t.2 ∙ other_shows ns ks f at d h.0 o row r (let l = ltb-true 0 at.node t.1 in omega arith)))

    pub here_part : is_past_elements row at ≡ false → AtPart f h.0 at
    here_part z = elim (cases_Bool at.past) as (λ _. AtPart f h.0 at) [ inl w ↦ go w (end_of f h.0 at w h.1) | inr w ↦ at_part f h.0 at w h.1 ]
      where
        go : at.past ≡ true → End f h.0 at → AtPart f h.0 at
        go w (OfOther o) = o.part
        go w (OfArray e) =
            let n = e.node in
            let s = ap (λ (u : Under). is_element u.step) (under_is ns ks f at d h.0 e row r) in
            let g : is_past_elements row at ≡ true = ap (λ b. (b && nat_lt 0 at.node) && is_element row.under.step) w ∙ ap (λ b. b && is_element row.under.step) (lt-ltb 0 at.node (omega arith)) ∙ s in
            absurd (true≢false (sym g ∙ z))

    module _ (z : is_past_elements row at ≡ true) where
      pub parent_there : row.under.parent < length ns
      parent_there = in_there ns ks f row.under.parent (at.slot - (end_part z).count * row.cells) (array_in ns ks f at d h.0 (end_part z) row r)

      module _ (above : Node) (g : slice_get ns row.under.parent ≡ Some above) (count : ℕ) (k : count ≡ count_of above.kind) where
        count_is : count ≡ (end_part z).count
        count_is = k ∙ ap count_of (kind_is ns ks f at d h.0 (end_part z) row r above g)

        pub before_end : count * row.cells ≤ at.slot
        before_end = let a = array_slot ns ks f at d h.0 (end_part z) row r in let b = ap (λ n. n * row.cells) count_is in omega arith

        pub few_before : count * row.cells < 4294967296
        few_before =
            let i = (below_inside f (end_part z).init (end_part z).array (end_part z).leads).in_cells in
            let c = d.few_cells in
            let j = ap cells (end_part z).form_is in
            let s = ap (λ n. n * row.cells) count_is ∙ ap (λ n. (end_part z).count * n) (cells_are ns ks f at d h.0 (end_part z) row r) in
            omega arith

        pub end_in : IsIn ns ks f row.under.parent (at.slot - count * row.cells)
        end_in = subst (λ n. IsIn ns ks f row.under.parent (at.slot - n * row.cells)) (sym count_is) (array_in ns ks f at d h.0 (end_part z) row r)

        pub end_leads : (start : ℕ) (new : List Step) → Walks f row.under.parent (at.slot - count * row.cells) start [] new → Leads f (new ++ step.Elem count ∷ []) at
        end_leads start new w =
            subst (λ n. Leads f (new ++ step.Elem n ∷ []) at) (sym count_is)
            (array_path ns ks f at d h.0 (end_part z) row r start new h.1 (subst (λ n. Walks f row.under.parent (at.slot - n * row.cells) start [] new) count_is w))

    module _ (z : is_past_elements row at ≡ false) where
      pub here_in : IsIn ns ks f at.node at.slot
      here_in = part_in ns ks f h.0 at d (here_part z)

      pub here_leads : (start : ℕ) (new : List Step) → Walks f at.node at.slot start [] new → Leads f new at
      here_leads start new w = part_path ns ks f at d h.0 (here_part z) start new h.1 w
