-- Places past the last element of an array, and other places.
use Rattle.std.proofs.Common.{◌≡◌, ℕ, ◌+◌, ◌*◌, ◌-◌, true, false, List, [], ◌∷◌, ◌++◌, Some, refl, sym, ap, ◌∙◌, arith, slice_get}
use Rattle.cx_type_defs.specs.declared.ids.Step.{Step}
use Rattle.cx_type_defs.specs.declared.ids.Step.TheVariants as step
use Rattle.cx_layout.specs.declared.columns.Under.{Under}
use Rattle.cx_layout.specs.declared.columns.Node.{Node}
use Rattle.cx_layout.specs.declared.place.Place.{Place}
use Rattle.cx_layout.specs.Forms.{Form}
use Rattle.cx_layout.specs.Places.{Leads}
use Rattle.cx_layout.specs.Described.{Described}
use Rattle.cx_layout.specs.Walks.{is_past_elements, count_of}
use Rattle.cx_layout.proofs.Placing.{AtPart}
use Rattle.cx_layout.proofs.Pasts.{ArrayEnd}
use Rattle.cx_layout.proofs.Enclosing.{part_from, part_before}
use Rattle.cx_layout.proofs.Pathing.{under_is, kind_is, array_slot, end_part, here_part}
use Rattle.cx_slot_places.specs.declared.walk.Trail.{Trail}
use Rattle.cx_slot_places.specs.Walks.{Within, IsTrail, Trails}
use Rattle.cx_slot_places.proofs.Walking.{last_there, last_aside}

-- a place that isn't past an array's elements lies in its part
abbrev pub part_within : (ns : List Node) (ks : List ℕ) (f : Form) (ss : List Step) (at : Place) → Described ns ks f → (p : AtPart f ss at) → Within f at.node at.slot ss p.part
part_within ns ks f ss at d p = record { leads = p.leads; node_is = p.node; from = part_from f ss at p; before = part_before ns ks f ss at p d }

module _ (ns : List Node) (ks : List ℕ) (f : Form) (at : Place) (d : Described ns ks f) (ss : List Step) (l : Leads f ss at) (row : Node) (r : slice_get ns at.node ≡ Some row) where
  abbrev pub here : is_past_elements row at ≡ false → AtPart f ss at
  here z = here_part ns ks f at d (ss, l) row r z

  pub here_step : (k : ℕ) (w : Trail) → is_past_elements row at ≡ false → Trails f at.node at.slot k w → w.step ≡ slice_get ss k
  here_step k w z g = (g ss (here z).part (part_within ns ks f ss at d (here z))).step

  module _ (z : is_past_elements row at ≡ true) where
    abbrev pub ending : ArrayEnd f ss at
    ending = end_part ns ks f at d (ss, l) row r z

    pub parent_is : row.under.parent ≡ ending.array.node
    parent_is = ap (λ (u : Under). u.parent) (under_is ns ks f at d ss ending row r)

    pub slot_is : at.slot ≡ ending.array.slot + ending.count * row.cells
    slot_is = array_slot ns ks f at d ss ending row r

    module _ (above : Node) (v : slice_get ns row.under.parent ≡ Some above) (count : ℕ) (k : count ≡ count_of above.kind) where
      pub count_is : count ≡ ending.count
      count_is = k ∙ ap count_of (kind_is ns ks f at d ss ending row r above v)

      pub array_within : Within f row.under.parent (at.slot - count * row.cells) ending.init ending.array
      array_within =
          let e = ending in
          let a = slot_is in
          let c = ap (λ n. n * row.cells) count_is in
          let n = parent_is in
          let place : Place = record { block = at.block; slot = e.array.slot; node = e.array.node; past = false } in
          let b = part_before ns ks f e.init place (record { part = e.array; leads = e.leads; node = refl; slot = refl }) d in
          record { leads = e.leads; node_is = sym n; from = omega arith; before = λ m. let w = b (omega arith) in omega arith }

      module _ (j : ℕ) (w : Trail) (g : Trails f row.under.parent (at.slot - count * row.cells) j w) where
        trail : IsTrail ending.init ending.array j w
        trail = g ending.init ending.array array_within

        pub end_step : w.depth ≡ j → Some (step.Elem count) ≡ slice_get ss j
        end_step e =
            ap (λ n. Some (step.Elem n)) count_is ∙ sym (ap (λ us. slice_get us j) ending.are_steps ∙ ap (slice_get (ending.init ++ step.Elem ending.count ∷ [])) (sym e ∙ trail.depth) ∙ last_there ending.init (step.Elem ending.count))

        pub before_step : (w.depth ≡ j → ⊥) → w.step ≡ slice_get ss j
        before_step m = trail.step ∙ sym (ap (λ us. slice_get us j) ending.are_steps ∙ last_aside ending.init (step.Elem ending.count) j (λ e. m (trail.depth ∙ e)))
