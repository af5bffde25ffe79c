-- Steps from a place, as the columns tell them.
use Rattle.std.proofs.Common.{◌≡◌, ℕ, suc, ◌+◌, ◌*◌, ◌<◌, ◌≤◌, ◌==◌, false, List, [], ◌∷◌, ◌++◌, length, Some, sym, ap, subst, ◌∙◌, arith, slice_get}
use Rattle.std.proofs.Math.Nat.{mul-le-mul_right}
use Rattle.cx_type_defs.specs.declared.ids.Step.{Step}
use Rattle.cx_type_defs.specs.declared.ids.Step.TheVariants as step
use Rattle.cx_layout.specs.declared.columns.Under.{Under}
use Rattle.cx_layout.specs.declared.columns.Node.{Node}
use Rattle.cx_layout.specs.declared.place.Place.{Place}
use Rattle.cx_layout.specs.Forms.{Form, Leaf, Row, Class, nodes, nodes_in, cells, cells_in, Part, further, item, part_of}
use Rattle.cx_layout.specs.Laid.{kind_of, IsNode, Laid}
use Rattle.cx_layout.specs.Places.{placed, HasStep, place_of}
use Rattle.cx_layout.specs.Described.{Described}
use Rattle.cx_layout.specs.Stepping.{PartRoom, IsPartAt, ElementRoom, IsElementAt, is_end, LeadsOn}
use Rattle.cx_layout.proofs.Options.{some_inj, map_some}
use Rattle.cx_layout.proofs.Fitting.{below_inside, part_inside}
use Rattle.cx_layout.proofs.Parts.{item_listed, shown, Shown, part_shown, laid_node, part_laid}
use Rattle.cx_layout.proofs.Filling.{get_within}
use Rattle.cx_layout.proofs.Placing.{IsListed, AtPart, at_part, one_place, last_place, place_of_last, listed_place, ElementPlace, element_place}

abbrev pub from_of : Step → Node → ℕ
from_of (step.Base i) row = row.bases_from + i
from_of (step.Field i) row = row.members_from + i
from_of (step.Elem i) row = 0

listed_part : (ns : List Node) (ks : List ℕ) (n : ℕ) (f : Form) (s : Step) (p : Part) (row : Node) → IsListed s → Laid ns ks n f → part_of f s ≡ Some p → slice_get ns n ≡ Some row → slice_get ks (from_of s row) ≡ Some (n + p.node)
listed_part ns ks n (Class c u bs ms) (step.Base i) p row z h e r =
    let m = map_some (further 1 1) (item false bs i) p e in
    let d : h.0.row ≡ row = some_inj h.0.row row (sym h.0.is_row ∙ r) in
    let l = item_listed ks false bs h.0.row.bases_from (suc n) i m.0 h.1 m.1 in
    let x : suc n + m.0.node ≡ n + (1 + m.0.node) = omega arith in
    subst (λ (q : Part). slice_get ks (row.bases_from + i) ≡ Some (n + q.node)) m.2 (ap (λ (x : Node). slice_get ks (x.bases_from + i)) (sym d) ∙ l ∙ ap Some x)
listed_part ns ks n (Class c u bs ms) (step.Field i) p row z h e r =
    let m = map_some (further (suc (nodes_in bs)) (suc (cells_in false bs))) (item u ms i) p e in
    let d : h.0.row ≡ row = some_inj h.0.row row (sym h.0.is_row ∙ r) in
    let l = item_listed ks u ms h.0.row.members_from (n + suc (nodes_in bs)) i m.0 h.2 m.1 in
    let x : n + suc (nodes_in bs) + m.0.node ≡ n + (suc (nodes_in bs) + m.0.node) = omega arith in
    subst (λ (q : Part). slice_get ks (row.members_from + i) ≡ Some (n + q.node)) m.2 (ap (λ (x : Node). slice_get ks (x.members_from + i)) (sym d) ∙ l ∙ ap Some x)
listed_part ns ks n f (step.Elem i) p row z h e r = absurd z
listed_part ns ks n Leaf s p row z h e r = absurd (cc)
listed_part ns ks n (Row m f) (step.Base i) p row z h e r = absurd (cc)
listed_part ns ks n (Row m f) (step.Field i) p row z h e r = absurd (cc)

offset_part : (n : ℕ) (f : Form) (s : Step) (p : Part) (u : Under) → IsListed s → part_of f s ≡ Some p → u ≡ shown f s p n → u.offset ≡ p.slot
offset_part n (Class c v bs ms) s p u z e b = ap (λ (x : Under). x.offset) b
offset_part n Leaf s p u z e b = absurd (cc)
offset_part n (Row m f) (step.Elem i) p u z e b = absurd z
offset_part n (Row m f) (step.Base i) p u z e b = absurd (cc)
offset_part n (Row m f) (step.Field i) p u z e b = absurd (cc)

module _ (ns : List Node) (ks : List ℕ) (f : Form) (at : Place) (s : Step) (d : Described ns ks f) (here : at.past ≡ false) (h : HasStep f at s) where
  pub place_part : AtPart f h.0 at
  place_part = at_part f h.0 at here h.2

  laid_at : Laid ns ks at.node place_part.part.form
  laid_at = subst (λ k. Laid ns ks k place_part.part.form) place_part.node (part_laid ns ks f h.0 place_part.part d.laid place_part.leads)

  is_node : IsNode ns at.node place_part.part.form
  is_node = laid_node ns ks at.node place_part.part.form laid_at

  pub node_there : at.node < length ns
  node_there = get_within ns at.node is_node.row is_node.is_row

  same_row : (row : Node) → slice_get ns at.node ≡ Some row → is_node.row ≡ row
  same_row row r = some_inj is_node.row row (sym is_node.is_row ∙ r)

  is_last : last_place at.block place_part.part s ≡ Some h.1
  is_last = sym (place_of_last f at.block h.0 s place_part.part place_part.leads) ∙ h.3

  -- the place that was told is the one that the step leads to, whatever steps lead to the first
  leads_on : (to : Place) → h.1 ≡ to → LeadsOn f at s to
  leads_on to e ss l = ap (λ us. place_of f at.block (us ++ s ∷ [])) (one_place f ss h.0 at d.full here l h.2) ∙ h.3 ∙ ap Some e

  module _ (row : Node) (from index : ℕ) (listed : IsListed s) (r : slice_get ns at.node ≡ Some row) (k : from_of s row ≡ from + index) where
    next_part : (q : Part) × (part_of place_part.part.form s ≡ Some q) × (placed at.block false (further place_part.part.node place_part.part.slot q) ≡ h.1)
    next_part = listed_place at.block place_part.part s h.1 listed is_last

    next_shown : Shown ns ks at.node place_part.part.form s next_part.0
    next_shown = part_shown ns ks at.node place_part.part.form s next_part.0 laid_at next_part.1

    is_listed : slice_get ks (from + index) ≡ Some (at.node + next_part.0.node)
    is_listed = ap (slice_get ks) (sym k) ∙ listed_part ns ks at.node place_part.part.form s next_part.0 row listed laid_at next_part.1 r

    offset_is : next_shown.row.under.offset ≡ next_part.0.slot
    offset_is = offset_part at.node place_part.part.form s next_part.0 next_shown.row.under listed next_part.1 next_shown.under_is

    pub part_room : PartRoom ns ks at from index
    part_room =
        let a = (below_inside f h.0 place_part.part place_part.leads).in_cells in
        let b = (part_inside place_part.part.form s next_part.0 next_part.1).0.in_cells in
        let e = place_part.slot in
        let l = d.few_cells in
        let o = offset_is in
        record { node = at.node + next_part.0.node; is_listed = is_listed; row = next_shown.row; is_row = next_shown.is_row; few_cells = omega arith }

    pub part_on : (to : Place) → IsPartAt ns ks at from index to → LeadsOn f at s to
    part_on to g =
        let a = g (at.node + next_part.0.node) next_shown.row is_listed next_shown.is_row in
        leads_on to
        (sym next_part.2
        ∙ ap (λ n. record { block = at.block; slot = place_part.part.slot + next_part.0.slot; node = n + next_part.0.node; past = false }) place_part.node
        ∙ ap (λ n. record { block = at.block; slot = n + next_part.0.slot; node = at.node + next_part.0.node; past = false }) place_part.slot
        ∙ ap (λ n. record { block = at.block; slot = at.slot + n; node = at.node + next_part.0.node; past = false }) (sym offset_is)
        ∙ sym a)

module _ (ns : List Node) (ks : List ℕ) (f : Form) (at : Place) (i : ℕ) (d : Described ns ks f) (here : at.past ≡ false) (h : HasStep f at (step.Elem i)) where
  element : ElementPlace at.block (place_part ns ks f at (step.Elem i) d here h).part.node (place_part ns ks f at (step.Elem i) d here h).part.slot i (place_part ns ks f at (step.Elem i) d here h).part.form h.1
  element = element_place at.block i (place_part ns ks f at (step.Elem i) d here h).part h.1 (is_last ns ks f at (step.Elem i) d here h)

  array_laid : Laid ns ks at.node (Row element.count element.element)
  array_laid = subst (λ (g : Form). Laid ns ks at.node g) element.form_is (laid_at ns ks f at (step.Elem i) d here h)

  element_node : IsNode ns (at.node + 1) element.element
  element_node = let x : suc at.node ≡ at.node + 1 = omega arith in subst (λ n. IsNode ns n element.element) x (laid_node ns ks (suc at.node) element.element array_laid.2)

  pub element_room : ElementRoom ns at i
  element_room =
      let p = place_part ns ks f at (step.Elem i) d here h in
      let a = (below_inside f h.0 p.part p.leads).in_cells in
      let n = (below_inside f h.0 p.part p.leads).in_nodes in
      let c : cells p.part.form ≡ element.count * cells element.element = ap cells element.form_is in
      let m : nodes p.part.form ≡ suc (nodes element.element) = ap nodes element.form_is in
      let e = p.slot in
      let g = p.node in
      let l = d.few_cells in
      let k = d.few_nodes in
      let w : i * cells element.element ≤ element.count * cells element.element = mul-le-mul_right (cells element.element) element.within in
      let v : i * element_node.row.cells ≡ i * cells element.element = ap (λ k. i * k) element_node.cells in
      record { few_nodes = omega arith; row = element_node.row; is_row = element_node.is_row; few_cells = omega arith }

  pub element_on : (row : Node) (to : Place) → slice_get ns at.node ≡ Some row → IsElementAt ns at row.kind i to → LeadsOn f at (step.Elem i) to
  element_on row to r g =
      let p = place_part ns ks f at (step.Elem i) d here h in
      let a = g element_node.row element_node.is_row in
      let k : row.kind ≡ kind_of (Row element.count element.element) = ap (λ (x : Node). x.kind) (some_inj row array_laid.0.row (sym r ∙ array_laid.0.is_row)) ∙ array_laid.0.kind in
      leads_on ns ks f at (step.Elem i) d here h to
      (element.to_is
      ∙ ap (λ n. record { block = at.block; slot = p.part.slot + i * cells element.element; node = n + 1; past = i == element.count }) p.node
      ∙ ap (λ n. record { block = at.block; slot = n + i * cells element.element; node = at.node + 1; past = i == element.count }) p.slot
      ∙ ap (λ n. record { block = at.block; slot = at.slot + i * n; node = at.node + 1; past = i == element.count }) (sym element_node.cells)
      ∙ ap (λ t. record { block = at.block; slot = at.slot + i * element_node.row.cells; node = at.node + 1; past = is_end t i }) (sym k)
      ∙ sym a)
