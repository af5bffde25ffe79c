-- New trees are written, by the kind of their node.
use Rattle.std.proofs.Common.{◌≡◌, ℕ, suc, ◌+◌, ◌*◌, ◌-◌, ◌^◌, ◌≤◌, ◌<◌, Bool, true, false, List, [], ◌∷◌, length, None, Some, refl, sym, ap, subst, ◌∙◌, arith, slice_get}
use Rattle.std.proofs.Math.ListN.{set}
use Rattle.cx_type_defs.specs.declared.ids.Step.TheVariants as step
use Rattle.cx_state.specs.declared.kind.Phase.{Phase}
use Rattle.cx_state.specs.declared.kind.Scalar.TheVariants as scalar
use Rattle.cx_layout.specs.declared.columns.Kind.TheVariants as kind
use Rattle.cx_layout.specs.declared.columns.ClassParts.{ClassParts}
use Rattle.cx_layout.specs.declared.columns.Node.{Node}
use Rattle.cx_layout.specs.Forms.{Form, Forms, Leaf, Row, Class, count, nodes_in, cells, cells_in}
use Rattle.cx_layout.specs.Laid.{Listed, Laid, PartsLaid, class_parts, kind_of}
use Rattle.cx_layout.proofs.Options.{some_inj}
use Rattle.cx_layout.proofs.Filling.{get_within}
use Rattle.cx_layout.proofs.Parts.{laid_node}
use Rattle.cx_slots.specs.declared.slot.SlotView.{SlotView}
use Rattle.cx_slots.specs.declared.slot.SlotView.TheVariants as view
use Rattle.cx_slots.specs.Slots.{Slot, slots_seen}
use Rattle.cx_slots.specs.Slots as slot
use Rattle.cx_slots.specs.Flat.{blanks}
use Rattle.cx_slots.specs.Fresh.{new_slots, all_new, over}
use Rattle.cx_slots.proofs.Over.{over_twice}
use Rattle.cx_slots.proofs.Fresh.{all_new_length}
use Rattle.cx_slot_calls.specs.Fills.{Room, RowRoom, PartsRoom, Blanked, Filled, RowFilled, PartsFilled}
use Rattle.cx_slot_calls.proofs.Filling.{seen_over, blanks_join, laid_there}

-- the form, by the kind

leaf_form : (f : Form) → kind_of f ≡ kind.Scalar → f ≡ Leaf
leaf_form Leaf e = refl
leaf_form (Row n f) e = absurd (cc)
leaf_form (Class c u bs ms) e = absurd (cc)

row_form : (f : Form) (m : ℕ) → kind_of f ≡ kind.Array m → (g : Form) × (f ≡ Row m g)
row_form (Row n f) m e = (f, ap (λ k. Row k f) (cc))
row_form Leaf m e = absurd (cc)
row_form (Class c u bs ms) m e = absurd (cc)

pub record ClassForm (f : Form) (q : ClassParts) (u : Bool) : Type 0 where
  pub bases : Forms
  pub members : Forms
  pub form_is : f ≡ Class q.class u bases members
  pub bases_are : count bases ≡ q.bases
  pub members_are : count members ≡ q.members

pub class_form : (f : Form) (q : ClassParts) (u : Bool) → kind_of f ≡ kind.Class q → q.is_union ≡ u → ClassForm f q u
class_form (Class c v bs ms) q u e h =
    let w : class_parts c v bs ms ≡ q = class_inj (class_parts c v bs ms) q e in
    subst (ClassForm (Class c v bs ms) q) h (subst (λ (z : ClassParts). ClassForm (Class c v bs ms) z z.is_union) w (record { bases = bs; members = ms; form_is = refl; bases_are = refl; members_are = refl }))
  where
    class_inj : (a b : ClassParts) → kind.Class a ≡ kind.Class b → a ≡ b
    class_inj a b e = cc
class_form Leaf q u e h = absurd (cc)
class_form (Row n f) q u e h = absurd (cc)

module _ (ns : List Node) (ks : List ℕ) (node : ℕ) (row : Node) (r : slice_get ns node ≡ Some row) where
  kind_is : (f : Form) → Laid ns ks node f → kind_of f ≡ row.kind
  kind_is f h = let a = laid_node ns ks node f h in sym a.kind ∙ ap (λ (x : Node). x.kind) (some_inj a.row row (sym a.is_row ∙ r))

  cells_is : (f : Form) → Laid ns ks node f → row.cells ≡ cells f
  cells_is f h = let a = laid_node ns ks node f h in sym (ap (λ (x : Node). x.cells) (some_inj a.row row (sym a.is_row ∙ r))) ∙ a.cells

  pub in_nodes : node < length ns
  in_nodes = get_within ns node row r

  -- a class: its parts, where they are listed
  record Own (q : ClassParts) (u : Bool) (f : Form) : Type 0 where
    of : ClassForm f q u
    bases_listed : Listed ks row.bases_from (suc node) of.bases
    members_listed : Listed ks row.members_from (node + suc (nodes_in of.bases)) of.members
    bases_laid : PartsLaid ns ks node step.Base false 0 (suc node) 1 of.bases
    members_laid : PartsLaid ns ks node step.Field u 0 (node + suc (nodes_in of.bases)) (suc (cells_in false of.bases)) of.members

  own : (q : ClassParts) (u : Bool) (f : Form) → row.kind ≡ kind.Class q → q.is_union ≡ u → Laid ns ks node f → Own q u f
  own q u f k e laid =
      let c = class_form f q u (kind_is f laid ∙ k) e in
      let h : Laid ns ks node (Class q.class u c.bases c.members) = subst (Laid ns ks node) c.form_is laid in
      let d : h.0.row ≡ row = some_inj h.0.row row (sym h.0.is_row ∙ r) in
      record {
        of = c;
        bases_listed = subst (λ (x : Node). Listed ks x.bases_from (suc node) c.bases) d h.1;
        members_listed = subst (λ (x : Node). Listed ks x.members_from (node + suc (nodes_in c.bases)) c.members) d h.2;
        bases_laid = h.3;
        members_laid = h.4;
      }

  module _ (p : Phase) (l : List SlotView) (at : ℕ) where
    -- a scalar
    pub leaf_within : row.kind ≡ kind.Scalar → Room ns ks (length l) node at → at < length l
    leaf_within k h =
        let e : cells h.form ≡ 1 = ap cells (leaf_form h.form (kind_is h.form h.laid ∙ k)) in
        let w = h.within in omega arith

    pub leaf_filled : row.kind ≡ kind.Scalar → Filled ns ks p node at l (set l at (view.Value scalar.Indeterminate))
    leaf_filled k path f h = seen_over path l at (view.Value scalar.Indeterminate) ∙ ap (λ g. over (slots_seen path l) at (new_slots p g)) (sym (leaf_form f (kind_is f h ∙ k)))

    -- elements
    pub row_more : (m : ℕ) → row.kind ≡ kind.Array m → Room ns ks (length l) node at → (node + 1 < 2 ^ 32) × (node + 1 < length ns) × RowRoom ns ks (length l) (node + 1) m at
    row_more m k h =
        let g = row_form h.form m (kind_is h.form h.laid ∙ k) in
        let laid : Laid ns ks node (Row m g.0) = subst (Laid ns ks node) g.1 h.laid in
        let n : suc node ≡ node + 1 = omega arith in
        let child : Laid ns ks (node + 1) g.0 = subst (λ q. Laid ns ks q g.0) n laid.2 in
        let t = laid_there ns ks (node + 1) g.0 child in
        let few = h.few in
        let e : cells h.form ≡ m * cells g.0 = ap cells g.1 in
        let y = h.within in
        (omega arith, t, record { form = g.0; laid = child; within = omega arith; small = h.small; few = h.few })

    pub row_filled : (m : ℕ) (k : List SlotView) → row.kind ≡ kind.Array m → RowFilled ns ks p (node + 1) m at l k → Filled ns ks p node at l k
    row_filled m k e h path f laid =
        let g = row_form f m (kind_is f laid ∙ e) in
        let n : suc node ≡ node + 1 = omega arith in
        let own : Laid ns ks node (Row m g.0) = subst (Laid ns ks node) g.1 laid in
        h path g.0 (subst (λ q. Laid ns ks q g.0) n own.2) ∙ ap (λ q. over (slots_seen path l) at (new_slots p q)) (sym g.1)

    -- bases and members
    module _ (q : ClassParts) (k : row.kind ≡ kind.Class q) where
      pub class_within : Room ns ks (length l) node at → (at < length l) × (at + row.cells ≤ length l) × (at + row.cells < 2 ^ 32) × (1 ≤ row.cells)
      class_within h =
          let c = own q q.is_union h.form k refl h.laid in
          let e : cells h.form ≡ suc (cells_in false c.of.bases + cells_in q.is_union c.of.members) = ap cells c.of.form_is in
          let d = cells_is h.form h.laid in
          let s = h.small in
          let w = h.within in (omega arith, omega arith, omega arith, omega arith)

      module _ (u : q.is_union ≡ false) where
        pub bases_room : (now : ℕ) → Room ns ks (length l) node at → now ≡ length l → PartsRoom ns ks now node row.bases_from q.bases at
        bases_room now h len =
            let c = own q false h.form k u h.laid in
            let e : cells h.form ≡ suc (cells_in false c.of.bases + cells_in false c.of.members) = ap cells c.of.form_is in
            let w = h.within in
            let small = h.small in
            record {
              forms = c.of.bases;
              step = step.Base;
              node = suc node;
              offset = 1;
              listed = c.bases_listed;
              laid = c.bases_laid;
              all = c.of.bases_are;
              later = omega arith;
              is_node = in_nodes;
              within = omega arith;
              small = omega arith;
              few = h.few;
            }

        pub members_room : (now : ℕ) → Room ns ks (length l) node at → now ≡ length l → PartsRoom ns ks now node row.members_from q.members at
        members_room now h len =
            let c = own q false h.form k u h.laid in
            let e : cells h.form ≡ suc (cells_in false c.of.bases + cells_in false c.of.members) = ap cells c.of.form_is in
            let w = h.within in
            let small = h.small in
            record {
              forms = c.of.members;
              step = step.Field;
              node = node + suc (nodes_in c.of.bases);
              offset = suc (cells_in false c.of.bases);
              listed = c.members_listed;
              laid = c.members_laid;
              all = c.of.members_are;
              later = omega arith;
              is_node = in_nodes;
              within = omega arith;
              small = omega arith;
              few = h.few;
            }

        pub class_filled : (m n : List SlotView) → PartsFilled ns ks p node row.bases_from q.bases at (set l at (view.Phase p)) m → PartsFilled ns ks p node row.members_from q.members at m n → Filled ns ks p node at l n
        class_filled m n g h path f laid =
            let c = own q false f k u laid in
            let bs = c.of.bases in
            let ms = c.of.members in
            let s : List Slot = slots_seen path l in
            let z = all_new_length p bs in
            let x : at + suc (cells_in false bs) ≡ at + suc (length (all_new p bs)) = omega arith in
            h path ms step.Field (node + suc (nodes_in bs)) (suc (cells_in false bs)) c.members_listed c.members_laid c.of.members_are
            ∙ ap (λ t. over t (at + suc (cells_in false bs)) (all_new p ms)) (g path bs step.Base (suc node) 1 c.bases_listed c.bases_laid c.of.bases_are
            ∙ ap (λ t. over t (at + 1) (all_new p bs)) (seen_over path l at (view.Phase p))
            ∙ over_twice s at (at + 1) (slot.Header p ∷ []) (all_new p bs) refl)
            ∙ over_twice s at (at + suc (cells_in false bs)) (slot.Header p ∷ all_new p bs) (all_new p ms) x
            ∙ ap (λ t. over s at (new_slots p t)) (sym c.of.form_is)

      -- a union
      pub union_filled : (m : List SlotView) → q.is_union ≡ true → Blanked (at + 1) (at + row.cells - (at + 1)) (set l at (view.Active None)) m → Filled ns ks p node at l m
      union_filled m u h path f laid =
          let c = own q true f k u laid in
          let a = cells_in false c.of.bases in
          let b = cells_in true c.of.members in
          let s : List Slot = slots_seen path l in
          let d : row.cells ≡ suc (a + b) = cells_is f laid ∙ ap cells c.of.form_is in
          let n : at + row.cells - (at + 1) ≡ a + b = omega arith in
          h path ∙ ap (λ t. over (slots_seen path (set l at (view.Active None))) (at + 1) (blanks t)) n
          ∙ ap (λ t. over t (at + 1) (blanks (a + b))) (seen_over path l at (view.Active None))
          ∙ over_twice s at (at + 1) (slot.Active None ∷ []) (blanks (a + b)) refl
          ∙ ap (λ t. over s at (slot.Active None ∷ t)) (blanks_join a b)
          ∙ ap (λ t. over s at (new_slots p t)) (sym c.of.form_is)
