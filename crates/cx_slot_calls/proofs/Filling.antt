-- Blank slots, new elements, and new bases and members, as far as the loops have come.
use Rattle.std.proofs.Common.{◌≡◌, ℕ, zero, suc, ◌+◌, ◌*◌, ◌-◌, ◌^◌, ◌≤◌, ◌<◌, false, List, [], ◌∷◌, ◌++◌, length, Some, refl, sym, ap, subst, ◌∙◌, arith, slice_get}
use Rattle.std.proofs.Math.ListN.{set}
use Rattle.cx_type_defs.specs.declared.ids.Step.{Step}
use Rattle.cx_state.specs.declared.kind.Phase.{Phase}
use Rattle.cx_state.specs.declared.kind.Phase.TheVariants as phase
use Rattle.cx_state.specs.declared.kind.Scalar.TheVariants as scalar
use Rattle.cx_state.specs.Objects.{Path, copies}
use Rattle.cx_layout.specs.declared.columns.Node.{Node}
use Rattle.cx_layout.specs.declared.columns.Under.{Under}
use Rattle.cx_layout.specs.declared.place.Place.{Place}
use Rattle.cx_layout.specs.Forms.{Form, Forms, count, cells}
use Rattle.cx_layout.specs.Laid.{Listed, Laid, PartsLaid}
use Rattle.cx_layout.proofs.Options.{some_inj}
use Rattle.cx_layout.proofs.Fitting.{row_fits, item_inside}
use Rattle.cx_layout.proofs.Filling.{get_within}
use Rattle.cx_layout.proofs.Parts.{laid_node, item_listed, item_laid}
use Rattle.cx_slots.specs.declared.slot.SlotView.{SlotView}
use Rattle.cx_slots.specs.declared.slot.SlotView.TheVariants as view
use Rattle.cx_slots.specs.Slots.{Slot, slots_seen}
use Rattle.cx_slots.specs.Slots as slot
use Rattle.cx_slots.specs.Flat.{blanks, flat, flat_each}
use Rattle.cx_slots.specs.Fresh.{fresh, new_slots, all_new, first, over}
use Rattle.cx_slots.proofs.Lengths.{blanks_length}
use Rattle.cx_slots.proofs.Over.{over_none, over_twice, set_over}
use Rattle.cx_slots.proofs.Seen.{seen_set}
use Rattle.cx_slots.proofs.Fresh.{copies_more, copies_length, nth, first_all}
use Rattle.cx_slot_calls.specs.Fills.{Room, RowRoom, PartsRoom, Filled, PartsFilled}

-- one slot more

pub seen_over : (path : Place → Path) (l : List SlotView) (i : ℕ) (v : SlotView) → slots_seen path (set l i v) ≡ over (slots_seen path l) i (slot.slot_seen path v ∷ [])
seen_over path l i v = seen_set path l i v ∙ set_over (slots_seen path l) i (slot.slot_seen path v)

-- blank slots

blanks_more : (n : ℕ) → blanks (suc n) ≡ blanks n ++ (slot.Value scalar.Indeterminate ∷ [])
blanks_more zero = refl
blanks_more (suc n) = ap (λ k. slot.Value scalar.Indeterminate ∷ k) (blanks_more n)

pub blanks_join : (a b : ℕ) → blanks (a + b) ≡ blanks a ++ blanks b
blanks_join zero b = let w : 0 + b ≡ b = omega arith in ap blanks w
blanks_join (suc a) b = let w : suc a + b ≡ suc (a + b) = omega arith in ap blanks w ∙ ap (λ k. slot.Value scalar.Indeterminate ∷ k) (blanks_join a b)

pub blank_first : (l : List Slot) (from : ℕ) → l ≡ over l from (blanks (from - from))
blank_first l from = let w : 0 ≡ from - from = omega arith in sym (over_none l from) ∙ ap (λ n. over l from (blanks n)) w

pub blank_next : (path : Place → Path) (l m : List SlotView) (from i j : ℕ) → from ≤ i → j ≡ i + 1 → slots_seen path m ≡ over (slots_seen path l) from (blanks (i - from))
    → slots_seen path (set m i (view.Value scalar.Indeterminate)) ≡ over (slots_seen path l) from (blanks (j - from))
blank_next path l m from i j h k e =
    let n = blanks_length (i - from) in
    let a : i ≡ from + length (blanks (i - from)) = omega arith in
    let b : suc (i - from) ≡ j - from = omega arith in
    seen_over path m i (view.Value scalar.Indeterminate) ∙ ap (λ t. over t i (slot.Value scalar.Indeterminate ∷ [])) e
    ∙ over_twice (slots_seen path l) from i (blanks (i - from)) (slot.Value scalar.Indeterminate ∷ []) a
    ∙ ap (over (slots_seen path l) from) (sym (blanks_more (i - from))) ∙ ap (λ t. over (slots_seen path l) from (blanks t)) b

-- elements

module _ (ns : List Node) (ks : List ℕ) where
  pub node_cells : (n : ℕ) (f : Form) (row : Node) → Laid ns ks n f → slice_get ns n ≡ Some row → row.cells ≡ cells f
  node_cells n f row h r =
      let a = laid_node ns ks n f h in
      sym (ap (λ (x : Node). x.cells) (some_inj a.row row (sym a.is_row ∙ r))) ∙ a.cells

  pub laid_there : (n : ℕ) (f : Form) → Laid ns ks n f → n < length ns
  laid_there n f h = let a = laid_node ns ks n f h in get_within ns n a.row a.is_row

  pub row_first : (path : Place → Path) (p : Phase) (l : List SlotView) (node at : ℕ) (f : Form) → slots_seen path l ≡ over (slots_seen path l) at (flat_each (flat f) (copies 0 (fresh p f)))
  row_first path p l node at f = sym (over_none (slots_seen path l) at)

  pub row_next : (path : Place → Path) (p : Phase) (l m k : List SlotView) (node at i j : ℕ) (row : Node) → slice_get ns node ≡ Some row → j ≡ i + 1
      → ((f : Form) → Laid ns ks node f → slots_seen path m ≡ over (slots_seen path l) at (flat_each (flat f) (copies i (fresh p f)))) → Filled ns ks p node (at + i * row.cells) m k
      → (f : Form) → Laid ns ks node f → slots_seen path k ≡ over (slots_seen path l) at (flat_each (flat f) (copies j (fresh p f)))
  row_next path p l m k node at i j row r s h g f laid =
      let c = node_cells node f row laid r in
      let d = copies_length p f i in
      let e : at + i * row.cells ≡ at + length (flat_each (flat f) (copies i (fresh p f))) = ap (λ t. at + i * t) c ∙ ap (λ t. at + t) (sym d) in
      let z : suc i ≡ j = omega arith in
      g path f laid ∙ ap (λ t. over t (at + i * row.cells) (new_slots p f)) (h f laid)
      ∙ over_twice (slots_seen path l) at (at + i * row.cells) (flat_each (flat f) (copies i (fresh p f))) (new_slots p f) e
      ∙ ap (over (slots_seen path l) at) (sym (copies_more (flat f) (fresh p f) i)) ∙ ap (λ t. over (slots_seen path l) at (flat_each (flat f) (copies t (fresh p f)))) z

  pub row_room : (many now node times at i : ℕ) (row : Node) → RowRoom ns ks many node times at → slice_get ns node ≡ Some row → i < times → now ≡ many → (at + i * row.cells < 2 ^ 32) × Room ns ks now node (at + i * row.cells)
  row_room many now node times at i row h r s e =
      let c = node_cells node h.form row h.laid r in
      let w = row_fits i times (cells h.form) s in
      let x : i * row.cells ≡ i * cells h.form = ap (λ t. i * t) c in
      let y = h.within in
      let z = h.small in
      (omega arith, record { form = h.form; laid = h.laid; within = omega arith; small = omega arith; few = h.few })

  -- bases and members

  pub parts_first : (l : List Slot) (at : ℕ) → l ≡ over l at []
  parts_first l at = sym (over_none l at)

  pub parts_next : (path : Place → Path) (p : Phase) (l m k : List SlotView) (parent from times at i j node : ℕ) (row : Node)
      → i < times → slice_get ks (from + i) ≡ Some node → slice_get ns node ≡ Some row → j ≡ i + 1
      → ((fs : Forms) (s : ℕ → Step) (n o : ℕ) → Listed ks from n fs → PartsLaid ns ks parent s false 0 n o fs → count fs ≡ times → slots_seen path m ≡ over (slots_seen path l) (at + o) (all_new p (first i fs)))
      → Filled ns ks p node (at + row.under.offset) m k
      → (fs : Forms) (s : ℕ → Step) (n o : ℕ) → Listed ks from n fs → PartsLaid ns ks parent s false 0 n o fs → count fs ≡ times → slots_seen path k ≡ over (slots_seen path l) (at + o) (all_new p (first j fs))
  parts_next path p l m k parent from times at i j node row lt found is_row step h g fs s n o listed laid all =
      let t = nth p fs i (omega arith) in
      let a : node ≡ n + t.part.node = some_inj node (n + t.part.node) (sym found ∙ item_listed ks false fs from n i t.part listed t.is_part) in
      let u = item_laid ns ks parent s false fs 0 n o i t.part laid t.is_part in
      let b : u.is_under.row ≡ row = some_inj u.is_under.row row (sym u.is_under.is_row ∙ ap (slice_get ns) (sym a) ∙ is_row) in
      let d : row.under.offset ≡ o + t.part.slot = ap (λ (r : Node). r.under.offset) (sym b) ∙ ap (λ (z : Under). z.offset) u.is_under.under_is in
      let y = t.slot in
      let e : at + row.under.offset ≡ at + o + length (all_new p (first i fs)) = omega arith in
      let z : suc i ≡ j = omega arith in
      g path t.part.form (subst (λ q. Laid ns ks q t.part.form) (sym a) u.laid)
      ∙ ap (λ q. over q (at + row.under.offset) (new_slots p t.part.form)) (h fs s n o listed laid all)
      ∙ over_twice (slots_seen path l) (at + o) (at + row.under.offset) (all_new p (first i fs)) (new_slots p t.part.form) e
      ∙ ap (over (slots_seen path l) (at + o)) (sym t.more) ∙ ap (λ q. over (slots_seen path l) (at + o) (all_new p (first q fs))) z

  pub parts_last : (p : Phase) (l m : List SlotView) (parent from times at i : ℕ) → i ≡ times
      → ((path : Place → Path) (fs : Forms) (s : ℕ → Step) (n o : ℕ) → Listed ks from n fs → PartsLaid ns ks parent s false 0 n o fs → count fs ≡ times → slots_seen path m ≡ over (slots_seen path l) (at + o) (all_new p (first i fs)))
      → PartsFilled ns ks p parent from times at l m
  parts_last p l m parent from times at i w h path fs s n o listed laid all = h path fs s n o listed laid all ∙ ap (λ q. over (slots_seen path l) (at + o) (all_new p q)) (first_all fs i (w ∙ sym all))

  -- the part that is listed there
  pub record PartRoom (now parent from at i : ℕ) : Type 0 where
    pub node : ℕ
    pub is_listed : slice_get ks (from + i) ≡ Some node
    pub row : Node
    pub is_row : slice_get ns node ≡ Some row
    pub later : parent < node
    pub fits : at + row.under.offset < 2 ^ 32
    pub room : Room ns ks now node (at + row.under.offset)

  pub part_room : (many now parent from times at i : ℕ) → PartsRoom ns ks many parent from times at → i < times → now ≡ many → PartRoom now parent from at i
  part_room many now parent from times at i h lt e =
      let a = h.all in
      let t = nth phase.Alive h.forms i (omega arith) in
      let u = item_laid ns ks parent h.step false h.forms 0 h.node h.offset i t.part h.laid t.is_part in
      let b = (item_inside false h.forms i t.part t.is_part).in_cells in
      let d : u.is_under.row.under.offset ≡ h.offset + t.part.slot = ap (λ (z : Under). z.offset) u.is_under.under_is in
      let x = h.later in
      let y = h.within in
      let z = h.small in
      record {
        node = h.node + t.part.node;
        is_listed = item_listed ks false h.forms from h.node i t.part h.listed t.is_part;
        row = u.is_under.row;
        is_row = u.is_under.is_row;
        later = omega arith;
        fits = omega arith;
        room = record { form = t.part.form; laid = u.laid; within = omega arith; small = omega arith; few = h.few };
      }

  pub room_of : (now parent from at i node : ℕ) (row : Node) → PartRoom now parent from at i → slice_get ks (from + i) ≡ Some node → slice_get ns node ≡ Some row → (parent < node) × (at + row.under.offset < 2 ^ 32) × Room ns ks now node (at + row.under.offset)
  room_of now parent from at i node row h l r =
      let a : h.node ≡ node = some_inj h.node node (sym h.is_listed ∙ l) in
      let b : h.row ≡ row = some_inj h.row row (sym h.is_row ∙ ap (slice_get ns) a ∙ r) in
      subst (λ k. (parent < k) × (at + row.under.offset < 2 ^ 32) × Room ns ks now k (at + row.under.offset)) a
      (subst (λ (z : Node). (parent < h.node) × (at + z.under.offset < 2 ^ 32) × Room ns ks now h.node (at + z.under.offset)) b (h.later, h.fits, h.room))

  pub laid_of : (now parent from at i node : ℕ) → PartRoom now parent from at i → slice_get ks (from + i) ≡ Some node → node < length ns
  laid_of now parent from at i node h l =
      let a : h.node ≡ node = some_inj h.node node (sym h.is_listed ∙ l) in
      get_within ns node h.row (ap (slice_get ns) (sym a) ∙ h.is_row)
