-- What new trees show at a cell.
use Rattle.std.proofs.Common.{◌≡◌, ℕ, zero, suc, ◌+◌, ◌*◌, ◌-◌, ◌/◌, ◌%◌, ◌^◌, ◌≤◌, ◌<◌, Bool, true, false, List, [], ◌∷◌, ◌++◌, length, Option, None, Some, refl, sym, ap, subst, ◌∙◌, arith, slice_get, length-append}
use Rattle.std.proofs.Math.Nat.{suc-mul, mod-lt, div-lt_iff_lt-mul}
use Rattle.std.proofs.lemmas.Nat.{div-add-mod'}
use Rattle.std.proofs.lemmas.Option.{slice_get_past}
use Rattle.std.specs.Prelude.{option_map}
use Rattle.cx_type_defs.specs.declared.ids.Step.{Step}
use Rattle.cx_type_defs.specs.declared.ids.Step.TheVariants as step
use Rattle.cx_type_defs.proofs.Lists.{some_inj}
use Rattle.cx_state.specs.declared.kind.Phase.{Phase}
use Rattle.cx_state.specs.declared.kind.Phase.TheVariants as phase
use Rattle.cx_state.specs.declared.kind.Scalar.TheVariants as scalar
use Rattle.cx_state.specs.Objects.{Path, Tree, copies}
use Rattle.cx_layout.specs.declared.columns.Kind.TheVariants as kind
use Rattle.cx_layout.specs.declared.columns.ClassParts.{ClassParts}
use Rattle.cx_layout.specs.declared.columns.Node.{Node}
use Rattle.cx_layout.specs.declared.columns.Under.{Under}
use Rattle.cx_layout.specs.declared.place.Place.{Place}
use Rattle.cx_layout.specs.Forms.{Form, Forms, Leaf, Row, Class, End, More, count, nodes, nodes_in, cells, cells_in, Part, further, whole, item}
use Rattle.cx_layout.specs.Laid.{Listed, Laid, PartsLaid, kind_of}
use Rattle.cx_layout.proofs.Filling.{get_within}
use Rattle.cx_layout.proofs.Parts.{laid_node, item_listed, item_laid}
use Rattle.cx_layout.proofs.Options.{map_some}
use Rattle.cx_slots.specs.declared.slot.SlotView.{SlotView}
use Rattle.cx_slots.specs.declared.slot.SlotView.TheVariants as view
use Rattle.cx_slots.specs.Slots.{Slot, slot_seen}
use Rattle.cx_slots.specs.Slots as slot
use Rattle.cx_slots.specs.Flat.{blanks, flat, flat_each}
use Rattle.cx_slots.specs.Fresh.{fresh, new_slots, all_new, first}
use Rattle.cx_slots.proofs.Fresh.{new_length, all_new_length, nth, first_all}
use Rattle.cx_slot_calls.proofs.Filling.{blanks_join, laid_there, node_cells, part_room, room_of}
use Rattle.cx_slot_calls.proofs.Filled.{ClassForm, class_form}
use Rattle.cx_blocks.specs.News.{Shows, IsNew, AreNew, NewAt, PartsNewAt, union_at}

-- some path for each place
nowhere : Place → Path
nowhere at = record { object = 0; steps = []; past = false }

-- a list behind another

get_front : {A : Type 0} (xs ys : List A) (i : ℕ) → i < length xs → slice_get (xs ++ ys) i ≡ slice_get xs i
get_front [] ys i h = absurd (omega arith)
get_front (x ∷ xs) ys zero h = refl
get_front (x ∷ xs) ys (suc i) h = get_front xs ys i (omega arith)

get_back : {A : Type 0} (xs ys : List A) (i : ℕ) → length xs ≤ i → slice_get (xs ++ ys) i ≡ slice_get ys (i - length xs)
get_back [] ys i h = let w : i ≡ i - 0 = omega arith in ap (slice_get ys) w
get_back (x ∷ xs) ys zero h = absurd (omega arith)
get_back (x ∷ xs) ys (suc i) h = let w : i - length xs ≡ suc i - suc (length xs) = omega arith in get_back xs ys i (omega arith) ∙ ap (slice_get ys) w

get_none : {A : Type 0} (xs : List A) (i : ℕ) → slice_get xs i ≡ None → length xs ≤ i
get_none [] i e = omega arith
get_none (x ∷ xs) zero e = absurd (cc)
get_none (x ∷ xs) (suc i) e = let w = get_none xs i e in omega arith

get_some : {A : Type 0} (xs ys : List A) (i : ℕ) (x : A) → slice_get xs i ≡ Some x → slice_get (xs ++ ys) i ≡ Some x
get_some [] ys i x e = absurd (cc)
get_some (a ∷ xs) ys zero x e = e
get_some (a ∷ xs) ys (suc i) x e = get_some xs ys i x e

-- elements

copies_at : (c : ℕ) (g : Tree → List Slot) (x : Tree) → length (g x) ≡ c → (n k r : ℕ) → k < n → r < c → slice_get (flat_each g (copies n x)) (k * c + r) ≡ slice_get (g x) r
copies_at c g x e zero k r l h = absurd (omega arith)
copies_at c g x e (suc n) zero r l h =
    let w : 0 * c + r ≡ r = omega arith in
    ap (slice_get (g x ++ flat_each g (copies n x))) w ∙ get_front (g x) (flat_each g (copies n x)) r (omega arith)
copies_at c g x e (suc n) (suc k) r l h =
    let m = suc-mul k c in
    let w : suc k * c + r - length (g x) ≡ k * c + r = omega arith in
    get_back (g x) (flat_each g (copies n x)) (suc k * c + r) (omega arith) ∙ ap (slice_get (flat_each g (copies n x))) w ∙ copies_at c g x e n k r (omega arith) h

row_at : (p : Phase) (f : Form) (n i c : ℕ) → c ≡ cells f → i < n * c → slice_get (new_slots p (Row n f)) i ≡ slice_get (new_slots p f) (i % c)
row_at p f n i zero e l = absurd (omega arith)
row_at p f n i (suc c) e l =
    let pos : 0 < suc c = omega arith in
    let a = div-add-mod' i (suc c) in
    let k : i / suc c < n = (div-lt_iff_lt-mul pos).1 l in
    ap (slice_get (new_slots p (Row n f))) (sym a) ∙ copies_at (suc c) (flat f) (fresh p f) (new_length p f ∙ sym e) n (i / suc c) (i % suc c) k (mod-lt i pos)

-- a union

blank_at : (n i : ℕ) → i < n → slice_get (blanks n) i ≡ Some (slot.Value scalar.Indeterminate)
blank_at zero i h = absurd (omega arith)
blank_at (suc n) zero h = refl
blank_at (suc n) (suc i) h = blank_at n i (omega arith)

union_shows : (a b i : ℕ) → i < suc (a + b) → Shows (Some (union_at i)) (slice_get (slot.Active None ∷ (blanks a ++ blanks b)) i)
union_shows a b zero h path = refl
union_shows a b (suc i) h path = sym (ap (λ l. slice_get l i) (sym (blanks_join a b)) ∙ blank_at (a + b) i (omega arith))

-- one of some bases or members

part_at : (p : Phase) (fs : Forms) (k : ℕ) (t : Part) (i : ℕ) → item false fs k ≡ Some t → t.slot ≤ i → i < t.slot + cells t.form → slice_get (all_new p fs) i ≡ slice_get (new_slots p t.form) (i - t.slot)
part_at p End k t i e a b = absurd (cc)
part_at p (More f fs) zero t i e a b =
    subst (λ (t : Part). t.slot ≤ i → i < t.slot + cells t.form → slice_get (new_slots p f ++ all_new p fs) i ≡ slice_get (new_slots p t.form) (i - t.slot)) (some_inj (whole f) t e) (first_at p f) a b
  where
    first_at : (p : Phase) (f : Form) → 0 ≤ i → i < 0 + cells f → slice_get (new_slots p f ++ all_new p fs) i ≡ slice_get (new_slots p f) (i - 0)
    first_at p f a b = let n = new_length p f in let w : i ≡ i - 0 = omega arith in get_front (new_slots p f) (all_new p fs) i (omega arith) ∙ ap (slice_get (new_slots p f)) w
part_at p (More f fs) (suc k) t i e a b =
    let m = map_some (further (nodes f) (cells f)) (item false fs k) t e in
    subst (λ (t : Part). t.slot ≤ i → i < t.slot + cells t.form → slice_get (new_slots p f ++ all_new p fs) i ≡ slice_get (new_slots p t.form) (i - t.slot)) m.2 (later m.0 (λ x y. part_at p fs k m.0 (i - cells f) m.1 x y)) a b
  where
    later : (u : Part) → (u.slot ≤ i - cells f → i - cells f < u.slot + cells u.form → slice_get (all_new p fs) (i - cells f) ≡ slice_get (new_slots p u.form) (i - cells f - u.slot)) → cells f + u.slot ≤ i → i < cells f + u.slot + cells u.form → slice_get (new_slots p f ++ all_new p fs) i ≡ slice_get (new_slots p u.form) (i - (cells f + u.slot))
    later u ih a b =
        let n = new_length p f in
        let w : i - cells f - u.slot ≡ i - (cells f + u.slot) = omega arith in
        get_back (new_slots p f) (all_new p fs) i (omega arith) ∙ ap (λ q. slice_get (all_new p fs) (i - q)) n ∙ ih (omega arith) (omega arith) ∙ ap (slice_get (new_slots p u.form)) w

-- a node, by its kind

leaf_form : (f : Form) → kind_of f ≡ kind.Scalar → f ≡ Leaf
leaf_form Leaf e = refl
leaf_form (Row n f) e = absurd (cc)
leaf_form (Class c u bs ms) e = absurd (cc)

row_form : (f : Form) (m : ℕ) → kind_of f ≡ kind.Array m → (g : Form) × (f ≡ Row m g)
row_form (Row n f) m e = (f, ap (λ k. Row k f) (cc))
row_form Leaf m e = absurd (cc)
row_form (Class c u bs ms) m e = absurd (cc)

module _ (ns : List Node) (ks : List ℕ) (node : ℕ) (row : Node) (r : slice_get ns node ≡ Some row) where
  kind_is : (f : Form) → Laid ns ks node f → kind_of f ≡ row.kind
  kind_is f h = let a = laid_node ns ks node f h in sym a.kind ∙ ap (λ (x : Node). x.kind) (some_inj a.row row (sym a.is_row ∙ r))

  pub in_nodes : node < length ns
  in_nodes = get_within ns node row r

  -- behind the last cell
  pub behind : (p : Phase) (i : ℕ) → row.cells ≤ i → NewAt ns ks p node i None
  behind p i h f laid path =
      let c = node_cells ns ks node f row laid r in
      let n = new_length p f in
      sym (slice_get_past (new_slots p f) i (omega arith))

  -- a scalar
  pub leaf_shows : (p : Phase) (i : ℕ) → i < row.cells → row.kind ≡ kind.Scalar → NewAt ns ks p node i (Some (view.Value scalar.Indeterminate))
  leaf_shows p i l k f laid path =
      let e = leaf_form f (kind_is f laid ∙ k) in
      let c : row.cells ≡ 1 = node_cells ns ks node f row laid r ∙ ap cells e in
      let z : i ≡ 0 = omega arith in
      sym (ap (λ (g : Form). slice_get (new_slots p g) i) e ∙ ap (slice_get (new_slots p Leaf)) z)

  -- elements
  pub element : (m : ℕ) → row.kind ≡ kind.Array m → IsNew ns ks node → (node + 1 < 2 ^ 32) × (node + 1 < length ns)
  element m k h =
      let g = row_form h.form m (kind_is h.form h.laid ∙ k) in
      let laid : Laid ns ks node (Row m g.0) = subst (Laid ns ks node) g.1 h.laid in
      let n : suc node ≡ node + 1 = omega arith in
      let t = laid_there ns ks (node + 1) g.0 (subst (λ q. Laid ns ks q g.0) n laid.2) in
      let few = h.few in
      (omega arith, t)

  module _ (m i : ℕ) (k : row.kind ≡ kind.Array m) (l : i < row.cells) (inner : Node) (is_inner : slice_get ns (node + 1) ≡ Some inner) where
    own : (f : Form) → Laid ns ks node f → (g : Form) × (f ≡ Row m g) × Laid ns ks (node + 1) g × (inner.cells ≡ cells g) × (i < m * inner.cells)
    own f laid =
        let g = row_form f m (kind_is f laid ∙ k) in
        let whole : Laid ns ks node (Row m g.0) = subst (Laid ns ks node) g.1 laid in
        let n : suc node ≡ node + 1 = omega arith in
        let child : Laid ns ks (node + 1) g.0 = subst (λ q. Laid ns ks q g.0) n whole.2 in
        let c : row.cells ≡ m * cells g.0 = node_cells ns ks node f row laid r ∙ ap cells g.1 in
        let d = node_cells ns ks (node + 1) g.0 inner child is_inner in
        let x : m * inner.cells ≡ m * cells g.0 = ap (λ q. m * q) d in
        (g.0, g.1, child, d, omega arith)

    pub element_new : IsNew ns ks node → (1 ≤ inner.cells) × IsNew ns ks (node + 1)
    element_new h =
        let w = own h.form h.laid in
        let c = w.3 in
        let e : cells h.form ≡ m * cells w.0 = ap cells w.1 in
        let y = h.within in
        let d : m * inner.cells ≡ m * cells w.0 = ap (λ q. m * q) w.3 in
        let t = some_times m i inner.cells w.4 in
        let a = t.0 in
        let b = t.1 in
        (omega arith, record { form = w.0; laid = w.2; within = omega arith; small = h.small; few = h.few })
      where
        some_times : (m i c : ℕ) → i < m * c → (1 ≤ c) × (c ≤ m * c)
        some_times zero i c l = absurd (omega arith)
        some_times (suc m) i zero l = absurd (omega arith)
        some_times (suc m) i (suc c) l = let z = suc-mul m (suc c) in (omega arith, omega arith)

    pub row_shows : (p : Phase) (o : Option SlotView) → NewAt ns ks p (node + 1) (i % inner.cells) o → NewAt ns ks p node i o
    row_shows p o h f laid path =
        let w = own f laid in
        h w.0 w.2 path ∙ sym (ap (λ (g : Form). slice_get (new_slots p g) i) w.1 ∙ row_at p w.0 m i inner.cells w.3 w.4)

  -- classes and unions
  module _ (q : ClassParts) (k : row.kind ≡ kind.Class q) where
    record Own (u : Bool) (f : Form) : Type 0 where
      of : ClassForm f q u
      bases_listed : Listed ks row.bases_from (suc node) of.bases
      members_listed : Listed ks row.members_from (node + suc (nodes_in of.bases)) of.members
      bases_laid : PartsLaid ns ks node step.Base false 0 (suc node) 1 of.bases
      members_laid : PartsLaid ns ks node step.Field u 0 (node + suc (nodes_in of.bases)) (suc (cells_in false of.bases)) of.members
      cells_are : row.cells ≡ suc (cells_in false of.bases + cells_in u of.members)

    class_own : (u : Bool) (f : Form) → q.is_union ≡ u → Laid ns ks node f → Own u f
    class_own u f e laid =
        let c = class_form f q u (kind_is f laid ∙ k) e in
        let h : Laid ns ks node (Class q.class u c.bases c.members) = subst (Laid ns ks node) c.form_is laid in
        let d : h.0.row ≡ row = some_inj h.0.row row (sym h.0.is_row ∙ r) in
        record {
          of = c;
          bases_listed = subst (λ (x : Node). Listed ks x.bases_from (suc node) c.bases) d h.1;
          members_listed = subst (λ (x : Node). Listed ks x.members_from (node + suc (nodes_in c.bases)) c.members) d h.2;
          bases_laid = h.3;
          members_laid = h.4;
          cells_are = node_cells ns ks node f row laid r ∙ ap cells c.form_is;
        }

    pub union_new : (p : Phase) (i : ℕ) → i < row.cells → q.is_union ≡ true → NewAt ns ks p node i (Some (union_at i))
    union_new p i l u f laid path =
        let c = class_own true f u laid in
        let n = c.cells_are in
        union_shows (cells_in false c.of.bases) (cells_in true c.of.members) i (omega arith) path ∙ ap (λ (g : Form). slice_get (new_slots p g) i) (sym c.of.form_is)

    module _ (u : q.is_union ≡ false) where
      pub bases_new : (i : ℕ) → 1 ≤ i → IsNew ns ks node → AreNew ns ks node row.bases_from q.bases i
      bases_new i pos h =
          let c = class_own false h.form u h.laid in
          let e : cells h.form ≡ suc (cells_in false c.of.bases + cells_in false c.of.members) = ap cells c.of.form_is in
          let w = h.within in (
            record {
              forms = c.of.bases;
              step = step.Base;
              node = suc node;
              offset = 1;
              listed = c.bases_listed;
              laid = c.bases_laid;
              all = c.of.bases_are;
              later = omega arith;
              is_node = in_nodes;
              within = omega arith;
              small = h.small;
              few = h.few;
            },
            pos,
          )

      pub members_new : (p : Phase) (i : ℕ) → 1 ≤ i → PartsNewAt ns ks p node row.bases_from q.bases i None → IsNew ns ks node → AreNew ns ks node row.members_from q.members i
      members_new p i pos g h =
          let c = class_own false h.form u h.laid in
          let e : cells h.form ≡ suc (cells_in false c.of.bases + cells_in false c.of.members) = ap cells c.of.form_is in
          let w = h.within in
          let n = all_new_length p c.of.bases in
          let past = get_none (all_new p c.of.bases) (i - 1) (sym (g c.of.bases step.Base (suc node) 1 c.bases_listed c.bases_laid c.of.bases_are pos nowhere)) in (
            record {
              forms = c.of.members;
              step = step.Field;
              node = node + suc (nodes_in c.of.bases);
              offset = suc (cells_in false c.of.bases);
              listed = c.members_listed;
              laid = c.members_laid;
              all = c.of.members_are;
              later = omega arith;
              is_node = in_nodes;
              within = omega arith;
              small = h.small;
              few = h.few;
            },
            omega arith,
          )

      pub header_new : (p : Phase) → NewAt ns ks p node 0 (Some (view.Phase p))
      header_new p f laid path = let c = class_own false f u laid in ap (λ (g : Form). slice_get (new_slots p g) 0) (sym c.of.form_is)

      module _ (p : Phase) (i : ℕ) (pos : 1 ≤ i) (f : Form) (laid : Laid ns ks node f) (path : Place → Path) where
        c : Own false f
        c = class_own false f u laid

        tail : slice_get (new_slots p f) i ≡ slice_get (all_new p c.of.bases ++ all_new p c.of.members) (i - 1)
        tail = ap (λ (g : Form). slice_get (new_slots p g) i) c.of.form_is ∙ next i pos (slot.Header p) (all_new p c.of.bases ++ all_new p c.of.members)
          where
            next : (i : ℕ) → 1 ≤ i → (x : Slot) (l : List Slot) → slice_get (x ∷ l) i ≡ slice_get l (i - 1)
            next zero h x l = absurd (omega arith)
            next (suc i) h x l = let w : i ≡ suc i - 1 = omega arith in ap (slice_get l) w

        in_bases : (o : Option SlotView) → PartsNewAt ns ks p node row.bases_from q.bases i o → option_map (slot_seen path) o ≡ slice_get (all_new p c.of.bases) (i - 1)
        in_bases o h = h c.of.bases step.Base (suc node) 1 c.bases_listed c.bases_laid c.of.bases_are pos path

        pub base_shows : (v : SlotView) → PartsNewAt ns ks p node row.bases_from q.bases i (Some v) → Some (slot_seen path v) ≡ slice_get (new_slots p f) i
        base_shows v h = sym (tail ∙ get_some (all_new p c.of.bases) (all_new p c.of.members) (i - 1) (slot_seen path v) (sym (in_bases (Some v) h)))

        pub member_shows : (o : Option SlotView) → PartsNewAt ns ks p node row.bases_from q.bases i None → PartsNewAt ns ks p node row.members_from q.members i o → option_map (slot_seen path) o ≡ slice_get (new_slots p f) i
        member_shows o g h =
            let n = all_new_length p c.of.bases in
            let past = get_none (all_new p c.of.bases) (i - 1) (sym (in_bases None g)) in
            let from : suc (cells_in false c.of.bases) ≤ i = omega arith in
            let w : i - 1 - length (all_new p c.of.bases) ≡ i - suc (cells_in false c.of.bases) = omega arith in
            h c.of.members step.Field (node + suc (nodes_in c.of.bases)) (suc (cells_in false c.of.bases)) c.members_listed c.members_laid c.of.members_are from path
            ∙ sym (tail ∙ get_back (all_new p c.of.bases) (all_new p c.of.members) (i - 1) past ∙ ap (slice_get (all_new p c.of.members)) w)

-- some of the bases or members lie before the cell

module _ (ns : List Node) (ks : List ℕ) (parent from times i : ℕ) where
  abbrev pub Before : ℕ → Type 0
  Before k = (fs : Forms) (s : ℕ → Step) (n o : ℕ) → Listed ks from n fs → PartsLaid ns ks parent s false 0 n o fs → count fs ≡ times → o ≤ i → o + cells_in false (first k fs) ≤ i

  pub none_before : Before 0
  none_before fs s n o listed laid all le = omega arith

  module _ (k node : ℕ) (row : Node) (lt : k < times) (found : slice_get ks (from + k) ≡ Some node) (is_row : slice_get ns node ≡ Some row) where
    record Kth (fs : Forms) (o : ℕ) : Type 0 where
      part : Part
      is_part : item false fs k ≡ Some part
      slot : part.slot ≡ cells_in false (first k fs)
      next : cells_in false (first (suc k) fs) ≡ cells_in false (first k fs) + cells part.form
      laid : Laid ns ks node part.form
      offset : row.under.offset ≡ o + part.slot
      cells_are : row.cells ≡ cells part.form

    kth : (fs : Forms) (s : ℕ → Step) (n o : ℕ) → Listed ks from n fs → PartsLaid ns ks parent s false 0 n o fs → count fs ≡ times → Kth fs o
    kth fs s n o listed laid all =
        let t = nth phase.Alive fs k (omega arith) in
        let a : node ≡ n + t.part.node = some_inj node (n + t.part.node) (sym found ∙ item_listed ks false fs from n k t.part listed t.is_part) in
        let u = item_laid ns ks parent s false fs 0 n o k t.part laid t.is_part in
        let b : u.is_under.row ≡ row = some_inj u.is_under.row row (sym u.is_under.is_row ∙ ap (slice_get ns) (sym a) ∙ is_row) in
        let own = subst (λ q. Laid ns ks q t.part.form) (sym a) u.laid in
        let x = all_new_length phase.Alive (first k fs) in
        let y = all_new_length phase.Alive (first (suc k) fs) in
        let z = new_length phase.Alive t.part.form in
        let m : length (all_new phase.Alive (first (suc k) fs)) ≡ length (all_new phase.Alive (first k fs)) + length (new_slots phase.Alive t.part.form) = ap length t.more ∙ length-append (all_new phase.Alive (first k fs)) (new_slots phase.Alive t.part.form) in
        record {
          part = t.part;
          is_part = t.is_part;
          slot = t.slot ∙ x;
          next = omega arith;
          laid = own;
          offset = ap (λ (r : Node). r.under.offset) (sym b) ∙ ap (λ (z : Under). z.offset) u.is_under.under_is;
          cells_are = node_cells ns ks node t.part.form row own is_row;
        }

    pub one_more : (j : ℕ) → j ≡ k + 1 → Before k → row.under.offset + row.cells ≤ i → Before j
    one_more j e h past fs s n o listed laid all le =
        let t = kth fs s n o listed laid all in
        let a = t.slot in
        let b = t.next in
        let c = t.offset in
        let d = t.cells_are in
        let z : suc k ≡ j = omega arith in
        subst (λ q. o + cells_in false (first q fs) ≤ i) z (omega arith)

    pub kth_new : AreNew ns ks parent from times i → (parent < node) × (row.under.offset + row.cells < 2 ^ 32) × IsNew ns ks node
    kth_new h =
        let w = room_of ns ks 1073741824 parent from 0 k node row (part_room ns ks 1073741824 1073741824 parent from times 0 k h.0 lt refl) found is_row in
        let y = w.2.within in
        let c = node_cells ns ks node w.2.form row w.2.laid is_row in
        (w.0, omega arith, record { form = w.2.form; laid = w.2.laid; within = omega arith; small = w.2.small; few = w.2.few })

    pub kth_from : AreNew ns ks parent from times i → Before k → row.under.offset ≤ i
    kth_from h past =
        let r = h.0 in
        let t = kth r.forms r.step r.node r.offset r.listed r.laid r.all in
        let a = t.slot in
        let c = t.offset in
        let b = past r.forms r.step r.node r.offset r.listed r.laid r.all h.1 in
        omega arith

    pub kth_shows : (p : Phase) (r : Option SlotView) → Before k → i < row.under.offset + row.cells → NewAt ns ks p node (i - row.under.offset) r → PartsNewAt ns ks p parent from times i r
    kth_shows p r past l h fs s n o listed laid all le path =
        let t = kth fs s n o listed laid all in
        let a = t.slot in
        let c = t.offset in
        let d = t.cells_are in
        let b = past fs s n o listed laid all le in
        let w : i - o - t.part.slot ≡ i - row.under.offset = omega arith in
        h t.part.form t.laid path ∙ sym (part_at p fs k t.part (i - o) t.is_part (omega arith) (omega arith) ∙ ap (slice_get (new_slots p t.part.form)) w)

  pub none_left : (p : Phase) (k : ℕ) → k ≡ times → Before k → PartsNewAt ns ks p parent from times i None
  none_left p k e past fs s n o listed laid all le path =
      let b = past fs s n o listed laid all le in
      let c = ap (cells_in false) (first_all fs k (e ∙ sym all)) in
      let d = all_new_length p fs in
      sym (slice_get_past (all_new p fs) (i - o) (omega arith))
