-- What is found of a part on the way to it: its type, whether it is there, and whether it is sealed.
use Rattle.std.proofs.Common.{◌≡◌, ℕ, ◌≤◌, ◌<◌, Bool, true, false, true≢false, not, ◌&&◌, ◌||◌, List, [], ◌∷◌, ◌++◌, length, Option, None, Some, refl, sym, ap, subst, ◌∙◌, arith, slice_get}
use Rattle.std.specs.Prelude.{option_map, option_and_then, unwrap_or, is_some, IsSome}
use Rattle.cx_type_defs.specs.declared.ids.Step.{Step}
use Rattle.cx_type_defs.specs.declared.ids.TypeId.{TypeId}
use Rattle.cx_type_defs.specs.declared.ids.ClassId.{ClassId}
use Rattle.cx_type_defs.specs.declared.ids.Step.TheVariants as step
use Rattle.cx_type_defs.specs.declared.kind.TypeRow.{TypeRow}
use Rattle.cx_type_defs.specs.declared.kind.TypeKind.TheVariants as type_kind
use Rattle.cx_type_defs.specs.declared.decl.Field.{Field}
use Rattle.cx_type_defs.specs.Tables.{Tables, field_of}
use Rattle.cx_type_defs.specs.Sound.{Sound}
use Rattle.cx_state.specs.declared.kind.Phase.{Phase}
use Rattle.cx_state.specs.declared.kind.Phase.TheVariants as phase
use Rattle.cx_state.specs.declared.kind.Scalar.TheVariants as scalar
use Rattle.cx_state.specs.Objects.{Path, Tree, Trees, part, below}
use Rattle.cx_state.specs.Objects as tree
use Rattle.cx_state.specs.Places.{kind_part, row_part, row_below}
use Rattle.cx_state.specs.Conditions.{is_alive, is_leaf, is_indeterminate, is_sealed, sealed, passes}
use Rattle.cx_state.proofs.Spots.{row_below-one}
use Rattle.cx_layout.specs.declared.columns.Node.{Node}
use Rattle.cx_layout.specs.declared.place.Place.{Place}
use Rattle.cx_layout.specs.Forms.{Form, Leaf, Row, Class, cells, Part, whole, part_of, below_of}
use Rattle.cx_layout.specs.Laid.{kind_of}
use Rattle.cx_layout.specs.Described.{Described}
use Rattle.cx_layout.specs.Walks.{IsIn}
use Rattle.cx_layout.proofs.Options.{some_inj, and_then_some, map_some}
use Rattle.cx_layout.proofs.Fitting.{below_inside}
use Rattle.cx_layout.proofs.Parts.{laid_node, part_laid}
use Rattle.cx_layout.proofs.Walking.{Above}
use Rattle.cx_layout.proofs.Agreeing.{Both, below_both}
use Rattle.cx_slots.specs.declared.slot.SlotView.{SlotView}
use Rattle.cx_slots.specs.declared.slot.SlotView.TheVariants as view
use Rattle.cx_slots.specs.Slots.{Slot, slot_seen}
use Rattle.cx_slots.specs.Slots as slot
use Rattle.cx_slots.specs.Flat.{Fits, flat}
use Rattle.cx_slot_calls.specs.Rules.{Show}
use Rattle.cx_slot_calls.specs.Walks.{slot_at}
use Rattle.cx_slot_calls.proofs.Opening.{first_of, lets_of, lets_seen, lets_same, part_there, tree_last}
use Rattle.cx_slot_calls.proofs.Walking.{part_head}
use Rattle.cx_slot_places.specs.declared.walk.Next.{Next}
use Rattle.cx_slot_places.specs.declared.seal.Standing.{Standing}
use Rattle.cx_slot_places.specs.Lives.{IsFormOf}
use Rattle.cx_slot_places.specs.Walks.{Within, stepped, CanStep, Starts}
use Rattle.cx_slot_places.specs.Standings.{opens, stood, has_header, fast_phase, fast_value, holds_fast, IsStanding, Stands}
use Rattle.cx_slot_places.proofs.Walking.{in_within, whole_within, up, up_within, kind_above, can_step, step_is}
use Rattle.cx_slot_places.proofs.Shaping.{part_both}

or_false : (b : Bool) → (b || false) ≡ b
or_false true = refl
or_false false = refl

or_assoc : (a b c : Bool) → (a || (b || c)) ≡ ((a || b) || c)
or_assoc true b c = refl
or_assoc false b c = refl

-- one step more: what is sealed there is told beside what is on the way

module _ (t : Tables) where
  abbrev told : List Step → Option Tree → TypeRow → Bool
  told ss o q = unwrap_or (option_map (λ y. sealed t q y ss) o) false

  sealed_one : (r q : TypeRow) (x : Tree) (s : Step) → row_part t r s ≡ Some q → sealed t r x (s ∷ []) ≡ (is_sealed r x || passes (is_sealed q) (below x (s ∷ [])))
  sealed_one r q x s e = ap (λ o. is_sealed r x || unwrap_or (option_and_then (λ (q : TypeRow). option_map (λ y. sealed t q y []) (part x s)) o) false) e ∙ ap (λ b. is_sealed r x || b) (go (part x s))
    where
      go : (o : Option Tree) → told [] o q ≡ passes (is_sealed q) (option_and_then (λ y. Some y) o)
      go None = refl
      go (Some y) = refl

  pub sealed_last : (r q : TypeRow) (x : Tree) (ss : List Step) (s : Step) → row_below t r (ss ++ s ∷ []) ≡ Some q → sealed t r x (ss ++ s ∷ []) ≡ (sealed t r x ss || passes (is_sealed q) (below x (ss ++ s ∷ [])))
  sealed_last r q x [] s e =
      let a = and_then_some (λ (q : TypeRow). Some q) (row_part t r s) q e in
      sealed_one r q x s (a.1 ∙ a.2)
  sealed_last r q x (u ∷ ss) s e =
      let a = and_then_some (λ (w : TypeRow). row_below t w (ss ++ s ∷ [])) (row_part t r u) q e in
      ap (λ o. is_sealed r x || unwrap_or (option_and_then (λ (q : TypeRow). option_map (λ y. sealed t q y (ss ++ s ∷ [])) (part x u)) o) false) a.1
      ∙ go (part x u) a.0 (λ y. sealed_last a.0 q y ss s a.2)
      ∙ ap (λ o. (is_sealed r x || unwrap_or (option_and_then (λ (q : TypeRow). option_map (λ y. sealed t q y ss) (part x u)) o) false) || passes (is_sealed q) (option_and_then (λ y. below y (ss ++ s ∷ [])) (part x u))) (sym a.1)
    where
      go : (o : Option Tree) (w : TypeRow) → ((y : Tree) → sealed t w y (ss ++ s ∷ []) ≡ (sealed t w y ss || passes (is_sealed q) (below y (ss ++ s ∷ []))))
          → (is_sealed r x || told (ss ++ s ∷ []) o w) ≡ ((is_sealed r x || told ss o w) || passes (is_sealed q) (option_and_then (λ y. below y (ss ++ s ∷ [])) o))
      go None w h = sym (or_false (is_sealed r x || false))
      go (Some y) w h = ap (λ b. is_sealed r x || b) (h y) ∙ or_assoc (is_sealed r x) (sealed t w y ss) (passes (is_sealed q) (below y (ss ++ s ∷ [])))

-- what slots show

pub opens_of : (g : Form) (v : SlotView) (s : Step) → opens (kind_of g) v s ≡ lets_of g v s
opens_of Leaf v s = refl
opens_of (Row n g) v s = refl
opens_of (Class c u bs ms) v s = refl

abbrev value_seen : Slot → Bool
value_seen (slot.Value v) = not (is_indeterminate (tree.Leaf v))
value_seen v = false

abbrev alive_seen : Slot → Bool
alive_seen (slot.Header p) = is_alive (tree.Class p tree.End tree.End)
alive_seen v = false

module _ (path : Place → Path) where
  value_same : (v : SlotView) → fast_value v ≡ value_seen (slot_seen path v)
  value_same (view.Value scalar.Indeterminate) = refl
  value_same (view.Value (scalar.Int i)) = refl
  value_same (view.Value scalar.Null) = refl
  value_same (view.Value (scalar.Place p)) = refl
  value_same (view.Phase p) = refl
  value_same (view.Active m) = refl

  phase_same : (v : SlotView) → fast_phase v ≡ alive_seen (slot_seen path v)
  phase_same (view.Value v) = refl
  phase_same (view.Phase phase.Unborn) = refl
  phase_same (view.Phase phase.Bases) = refl
  phase_same (view.Phase phase.Body) = refl
  phase_same (view.Phase phase.Alive) = refl
  phase_same (view.Phase phase.Ending) = refl
  phase_same (view.Phase phase.EndingBases) = refl
  phase_same (view.Phase phase.Ended) = refl
  phase_same (view.Active m) = refl

  alive_alone : (p : Phase) (xs ys : Trees) → is_alive (tree.Class p tree.End tree.End) ≡ (is_alive (tree.Class p xs ys) || false)
  alive_alone phase.Unborn xs ys = refl
  alive_alone phase.Bases xs ys = refl
  alive_alone phase.Body xs ys = refl
  alive_alone phase.Alive xs ys = refl
  alive_alone phase.Ending xs ys = refl
  alive_alone phase.EndingBases xs ys = refl
  alive_alone phase.Ended xs ys = refl

  pub fast_is : (g : Form) (y : Tree) (v : SlotView) (more : List Slot) → Fits g y → slot_seen path v ≡ first_of (flat g y ++ more) 0 → holds_fast (kind_of g) v ≡ (is_alive y || (is_leaf y && not (is_indeterminate y)))
  fast_is Leaf (tree.Leaf z) v more h e = value_same v ∙ ap value_seen e
  fast_is (Row n g) (tree.Row xs) v more h e = refl
  fast_is (Class c false bs ms) (tree.Class p xs ys) v more h e = phase_same v ∙ ap alive_seen e ∙ alive_alone p xs ys
  fast_is (Class c true bs ms) tree.Union v more h e = phase_same v ∙ ap alive_seen e
  fast_is (Class c true bs ms) (tree.Active m x) v more h e = phase_same v ∙ ap alive_seen e
  fast_is g y v more h e = absurd h

header_cells : (g : Form) → has_header (kind_of g) ≡ true → 1 ≤ cells g
header_cells Leaf e = omega arith
header_cells (Row n g) e = absurd (true≢false (sym e))
header_cells (Class c u bs ms) e = omega arith

-- the type of the part that a step leads to
pub row_there : (t : Tables) (sound : Sound t) (s : Step) (r : TypeRow) (g : Form) (q : Part) → IsFormOf t r.kind g → part_of g s ≡ Some q → IsSome (row_part t r s)
row_there t sound s r g q h e = go (row_part t r s) (part_of g s) (part_both t sound s r g h) e
  where
    go : (x : Option TypeRow) (a : Option Part) → Both t sound x a → a ≡ Some q → IsSome x
    go (Some w) a b e = refl
    go None None b e = absurd (cc)
    go None (Some p) b e = absurd b

pub field_row_is : (t : Tables) (r q : TypeRow) (s : Step) (c : ClassId) (i : ℕ) (ty : TypeId) → r.kind ≡ type_kind.Class c → s ≡ step.Field i → option_map (λ (f : Field). f.ty) (field_of t c i) ≡ Some ty → slice_get t.rows ty.0 ≡ Some q → row_part t r s ≡ Some q
field_row_is t r q s c i ty e h f g =
    let m = map_some (λ (f : Field). f.ty) (field_of t c i) ty f in
    ap (λ k. kind_part t r.konst k s) e ∙ ap (kind_part t r.konst (type_kind.Class c)) h ∙ ap (option_and_then (λ (f : Field). slice_get t.rows f.ty.0)) m.1 ∙ ap (λ (y : TypeId). slice_get t.rows y.0) m.2 ∙ g

below_row : (t : Tables) (sound : Sound t) (r w : TypeRow) (f : Form) (ss : List Step) (q : Part) → IsFormOf t r.kind f → row_below t r ss ≡ Some w → below_of f ss ≡ Some q → IsFormOf t w.kind q.form
below_row t sound r w f ss q h a b = go (row_below t r ss) (below_of f ss) (below_both t sound ss r f h) a b
  where
    go : (x : Option TypeRow) (o : Option Part) → Both t sound x o → x ≡ Some w → o ≡ Some q → IsFormOf t w.kind q.form
    go (Some y) (Some p) b e k = subst (λ (z : TypeRow). IsFormOf t z.kind q.form) (some_inj y w e) (subst (λ (z : Part). IsFormOf t y.kind z.form) (some_inj p q k) b)
    go None o b e k = absurd (cc)
    go (Some y) None b e k = absurd b

-- the slot of a header is among those of the whole
pub header_there : (ns : List Node) (ks : List ℕ) (f : Form) (d : Described ns ks f) (node slot : ℕ) (l : List SlotView) → length l ≡ cells f → (ss : List Step) (p : Part) → Within f node slot ss p → (row : Node) → slice_get ns node ≡ Some row → has_header row.kind ≡ true → p.slot < length l
header_there ns ks f d node slot l len ss p h row r e =
    let i = laid_node ns ks p.node p.form (part_laid ns ks f ss p d.laid h.leads) in
    let k : row.kind ≡ kind_of p.form = ap (λ (x : Node). x.kind) (some_inj row i.row (sym r ∙ ap (slice_get ns) (sym h.node_is) ∙ i.is_row)) ∙ i.kind in
    let c = header_cells p.form (ap has_header (sym k) ∙ e) in
    let w = (below_inside f ss p h.leads).in_cells in
    omega arith

pub node_kind : (ns : List Node) (ks : List ℕ) (f : Form) (d : Described ns ks f) (node slot : ℕ) (ss : List Step) (p : Part) → Within f node slot ss p → (row : Node) → slice_get ns node ≡ Some row → row.kind ≡ kind_of p.form
node_kind ns ks f d node slot ss p h row r =
    let i = laid_node ns ks p.node p.form (part_laid ns ks f ss p d.laid h.leads) in
    ap (λ (x : Node). x.kind) (some_inj row i.row (sym r ∙ ap (slice_get ns) (sym h.node_is) ∙ i.is_row)) ∙ i.kind

-- what a part that is there shows
part_fast : (ns : List Node) (ks : List ℕ) (f : Form) (d : Described ns ks f) (node slot : ℕ) (ss : List Step) (p : Part) → Within f node slot ss p → (row : Node) → slice_get ns node ≡ Some row
    → (path : Place → Path) (l : List SlotView) (x : Tree) → Show path l f x → (q : TypeRow) (y : Tree) → below x ss ≡ Some y → (q.konst && holds_fast row.kind (slot_at l p.slot)) ≡ is_sealed q y
part_fast ns ks f d node slot ss p h row r path l x show q y e =
    let k = part_head path l f x show ss p y h.leads e in
    ap (λ k. q.konst && holds_fast k (slot_at l p.slot)) (node_kind ns ks f d node slot ss p h row r) ∙ ap (λ b. q.konst && b) (fast_is path p.form y (slot_at l p.slot) k.0.back k.0.there k.1)

-- the whole

module _ (ns : List Node) (ks : List ℕ) (f : Form) (d : Described ns ks f) (node slot : ℕ) (z : node ≡ 0) (l : List SlotView) (row : Node) (r : slice_get ns node ≡ Some row) where
  pub whole_header : length l ≡ cells f → has_header row.kind ≡ true → 0 < length l
  whole_header len e =
      let h : Within f node 0 [] (whole f) = record { leads = refl; node_is = sym z; from = omega arith; before = λ m. absurd (omega arith) } in
      header_there ns ks f d node 0 l len [] (whole f) h row r e

  pub whole_stands : (t : Tables) (q : TypeRow) → Stands t q f l node slot (record { start = 0; row = q; there = true; sealed = q.konst && holds_fast row.kind (slot_at l 0) })
  whole_stands t q ss p h =
      let e = whole_within f node slot z ss p h in (
        sym e.1,
        ap (row_below t q) e.0,
        λ path x show. record {
          there = sym (ap (λ us. is_some (below x us)) e.0);
          sealed_is = ap (λ n. q.konst && holds_fast row.kind (slot_at l n)) (sym e.1) ∙ part_fast ns ks f d node slot ss p h row r path l x show q x (ap (below x) e.0) ∙ sym (ap (sealed t q x) e.0);
        },
      )

-- one step on

pub stand_starts : (t : Tables) (q : TypeRow) (f : Form) (l : List SlotView) (node slot : ℕ) (w : Standing) → Stands t q f l node slot w → Starts f node slot w.start
stand_starts t q f l node slot w g ss p h = (g ss p h).0

module _ (ns : List Node) (ks : List ℕ) (f : Form) (node slot : ℕ) (such : IsIn ns ks f node slot) (later : 1 ≤ node) (row : Node) (r : slice_get ns node ≡ Some row) (above : Node) (v : slice_get ns row.under.parent ≡ Some above)
    (t : Tables) (sound : Sound t) (q : TypeRow) (form : IsFormOf t q.kind f) (l : List SlotView) (w : Standing) (g : Stands t q f l row.under.parent slot w) (n : Next) (is : n ≡ stepped row w.start slot) where
  abbrev starts : Starts f row.under.parent slot w.start
  starts = stand_starts t q f l row.under.parent slot w g

  module _ (ss : List Step) (p : Part) (h : Within f node slot ss p) where
    abbrev o : Above ns ks f ss p
    o = up ns ks f node slot such.described later row r ss p h

    abbrev oh : Within f row.under.parent slot o.init o.outer
    oh = up_within ns ks f node slot such.described later row r ss p h

    next_is : n ≡ record { step = o.last_step; start = p.slot }
    next_is = is ∙ step_is ns ks f node slot such.described later row r ss p h w.start starts

    row_shown : IsSome (row_part t w.row n.step)
    row_shown =
        subst (λ (x : Next). IsSome (row_part t w.row x.step)) (sym next_is)
        (row_there t sound o.last_step w.row o.outer.form o.inner (below_row t sound q w.row f o.init o.outer form (g o.init o.outer oh).1 oh.leads) o.is_inner)

    module _ (inner : TypeRow) (e : row_part t w.row n.step ≡ Some inner) where
      row_is : row_below t q ss ≡ Some inner
      row_is =
          ap (row_below t q) o.are_steps ∙ row_below-one t q o.init o.last_step ∙ ap (option_and_then (λ (z : TypeRow). row_part t z o.last_step)) (g o.init o.outer oh).1
          ∙ sym (ap (λ (x : Next). row_part t w.row x.step) next_is) ∙ e

      module _ (path : Place → Path) (x : Tree) (show : Show path l f x) where
        abbrev before : IsStanding t q x o.init w
        before = (g o.init o.outer oh).2 path x show

        open_is : opens above.kind (slot_at l w.start) n.step ≡ lets_of o.outer.form (slot_at l o.outer.slot) o.last_step
        open_is =
            ap (λ k. opens k (slot_at l w.start) n.step) (kind_above ns ks f node slot such.described later row r ss p h above v) ∙ opens_of o.outer.form (slot_at l w.start) n.step
            ∙ ap (λ (x : Next). lets_of o.outer.form (slot_at l w.start) x.step) next_is ∙ ap (λ m. lets_of o.outer.form (slot_at l m) o.last_step) (g o.init o.outer oh).0

        there_is : (w.there && opens above.kind (slot_at l w.start) n.step) ≡ is_some (below x ss)
        there_is = ap (λ b. w.there && b) open_is ∙ ap (λ b. b && lets_of o.outer.form (slot_at l o.outer.slot) o.last_step) before.there ∙ go (below x o.init) refl ∙ sym (ap (λ us. is_some (below x us)) o.are_steps ∙ ap is_some (tree_last x o.init o.last_step))
          where
            go : (z : Option Tree) → below x o.init ≡ z → (is_some z && lets_of o.outer.form (slot_at l o.outer.slot) o.last_step) ≡ is_some (option_and_then (λ y. part y o.last_step) z)
            go None e = refl
            go (Some y) e =
                let k = part_head path l f x show o.init o.outer y o.leads e in
                lets_same path o.outer.form (slot_at l o.outer.slot) o.last_step ∙ ap (λ c. lets_seen o.outer.form c o.last_step) k.1 ∙ part_there o.outer.form y o.last_step o.inner k.0.back k.0.there o.is_inner

        sealed_here : (b : Bool) → b ≡ is_some (below x ss) → (b && inner.konst && holds_fast row.kind (slot_at l n.start)) ≡ passes (is_sealed inner) (below x ss)
        sealed_here b e = ap (λ (m : Next). b && inner.konst && holds_fast row.kind (slot_at l m.start)) next_is ∙ ap (λ c. c && inner.konst && holds_fast row.kind (slot_at l p.slot)) e ∙ go (below x ss) refl
          where
            go : (z : Option Tree) → below x ss ≡ z → (is_some z && inner.konst && holds_fast row.kind (slot_at l p.slot)) ≡ passes (is_sealed inner) z
            go None e = refl
            go (Some y) e = part_fast ns ks f such.described node slot ss p h row r path l x show inner y e

        sealed_next : (w.sealed || (w.there && opens above.kind (slot_at l w.start) n.step) && inner.konst && holds_fast row.kind (slot_at l n.start)) ≡ sealed t q x ss
        sealed_next =
            ap (λ b. w.sealed || b) (sealed_here (w.there && opens above.kind (slot_at l w.start) n.step) there_is) ∙ ap (λ b. b || passes (is_sealed inner) (below x ss)) before.sealed_is
            ∙ sym (ap (sealed t q x) o.are_steps ∙ sealed_last t q inner x o.init o.last_step (ap (row_below t q) (sym o.are_steps) ∙ row_is) ∙ ap (λ us. sealed t q x o.init || passes (is_sealed inner) (below x us)) (sym o.are_steps))

  pub may_stand : CanStep row w.start slot
  may_stand = can_step ns ks f node slot such.described later row r such.steps such.part (in_within ns ks f node slot such) w.start starts

  pub part_row_there : IsSome (row_part t w.row n.step)
  part_row_there = row_shown such.steps such.part (in_within ns ks f node slot such)

  pub above_header : length l ≡ cells f → has_header above.kind ≡ true → w.start < length l
  above_header len e =
      let i = in_within ns ks f node slot such in
      let b = up_within ns ks f node slot such.described later row r such.steps such.part i in
      let u = up ns ks f node slot such.described later row r such.steps such.part i in
      let a = header_there ns ks f such.described row.under.parent slot l len u.init u.outer b above v e in
      let c = starts u.init u.outer b in
      omega arith

  pub part_header : length l ≡ cells f → has_header row.kind ≡ true → n.start < length l
  part_header len e =
      let i = in_within ns ks f node slot such in
      let a = header_there ns ks f such.described node slot l len such.steps such.part i row r e in
      let c = ap (λ (x : Next). x.start) (next_is such.steps such.part i) in
      omega arith

  pub stands_next : (inner : TypeRow) → row_part t w.row n.step ≡ Some inner
      → Stands t q f l node slot (stood w n.start inner (opens above.kind (slot_at l w.start) n.step) (holds_fast row.kind (slot_at l n.start)))
  stands_next inner e ss p h = (ap (λ (x : Next). x.start) (next_is ss p h), row_is ss p h inner e, λ path x show. record { there = there_is ss p h inner e path x show; sealed_is = sealed_next ss p h inner e path x show })
