-- A walk goes on from a part to one of its own.
use Rattle.std.proofs.Common.{◌≡◌, ℕ, ◌+◌, ◌*◌, ◌-◌, ◌/◌, ◌^◌, ◌≤◌, ◌<◌, Bool, true, false, true≢false, ◌&&◌, ◌||◌, List, [], ◌∷◌, ◌++◌, length, Option, None, Some, refl, sym, ap, subst, ◌∙◌, arith, slice_get}
use Rattle.std.proofs.lemmas.Nat.{div-mul-add}
use Rattle.std.specs.Prelude.{option_and_then, is_some}
use Rattle.cx_type_defs.specs.declared.ids.Step.{Step}
use Rattle.cx_type_defs.specs.declared.ids.Step.TheVariants as step
use Rattle.cx_state.specs.Objects.{Path, Tree, part, below}
use Rattle.cx_layout.specs.declared.columns.Under.{Under}
use Rattle.cx_layout.specs.declared.columns.Node.{Node}
use Rattle.cx_layout.specs.declared.place.Place.{Place}
use Rattle.cx_layout.specs.Forms.{Form, Leaf, Row, Class, cells, Part, part_of, below_of}
use Rattle.cx_layout.specs.Laid.{kind_of}
use Rattle.cx_layout.specs.Walks.{IsIn}
use Rattle.cx_layout.proofs.Options.{some_inj}
use Rattle.cx_layout.proofs.Fitting.{below_inside}
use Rattle.cx_layout.proofs.Parts.{shown, laid_node, part_laid}
use Rattle.cx_layout.proofs.Walking.{Above, first_node, Showing, Element, ABase, AMember, showing, in_above, in_parent, parent_node, shown_is, cells_same, form_same, slot_sum}
use Rattle.cx_slots.specs.declared.slot.SlotView.{SlotView}
use Rattle.cx_slots.specs.Slots.{slot_seen}
use Rattle.cx_slots.specs.Flat.{flat}
use Rattle.cx_slots.specs.Frames.{Framed}
use Rattle.cx_slots.proofs.Frames.{part_framed}
use Rattle.cx_slot_calls.specs.declared.way.Found.{Found}
use Rattle.cx_slot_calls.specs.Rules.{Show, dead_on}
use Rattle.cx_slot_calls.specs.Walks.{slot_at, lets, stepped, stepped_by, CanStep, CanStepBy, Finds, Walked}
use Rattle.cx_slot_calls.proofs.Opening.{first_of, head_in, seen_at, lets_of, dead_of, lets_seen, lets_same, part_there, dead_there, tree_last, dead_last}

-- one step, as the node of the part shows it

and_true : (b : Bool) → b ≡ (b && true)
and_true true = refl
and_true false = refl

or_false : (b : Bool) → b ≡ (b || false)
or_false true = refl
or_false false = refl

module _ (l : List SlotView) (f : Form) (s : Step) (p : Part) (row : Node) (parent n : ℕ) (is_part : part_of f s ≡ Some p) (is_shown : row.under ≡ shown f s p parent) (many : row.cells ≡ cells p.form) where
  start_is : (q : ℕ) (w : Found) → w.start ≡ q → q + p.slot ≤ n → n < q + p.slot + cells p.form → (stepped_by (kind_of f) l row w n).start ≡ q + p.slot
  start_is q w e x y = go f is_part is_shown (showing f s p parent is_part)
    where
      go : (f : Form) → part_of f s ≡ Some p → row.under ≡ shown f s p parent → Showing f s p parent → (stepped_by (kind_of f) l row w n).start ≡ q + p.slot
      go Leaf b u z = absurd (cc)
      go (Class c m bs ms) b u z = ap (λ (t : Under). w.start + t.offset) u ∙ ap (λ t. t + p.slot) e
      go (Row m g) b u (Element k h i fe se so sh) =
          let d : p.slot ≡ i * row.cells = so ∙ ap (λ a. i * a) (sym many) in
          let r : ℕ = n - (q + p.slot) in
          let small : r < row.cells = omega arith in
          let t : n - w.start ≡ i * row.cells + r = omega arith in
          let v : (n - w.start) / row.cells ≡ i = ap (λ a. a / row.cells) t ∙ div-mul-add i row.cells r small in
          ap (λ a. w.start + a * row.cells) v ∙ ap (λ a. w.start + a) (sym d) ∙ ap (λ a. a + p.slot) e
      go (Row m g) b u (ABase i se sh) = absurd (let v : part_of (Row m g) (step.Base i) ≡ Some p = ap (part_of (Row m g)) (sym se) ∙ b in cc)
      go (Row m g) b u (AMember i se sh) = absurd (let v : part_of (Row m g) (step.Field i) ≡ Some p = ap (part_of (Row m g)) (sym se) ∙ b in cc)

  there_is : (w : Found) → (stepped_by (kind_of f) l row w n).there ≡ (w.there && lets_of f (slot_at l w.start) s)
  there_is w = go f is_part is_shown
    where
      go : (f : Form) → part_of f s ≡ Some p → row.under ≡ shown f s p parent → (stepped_by (kind_of f) l row w n).there ≡ (w.there && lets_of f (slot_at l w.start) s)
      go Leaf b u = absurd (cc)
      go (Row m g) b u = and_true w.there
      go (Class c m bs ms) b u = ap (λ (t : Under). w.there && lets m (slot_at l w.start) t.step) u

  dead_is : (w : Found) → (stepped_by (kind_of f) l row w n).dead ≡ (w.dead || dead_of f (slot_at l w.start))
  dead_is w = go f is_part
    where
      go : (f : Form) → part_of f s ≡ Some p → (stepped_by (kind_of f) l row w n).dead ≡ (w.dead || dead_of f (slot_at l w.start))
      go Leaf b = absurd (cc)
      go (Row m g) b = or_false w.dead
      go (Class c m bs ms) b = refl

  can_step : (q c : ℕ) (w : Found) → w.start ≡ q → q + p.slot ≤ n → n < q + p.slot + cells p.form → q + p.slot + cells p.form ≤ c → q + cells f ≤ c → c < 2 ^ 32 → length l ≡ c → CanStepBy (kind_of f) l row w n
  can_step q c w e x y d k small len = go f is_shown k
    where
      go : (f : Form) → row.under ≡ shown f s p parent → q + cells f ≤ c → CanStepBy (kind_of f) l row w n
      go Leaf u k = tt
      go (Row m g) u k = (omega arith, omega arith)
      go (Class i m bs ms) u k = let o : row.under.offset ≡ p.slot = ap (λ (t : Under). t.offset) u in (omega arith, omega arith)

-- what is so of the tree

module _ (path : Place → Path) (l : List SlotView) (f : Form) (x : Tree) (show : Show path l f x) where
  -- the first slot of a part that is there
  pub part_head : (ss : List Step) (q : Part) (y : Tree) → below_of f ss ≡ Some q → below x ss ≡ Some y → (k : Framed f x ss q y) × (slot_seen path (slot_at l q.slot) ≡ first_of (flat q.form y ++ k.back) 0)
  part_head ss q y a e =
      let k = part_framed f x ss q y show.fits a e in
      (k, seen_at path l q.slot ∙ ap (λ m. first_of m q.slot) (show.seen ∙ k.as_was) ∙ head_in k.front (flat q.form y ++ k.back) q.slot k.from)

  finds_next : (ss : List Step) (s : Step) (q p : Part) (w : Found) → below_of f ss ≡ Some q → part_of q.form s ≡ Some p → w.start ≡ q.slot → Finds x ss w → (there dead : Bool)
      → there ≡ (w.there && lets_of q.form (slot_at l w.start) s) → dead ≡ (w.dead || dead_of q.form (slot_at l w.start)) → (there ≡ is_some (below x (ss ++ s ∷ []))) × (there ≡ true → dead ≡ dead_on x (ss ++ s ∷ []))
  finds_next ss s q p w a c at o there dead is_there is_dead = go (below x ss) refl
    where
      go : (t : Option Tree) → below x ss ≡ t → (there ≡ is_some (below x (ss ++ s ∷ []))) × (there ≡ true → dead ≡ dead_on x (ss ++ s ∷ []))
      go None z =
          let no : there ≡ false = is_there ∙ ap (λ b. b && lets_of q.form (slot_at l w.start) s) (o.there ∙ ap is_some z) in
          (no ∙ sym (ap is_some (tree_last x ss s ∙ ap (option_and_then (λ y. part y s)) z)), λ t. absurd (true≢false (sym t ∙ no)))
      go (Some y) z =
          let h = part_head ss q y a z in
          let yes : w.there ≡ true = o.there ∙ ap is_some z in
          let v : slot_seen path (slot_at l w.start) ≡ first_of (flat q.form y ++ h.0.back) 0 = ap (λ n. slot_seen path (slot_at l n)) at ∙ h.1 in (
            is_there ∙ ap (λ b. b && lets_of q.form (slot_at l w.start) s) yes ∙ lets_same path q.form (slot_at l w.start) s ∙ ap (λ t. lets_seen q.form t s) v ∙ part_there q.form y s p h.0.back h.0.there c
                ∙ sym (ap is_some (tree_last x ss s ∙ ap (option_and_then (λ y. part y s)) z)),
            λ t. is_dead ∙ ap (λ b. b || dead_of q.form (slot_at l w.start)) (o.dead yes) ∙ ap (λ b. dead_on x ss || b) (dead_there path q.form y (slot_at l w.start) h.0.back h.0.there v) ∙ sym (dead_last x ss s y z),
          )

-- the whole walk

pub walked_first : (f : Form) (l : List SlotView) (node n : ℕ) → node ≡ 0 → Walked f l node n (record { start = 0; there = true; dead = false })
walked_first f l node n z ss p e m from before =
    let w = first_node f ss p e (m ∙ z) in
    (sym w.1, λ path x show. record { there = sym (ap (λ us. is_some (below x us)) w.0); dead = λ t. sym (ap (λ us. dead_on x us) w.0) })

module _ (ns : List Node) (ks : List ℕ) (f : Form) (node slot : ℕ) (l : List SlotView) (later : 1 ≤ node) (row up : Node) (r : slice_get ns node ≡ Some row) (v : slice_get ns row.under.parent ≡ Some up) (w : Found) (walked : Walked f l row.under.parent slot w) where
  module _ (such : IsIn ns ks f node slot) where
    abbrev above : Above ns ks f such.steps such.part
    above = in_above ns ks f node slot such later row r

    from_above : (w.start ≡ above.outer.slot) × ((path : Place → Path) (x : Tree) → Show path l f x → Finds x above.init w)
    from_above = let i = in_parent ns ks f node slot such later row r in walked above.init above.outer above.leads (parent_node ns ks f node slot such later row r) i.from i.before

    kind_above : kind_of above.outer.form ≡ up.kind
    kind_above =
        let o = laid_node ns ks above.outer.node above.outer.form (part_laid ns ks f above.init above.outer such.described.laid above.leads) in
        let d : o.row ≡ up = some_inj o.row up (sym o.is_row ∙ ap (slice_get ns) (parent_node ns ks f node slot such later row r) ∙ v) in
        sym (sym (ap (λ (x : Node). x.kind) d) ∙ o.kind)

    pub step_can : length l ≡ cells f → CanStep l up row w slot
    step_can len =
        let z = slot_sum ns ks f node slot such later row r in
        let y = form_same ns ks f node slot such later row r in
        let a = such.from in
        let b = such.before later in
        let i = (below_inside f such.steps such.part such.leads).in_cells in
        let j = (below_inside f above.init above.outer above.leads).in_cells in
        let k = such.described.few_cells in
        subst (λ t. CanStepBy t l row w slot) kind_above
        (can_step l above.outer.form above.last_step above.inner row above.outer.node slot above.is_inner (shown_is ns ks f node slot such later row r) (cells_same ns ks f node slot such later row r) above.outer.slot (cells f) w from_above.0 (omega arith) (omega arith) (omega arith) (omega arith) (omega arith) len)

    step_walked : ((stepped l up row w slot).start ≡ such.part.slot) × ((path : Place → Path) (x : Tree) → Show path l f x → Finds x such.steps (stepped l up row w slot))
    step_walked =
        let z = slot_sum ns ks f node slot such later row r in
        let y = form_same ns ks f node slot such later row r in
        let a = such.from in
        let b = such.before later in
        subst (λ t. ((stepped_by t l row w slot).start ≡ such.part.slot) × ((path : Place → Path) (x : Tree) → Show path l f x → Finds x such.steps (stepped_by t l row w slot))) kind_above (
          start_is l above.outer.form above.last_step above.inner row above.outer.node slot above.is_inner (shown_is ns ks f node slot such later row r) (cells_same ns ks f node slot such later row r) above.outer.slot w from_above.0 (omega arith) (omega arith) ∙ z,
          λ path x show.
              let g = finds_next path l f x show above.init above.last_step above.outer above.inner w above.leads above.is_inner from_above.0 (from_above.1 path x show)
              (stepped_by (kind_of above.outer.form) l row w slot).there (stepped_by (kind_of above.outer.form) l row w slot).dead
              (there_is l above.outer.form above.last_step above.inner row above.outer.node slot above.is_inner (shown_is ns ks f node slot such later row r) (cells_same ns ks f node slot such later row r) w)
              (dead_is l above.outer.form above.last_step above.inner row above.outer.node slot above.is_inner (shown_is ns ks f node slot such later row r) (cells_same ns ks f node slot such later row r) w) in
              record { there = g.0 ∙ sym (ap (λ us. is_some (below x us)) above.are_steps); dead = λ t. g.1 t ∙ sym (ap (λ us. dead_on x us) above.are_steps) },
        )

  pub walked_next : IsIn ns ks f node slot → Walked f l node slot (stepped l up row w slot)
  walked_next h ss p e m from before = step_walked (record { described = h.described; steps = ss; part = p; leads = e; node_is = m; from = from; before = before })
