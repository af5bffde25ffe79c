-- A walk goes on from a part to one of its own.
use Rattle.std.proofs.Common.{◌≡◌, ℕ, zero, suc, ◌+◌, ◌*◌, ◌-◌, ◌/◌, ◌≤◌, ◌<◌, List, [], ◌∷◌, ◌++◌, length, None, Some, refl, sym, ap, subst, ◌∙◌, arith, slice_get, length-append}
use Rattle.std.proofs.lemmas.Nat.{div-mul-add}
use Rattle.std.specs.Prelude.{option_map}
use Rattle.cx_type_defs.specs.declared.ids.Step.{Step}
use Rattle.cx_type_defs.specs.declared.ids.Step.TheVariants as step
use Rattle.cx_layout.specs.declared.columns.Under.{Under}
use Rattle.cx_layout.specs.declared.columns.Node.{Node}
use Rattle.cx_layout.specs.Forms.{Form, cells, Part, further, part_of, below_of}
use Rattle.cx_layout.specs.Laid.{kind_of}
use Rattle.cx_layout.specs.Described.{Described}
use Rattle.cx_layout.specs.Walks.{IsIn}
use Rattle.cx_layout.proofs.Options.{some_inj, and_then_some, map_some}
use Rattle.cx_layout.proofs.Fitting.{part_inside, below_inside}
use Rattle.cx_layout.proofs.Parts.{shown, laid_node, part_laid}
use Rattle.cx_layout.proofs.Walking.{Above, first_node, Showing, Element, ABase, AMember, showing, in_above, in_parent, parent_node, parent_before, shown_is, cells_same, form_same, slot_sum}
use Rattle.cx_slot_places.specs.declared.walk.Next.{Next}
use Rattle.cx_slot_places.specs.declared.walk.Trail.{Trail}
use Rattle.cx_slot_places.specs.Walks.{Within, stepped, stepped_by, CanStep, CanStepBy, Starts, IsTrail, Trails}

abbrev pub within_in : (ns : List Node) (ks : List ℕ) (f : Form) (node slot : ℕ) → Described ns ks f → (ss : List Step) (p : Part) → Within f node slot ss p → IsIn ns ks f node slot
within_in ns ks f node slot d ss p h = record { described = d; steps = ss; part = p; leads = h.leads; node_is = h.node_is; from = h.from; before = h.before }

abbrev pub in_within : (ns : List Node) (ks : List ℕ) (f : Form) (node slot : ℕ) (h : IsIn ns ks f node slot) → Within f node slot h.steps h.part
in_within ns ks f node slot h = record { leads = h.leads; node_is = h.node_is; from = h.from; before = h.before }

-- the whole is at the first node
pub whole_within : (f : Form) (node slot : ℕ) → node ≡ 0 → (ss : List Step) (p : Part) → Within f node slot ss p → (ss ≡ []) × (p.slot ≡ 0)
whole_within f node slot z ss p h = first_node f ss p h.leads (h.node_is ∙ z)

pub whole_starts : (f : Form) (node slot : ℕ) → node ≡ 0 → Starts f node slot 0
whole_starts f node slot z ss p h = sym (whole_within f node slot z ss p h).1

-- each step leads to a later node
pub length_within : (f : Form) (ss : List Step) (p : Part) → below_of f ss ≡ Some p → length ss ≤ p.node
length_within f [] p e = omega arith
length_within f (s ∷ ss) p e =
    let a = and_then_some (λ (p : Part). option_map (further p.node p.slot) (below_of p.form ss)) (part_of f s) p e in
    let b = map_some (further a.0.node a.0.slot) (below_of a.0.form ss) p a.2 in
    let l = (part_inside f s a.0 a.1).1 in
    let i = length_within a.0.form ss b.0 b.1 in
    let n : a.0.node + b.0.node ≡ p.node = ap (λ (q : Part). q.node) b.2 in
    omega arith

-- which element of c slots it is in which a slot lies, where the array begins at slot o
quotient : (c o slot inner at i : ℕ) → inner ≡ i * c → o + inner ≡ at → at ≤ slot → slot < at + c → (slot - o) / c ≡ i
quotient c o slot inner at i k z a b =
    let rest : ℕ = slot - at in
    let small : rest < c = omega arith in
    let t : slot - o ≡ i * c + rest = omega arith in
    ap (λ n. n / c) t ∙ div-mul-add i c rest small

module _ (ns : List Node) (ks : List ℕ) (f : Form) (node slot : ℕ) (d : Described ns ks f) (later : 1 ≤ node) (row : Node) (r : slice_get ns node ≡ Some row) (ss : List Step) (p : Part) (h : Within f node slot ss p) where
  abbrev pub up : Above ns ks f ss p
  up = in_above ns ks f node slot (within_in ns ks f node slot d ss p h) later row r

  pub up_within : Within f row.under.parent slot up.init up.outer
  up_within =
      let i = in_parent ns ks f node slot (within_in ns ks f node slot d ss p h) later row r in
      record { leads = up.leads; node_is = parent_node ns ks f node slot (within_in ns ks f node slot d ss p h) later row r; from = i.from; before = i.before }

  pub under_is : row.under ≡ shown up.outer.form up.last_step up.inner up.outer.node
  under_is = shown_is ns ks f node slot (within_in ns ks f node slot d ss p h) later row r

  pub sum_is : up.outer.slot + up.inner.slot ≡ p.slot
  sum_is = slot_sum ns ks f node slot (within_in ns ks f node slot d ss p h) later row r

  pub many_is : row.cells ≡ cells up.inner.form
  many_is = cells_same ns ks f node slot (within_in ns ks f node slot d ss p h) later row r

  pub same_cells : cells up.inner.form ≡ cells p.form
  same_cells = form_same ns ks f node slot (within_in ns ks f node slot d ss p h) later row r

  pub up_showing : Showing up.outer.form up.last_step up.inner up.outer.node
  up_showing = showing up.outer.form up.last_step up.inner up.outer.node up.is_inner

  -- what the node above shows
  pub kind_above : (above : Node) → slice_get ns row.under.parent ≡ Some above → above.kind ≡ kind_of up.outer.form
  kind_above above v =
      let o = laid_node ns ks up.outer.node up.outer.form (part_laid ns ks f up.init up.outer d.laid up.leads) in
      let e : o.row ≡ above = some_inj o.row above (sym o.is_row ∙ ap (slice_get ns) up_within.node_is ∙ v) in
      ap (λ (x : Node). x.kind) (sym e) ∙ o.kind

  pub start_same : (start : ℕ) → Starts f row.under.parent slot start → start ≡ up.outer.slot
  start_same start g = g up.init up.outer up_within

  pub can_step_from : (start : ℕ) → start ≡ up.outer.slot → CanStep row start slot
  can_step_from start g = subst (λ n. CanStep row n slot) (sym g) (go up_showing)
    where
      go : Showing up.outer.form up.last_step up.inner up.outer.node → CanStep row up.outer.slot slot
      go (Element m g i fe se so sh) =
          let z = sum_is in
          let y = many_is in
          let w = same_cells in
          let a = h.from in
          let b = h.before later in
          subst (λ s. CanStepBy s row up.outer.slot slot) (sym (ap (λ (u : Under). u.step) (under_is ∙ sh))) (omega arith, omega arith)
      go (ABase i se sh) =
          let z = sum_is in
          let o : row.under.offset ≡ up.inner.slot = ap (λ (u : Under). u.offset) (under_is ∙ sh) in
          let a = (below_inside f ss p h.leads).in_cells in
          let b = d.few_cells in
          subst (λ s. CanStepBy s row up.outer.slot slot) (sym (ap (λ (u : Under). u.step) (under_is ∙ sh))) (omega arith)
      go (AMember i se sh) =
          let z = sum_is in
          let o : row.under.offset ≡ up.inner.slot = ap (λ (u : Under). u.offset) (under_is ∙ sh) in
          let a = (below_inside f ss p h.leads).in_cells in
          let b = d.few_cells in
          subst (λ s. CanStepBy s row up.outer.slot slot) (sym (ap (λ (u : Under). u.step) (under_is ∙ sh))) (omega arith)

  abbrev next_step : Next
  next_step = record { step = up.last_step; start = p.slot }

  pub step_from : (start : ℕ) → start ≡ up.outer.slot → stepped row start slot ≡ next_step
  step_from start g = ap (λ n. stepped row n slot) g ∙ go up_showing
    where
      o : ℕ
      o = up.outer.slot

      listed : (s : Step) → row.under.step ≡ s → up.last_step ≡ s → ((n : ℕ) → stepped_by s row n slot ≡ record { step = s; start = n + row.under.offset }) → row.under.offset ≡ up.inner.slot → stepped row o slot ≡ next_step
      listed s u se l k =
          ap (λ s. stepped_by s row o slot) u ∙ l o ∙ ap (λ n. record { step = s; start = o + n }) k ∙ ap (λ n. record { step = s; start = n }) sum_is ∙ ap (λ s. record { step = s; start = p.slot }) (sym se)

      go : Showing up.outer.form up.last_step up.inner up.outer.node → stepped row o slot ≡ next_step
      go (Element m g i fe se so sh) =
          let z = sum_is in
          let y = many_is in
          let w = same_cells in
          let a = h.from in
          let b = h.before later in
          let k : up.inner.slot ≡ i * row.cells = so ∙ ap (λ n. i * n) (sym many_is) in
          let v : (slot - o) / row.cells ≡ i = quotient row.cells o slot up.inner.slot p.slot i k sum_is h.from (omega arith) in
          ap (λ s. stepped_by s row o slot) (ap (λ (u : Under). u.step) (under_is ∙ sh))
          ∙ ap (λ n. record { step = step.Elem n; start = o + n * row.cells }) v
          ∙ ap (λ n. record { step = step.Elem i; start = o + n }) (sym k)
          ∙ ap (λ n. record { step = step.Elem i; start = n }) sum_is
          ∙ ap (λ s. record { step = s; start = p.slot }) (sym se)
      go (ABase i se sh) = listed (step.Base i) (ap (λ (u : Under). u.step) (under_is ∙ sh)) se (λ n. refl) (ap (λ (u : Under). u.offset) (under_is ∙ sh))
      go (AMember i se sh) = listed (step.Field i) (ap (λ (u : Under). u.step) (under_is ∙ sh)) se (λ n. refl) (ap (λ (u : Under). u.offset) (under_is ∙ sh))

  pub can_step : (start : ℕ) → Starts f row.under.parent slot start → CanStep row start slot
  can_step start g = can_step_from start (start_same start g)

  pub step_is : (start : ℕ) → Starts f row.under.parent slot start → stepped row start slot ≡ next_step
  step_is start g = step_from start (start_same start g)

-- a walk that finds a part's first slot

module _ (ns : List Node) (ks : List ℕ) (f : Form) (node slot : ℕ) (such : IsIn ns ks f node slot) (later : 1 ≤ node) (row : Node) (r : slice_get ns node ≡ Some row) (start : ℕ) (g : Starts f row.under.parent slot start) where
  pub may_step : CanStep row start slot
  may_step = can_step ns ks f node slot such.described later row r such.steps such.part (in_within ns ks f node slot such) start g

  pub starts_next : Starts f node slot (stepped row start slot).start
  starts_next ss p h = ap (λ (n : Next). n.start) (step_is ns ks f node slot such.described later row r ss p h start g)

-- one that looks for a step

pub last_there : (ss : List Step) (s : Step) → slice_get (ss ++ s ∷ []) (length ss) ≡ Some s
last_there [] s = refl
last_there (t ∷ ss) s = last_there ss s

pub last_aside : (ss : List Step) (s : Step) (k : ℕ) → (length ss ≡ k → ⊥) → slice_get (ss ++ s ∷ []) k ≡ slice_get ss k
last_aside [] s zero n = absurd (n refl)
last_aside [] s (suc k) n = refl
last_aside (t ∷ ss) s zero n = refl
last_aside (t ∷ ss) s (suc k) n = last_aside ss s k (λ e. n (ap suc e))

pub trail_starts : (f : Form) (node slot k : ℕ) (w : Trail) → Trails f node slot k w → Starts f node slot w.start
trail_starts f node slot k w g ss p h = (g ss p h).start

pub whole_trails : (f : Form) (node slot k : ℕ) → node ≡ 0 → Trails f node slot k (record { start = 0; depth = 0; step = None })
whole_trails f node slot k z ss p h =
    let e = whole_within f node slot z ss p h in
    record { start = sym e.1; depth = sym (ap (length {A = Step}) e.0); step = sym (ap (λ us. slice_get us k) e.0) }

module _ (ns : List Node) (ks : List ℕ) (f : Form) (node slot k : ℕ) (such : IsIn ns ks f node slot) (later : 1 ≤ node) (row : Node) (r : slice_get ns node ≡ Some row) (w : Trail) (g : Trails f row.under.parent slot k w) where
  pub depth_before : w.depth < node
  depth_before =
      let d = such.described in
      let h = in_within ns ks f node slot such in
      let u = up ns ks f node slot d later row r such.steps such.part h in
      let i = up_within ns ks f node slot d later row r such.steps such.part h in
      let e = (g u.init u.outer i).depth in
      let l = length_within f u.init u.outer i.leads in
      let n = i.node_is in
      let b = parent_before ns ks f node slot such later row r in
      omega arith

  module _ (n : Next) (is : n ≡ stepped row w.start slot) (ss : List Step) (p : Part) (h : Within f node slot ss p) where
    abbrev above : Above ns ks f ss p
    above = up ns ks f node slot such.described later row r ss p h

    before : IsTrail above.init above.outer k w
    before = g above.init above.outer (up_within ns ks f node slot such.described later row r ss p h)

    next_is : n ≡ record { step = above.last_step; start = p.slot }
    next_is = is ∙ step_is ns ks f node slot such.described later row r ss p h w.start (trail_starts f row.under.parent slot k w g)

    depth_is : w.depth + 1 ≡ length ss
    depth_is =
        let a = length-append above.init (above.last_step ∷ []) in
        let b = before.depth in
        let e = ap (length {A = Step}) above.are_steps in
        omega arith

    pub trail_here : w.depth ≡ k → IsTrail ss p k (record { start = n.start; depth = w.depth + 1; step = Some n.step })
    trail_here e = record {
      start = ap (λ (x : Next). x.start) next_is;
      depth = depth_is;
      step = ap (λ (x : Next). Some x.step) next_is ∙ sym (ap (λ us. slice_get us k) above.are_steps ∙ ap (slice_get (above.init ++ above.last_step ∷ [])) (sym e ∙ before.depth) ∙ last_there above.init above.last_step);
    }

    pub trail_on : (w.depth ≡ k → ⊥) → IsTrail ss p k (record { start = n.start; depth = w.depth + 1; step = w.step })
    trail_on m = record {
      start = ap (λ (x : Next). x.start) next_is;
      depth = depth_is;
      step = before.step ∙ sym (ap (λ us. slice_get us k) above.are_steps ∙ last_aside above.init above.last_step k (λ e. m (before.depth ∙ e)));
    }
