-- A part other than the whole lies in one above it, and its node shows how.
use Rattle.std.proofs.Common.{◌≡◌, ℕ, ◌+◌, ◌*◌, ◌≤◌, ◌<◌, nat_lt, List, [], ◌∷◌, ◌++◌, length, Some, refl, sym, ap, subst, ◌∙◌, arith, slice_get}
use Rattle.std.specs.Prelude.{option_map}
use Rattle.cx_type_defs.specs.declared.ids.Step.{Step}
use Rattle.cx_type_defs.specs.declared.ids.Step.TheVariants as step
use Rattle.cx_layout.specs.declared.columns.Under.{Under}
use Rattle.cx_layout.specs.declared.columns.Node.{Node}
use Rattle.cx_layout.specs.Forms.{Form, Leaf, Row, Class, nodes, cells, Part, further, whole, part_of, below_of}
use Rattle.cx_layout.specs.Laid.{IsNode, Laid, under}
use Rattle.cx_layout.specs.Walks.{IsIn}
use Rattle.cx_layout.proofs.Options.{some_inj, and_then_some, map_some, if_some}
use Rattle.cx_layout.proofs.Fitting.{Inside, part_inside, below_last, next, Last, Nothing, After, last}
use Rattle.cx_layout.proofs.Parts.{shown, Shown, part_shown, laid_node, part_laid}
use Rattle.cx_layout.proofs.Filling.{get_within}

pub record Above (ns : List Node) (ks : List ℕ) (f : Form) (ss : List Step) (p : Part) : Type 0 where
  pub init : List Step
  pub last_step : Step
  pub outer : Part
  pub inner : Part
  pub are_steps : ss ≡ init ++ last_step ∷ []
  pub leads : below_of f init ≡ Some outer
  pub is_inner : part_of outer.form last_step ≡ Some inner
  pub is_part : further outer.node outer.slot inner ≡ p
  pub is_shown : Shown ns ks outer.node outer.form last_step inner
  pub inside : Inside (nodes outer.form) (cells outer.form) inner
  pub later : 1 ≤ inner.node

pub above : (ns : List Node) (ks : List ℕ) (f : Form) (ss : List Step) (p : Part) → Laid ns ks 0 f → below_of f ss ≡ Some p → 1 ≤ p.node → Above ns ks f ss p
above ns ks f ss p h e l = go ss (last ss) e
  where
    go : (ss : List Step) → Last ss → below_of f ss ≡ Some p → Above ns ks f ss p
    go [] Nothing e =
        let w : 0 ≡ p.node = ap (λ (q : Part). q.node) (some_inj (whole f) p e) in
        absurd (omega arith)
    go (_) (After us u) e =
        let a = and_then_some (next u) (below_of f us) p (sym (below_last f us u) ∙ e) in
        let b = map_some (further a.0.node a.0.slot) (part_of a.0.form u) p a.2 in
        let g : Laid ns ks a.0.node a.0.form = part_laid ns ks f us a.0 h a.1 in
        let i = part_inside a.0.form u b.0 b.1 in
        record {
          init = us;
          last_step = u;
          outer = a.0;
          inner = b.0;
          are_steps = refl;
          leads = a.1;
          is_inner = b.1;
          is_part = b.2;
          is_shown = part_shown ns ks a.0.node a.0.form u b.0 g b.1;
          inside = i.0;
          later = i.1;
        }

-- the whole is the only part at its node
pub first_node : (f : Form) (ss : List Step) (p : Part) → below_of f ss ≡ Some p → p.node ≡ 0 → (ss ≡ []) × (p.slot ≡ 0)
first_node f [] p e h = (refl, sym (ap (λ (q : Part). q.slot) (some_inj (whole f) p e)))
first_node f (s ∷ ss) p e h =
    let a = and_then_some (λ (p : Part). option_map (further p.node p.slot) (below_of p.form ss)) (part_of f s) p e in
    let b = map_some (further a.0.node a.0.slot) (below_of a.0.form ss) p a.2 in
    let l : 1 ≤ a.0.node = (part_inside f s a.0 a.1).1 in
    let w : a.0.node + b.0.node ≡ p.node = ap (λ (q : Part). q.node) b.2 in
    absurd (omega arith)

-- the node above
parent_is : (f : Form) (s : Step) (p : Part) (n : ℕ) → (shown f s p n).parent ≡ n
parent_is Leaf s p n = refl
parent_is (Row m f) s p n = refl
parent_is (Class c u bs ms) s p n = refl

-- what the node of a part shows of the step: for an element that it is one, and how far it stands
pub data Showing (f : Form) (s : Step) (p : Part) (n : ℕ) : Type 0 where
  Element : (m : ℕ) (g : Form) (i : ℕ) → f ≡ Row m g → s ≡ step.Elem i → p.slot ≡ i * cells p.form → shown f s p n ≡ under n (step.Elem 0) 0 → Showing f s p n
  ABase : (i : ℕ) → s ≡ step.Base i → shown f s p n ≡ under n (step.Base i) p.slot → Showing f s p n
  AMember : (i : ℕ) → s ≡ step.Field i → shown f s p n ≡ under n (step.Field i) p.slot → Showing f s p n

pub showing : (f : Form) (s : Step) (p : Part) (n : ℕ) → part_of f s ≡ Some p → Showing f s p n
showing (Row m g) (step.Elem i) p n e =
    let w = if_some (nat_lt i m) (record { node = 1; slot = i * cells g; form = g }) p e in
    subst (λ (q : Part). Showing (Row m g) (step.Elem i) q n) w.1 (Element m g i refl refl refl refl)
showing (Class c u bs ms) (step.Base i) p n e = ABase i refl refl
showing (Class c u bs ms) (step.Field i) p n e = AMember i refl refl
showing Leaf s p n e = absurd (cc)
showing (Row m g) (step.Base i) p n e = absurd (cc)
showing (Row m g) (step.Field i) p n e = absurd (cc)
showing (Class c u bs ms) (step.Elem i) p n e = absurd (cc)

-- walking up from a cell in a part

module _ (ns : List Node) (ks : List ℕ) (f : Form) (node slot : ℕ) (h : IsIn ns ks f node slot) where
  pub in_node : IsNode ns node h.part.form
  in_node = subst (λ n. IsNode ns n h.part.form) h.node_is (laid_node ns ks h.part.node h.part.form (part_laid ns ks f h.steps h.part h.described.laid h.leads))

  pub in_there : node < length ns
  in_there = get_within ns node in_node.row in_node.is_row

  module _ (later : 1 ≤ node) (row : Node) (r : slice_get ns node ≡ Some row) where
    pub in_above : Above ns ks f h.steps h.part
    in_above = let z = h.node_is in above ns ks f h.steps h.part h.described.laid h.leads (omega arith)

    pub node_sum : in_above.outer.node + in_above.inner.node ≡ node
    node_sum = ap (λ (q : Part). q.node) in_above.is_part ∙ h.node_is

    pub slot_sum : in_above.outer.slot + in_above.inner.slot ≡ h.part.slot
    slot_sum = ap (λ (q : Part). q.slot) in_above.is_part

    pub form_same : cells in_above.inner.form ≡ cells h.part.form
    form_same = ap (λ (q : Part). cells q.form) in_above.is_part

    pub shown_is : row.under ≡ shown in_above.outer.form in_above.last_step in_above.inner in_above.outer.node
    shown_is = ap (λ (x : Node). x.under) (some_inj row in_above.is_shown.row (sym r ∙ ap (slice_get ns) (sym node_sum) ∙ in_above.is_shown.is_row)) ∙ in_above.is_shown.under_is

    pub parent_node : in_above.outer.node ≡ row.under.parent
    parent_node = sym (ap (λ (u : Under). u.parent) shown_is ∙ parent_is in_above.outer.form in_above.last_step in_above.inner in_above.outer.node)

    pub parent_before : row.under.parent < node
    parent_before = let a = in_above.later in let b = node_sum in let c = parent_node in omega arith

    pub cells_same : row.cells ≡ cells in_above.inner.form
    cells_same = ap (λ (x : Node). x.cells) (some_inj row in_node.row (sym r ∙ in_node.is_row)) ∙ in_node.cells ∙ sym form_same

    abbrev pub in_parent : IsIn ns ks f row.under.parent slot
    in_parent =
        let a = in_above.inside.in_cells in
        let b = slot_sum in
        let c = form_same in
        let l = h.from in
        let k = h.before later in
        record {
          described = h.described;
          steps = in_above.init;
          part = in_above.outer;
          leads = in_above.leads;
          node_is = parent_node;
          from = omega arith;
          before = λ _. omega arith;
        }
