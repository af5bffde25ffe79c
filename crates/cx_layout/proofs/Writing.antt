-- The steps that are written by walking up from a cell in a part.
use Rattle.std.proofs.Common.{◌≡◌, ℕ, ◌+◌, ◌*◌, ◌-◌, ◌/◌, ◌≤◌, ◌<◌, List, [], ◌∷◌, ◌++◌, Some, refl, sym, ap, ◌∙◌, arith, slice_get, append_assoc}
use Rattle.std.proofs.lemmas.Nat.{div-mul-add}
use Rattle.cx_type_defs.specs.declared.ids.Step.{Step}
use Rattle.cx_type_defs.specs.declared.ids.Step.TheVariants as step
use Rattle.cx_layout.specs.declared.columns.Under.{Under}
use Rattle.cx_layout.specs.declared.columns.Node.{Node}
use Rattle.cx_layout.specs.Forms.{Form, cells, Part, below_of}
use Rattle.cx_layout.specs.Walks.{IsIn, Walks}
use Rattle.cx_layout.proofs.Parts.{shown}
use Rattle.cx_layout.proofs.Walking.{Above, first_node, Showing, Element, ABase, AMember, showing, in_above, in_parent, parent_node, shown_is, cells_same, form_same}

pub walks_first : (f : Form) (node slot : ℕ) (old : List Step) → node ≡ 0 → Walks f node slot 0 old old
walks_first f node slot old z ss p e n from before =
    let w = first_node f ss p e (n ∙ z) in
    (sym w.1, sym (ap (λ t. old ++ t) w.0 ∙ append_nil old))
  where
    append_nil : (xs : List Step) → xs ++ [] ≡ xs
    append_nil [] = refl
    append_nil (x ∷ xs) = ap (λ k. x ∷ k) (append_nil xs)

index_is : (start slot cells_of i own q : ℕ) → start ≡ q → own ≡ i * cells_of → q + own ≤ slot → slot < q + own + cells_of → (slot - start) / cells_of ≡ i
index_is start slot c i own q e k from before =
    let r : ℕ = slot - (q + own) in
    let small : r < c = omega arith in
    let t : slot - start ≡ i * c + r = omega arith in
    ap (λ a. a / c) t ∙ div-mul-add i c r small

module _ (ns : List Node) (ks : List ℕ) (f : Form) (node slot : ℕ) (h : IsIn ns ks f node slot) (later : 1 ≤ node) (row : Node) (r : slice_get ns node ≡ Some row) (outer_start : ℕ) (old between : List Step) (walks : Walks f row.under.parent slot outer_start old between) where
  module _ (ss : List Step) (p : Part) (e : below_of f ss ≡ Some p) (n : p.node ≡ node) (from : p.slot ≤ slot) (before : 1 ≤ node → slot < p.slot + cells p.form) where
    abbrev such : IsIn ns ks f node slot
    such = record { described = h.described; steps = ss; part = p; leads = e; node_is = n; from = from; before = before }

    abbrev up : Above ns ks f ss p
    up = in_above ns ks f node slot such later row r

    walked : (outer_start ≡ up.outer.slot) × (between ≡ old ++ up.init)
    walked = let i = in_parent ns ks f node slot such later row r in walks up.init up.outer up.leads (parent_node ns ks f node slot such later row r) i.from i.before

    slots : up.outer.slot + up.inner.slot ≡ p.slot
    slots = ap (λ (q : Part). q.slot) up.is_part

    written : (s : Step) → s ≡ up.last_step → between ++ s ∷ [] ≡ old ++ ss
    written s z = ap (λ t. t ++ s ∷ []) walked.1 ∙ ap (λ t. (old ++ up.init) ++ t ∷ []) z ∙ append_assoc old up.init (up.last_step ∷ []) ∙ ap (λ t. old ++ t) (sym up.are_steps)

    element_one : (k : ℕ) → row.under.step ≡ step.Elem k → ((outer_start + (slot - outer_start) / row.cells * row.cells) ≡ p.slot) × (between ++ step.Elem ((slot - outer_start) / row.cells) ∷ [] ≡ old ++ ss)
    element_one k z = go (showing up.outer.form up.last_step up.inner up.outer.node up.is_inner)
      where
        step_is : row.under.step ≡ (shown up.outer.form up.last_step up.inner up.outer.node).step
        step_is = ap (λ (u : Under). u.step) (shown_is ns ks f node slot such later row r)

        go : Showing up.outer.form up.last_step up.inner up.outer.node → ((outer_start + (slot - outer_start) / row.cells * row.cells) ≡ p.slot) × (between ++ step.Elem ((slot - outer_start) / row.cells) ∷ [] ≡ old ++ ss)
        go (Element m g i fe se so sh) =
            let c : row.cells ≡ cells up.inner.form = cells_same ns ks f node slot such later row r in
            let o : up.inner.slot ≡ i * row.cells = so ∙ ap (λ t. i * t) (sym c) in
            let d : cells up.inner.form ≡ cells p.form = ap (λ (q : Part). cells q.form) up.is_part in
            let w = walked.0 in
            let v = slots in
            let b = before later in
            let x : (slot - outer_start) / row.cells ≡ i = index_is outer_start slot row.cells i up.inner.slot up.outer.slot w o (omega arith) (omega arith) in
            (ap (λ t. outer_start + t * row.cells) x ∙ ap (λ t. t + i * row.cells) w ∙ ap (λ t. up.outer.slot + t) (sym o) ∙ v, written (step.Elem ((slot - outer_start) / row.cells)) (ap step.Elem x ∙ sym se))
        go (ABase i se sh) = let w : step.Elem k ≡ step.Base i = sym z ∙ step_is ∙ ap (λ (u : Under). u.step) sh in absurd (cc)
        go (AMember i se sh) = let w : step.Elem k ≡ step.Field i = sym z ∙ step_is ∙ ap (λ (u : Under). u.step) sh in absurd (cc)

    listed_one : ((k : ℕ) → row.under.step ≡ step.Elem k → ⊥) → ((outer_start + row.under.offset) ≡ p.slot) × (between ++ row.under.step ∷ [] ≡ old ++ ss)
    listed_one z = go (showing up.outer.form up.last_step up.inner up.outer.node up.is_inner)
      where
        is : row.under ≡ shown up.outer.form up.last_step up.inner up.outer.node
        is = shown_is ns ks f node slot such later row r

        go : Showing up.outer.form up.last_step up.inner up.outer.node → ((outer_start + row.under.offset) ≡ p.slot) × (between ++ row.under.step ∷ [] ≡ old ++ ss)
        go (Element m g i fe se so sh) = absurd (z 0 (ap (λ (u : Under). u.step) (is ∙ sh)))
        go (ABase i se sh) = (ap (λ t. outer_start + t) (ap (λ (u : Under). u.offset) (is ∙ sh)) ∙ ap (λ t. t + up.inner.slot) walked.0 ∙ slots, written row.under.step (ap (λ (u : Under). u.step) (is ∙ sh) ∙ sym se))
        go (AMember i se sh) = (ap (λ t. outer_start + t) (ap (λ (u : Under). u.offset) (is ∙ sh)) ∙ ap (λ t. t + up.inner.slot) walked.0 ∙ slots, written row.under.step (ap (λ (u : Under). u.step) (is ∙ sh) ∙ sym se))

  pub walks_element : (k : ℕ) → row.under.step ≡ step.Elem k → Walks f node slot (outer_start + (slot - outer_start) / row.cells * row.cells) old (between ++ step.Elem ((slot - outer_start) / row.cells) ∷ [])
  walks_element k z ss p e n from before = element_one ss p e n from before k z

  pub walks_listed : ((k : ℕ) → row.under.step ≡ step.Elem k → ⊥) → Walks f node slot (outer_start + row.under.offset) old (between ++ row.under.step ∷ [])
  walks_listed z ss p e n from before = listed_one ss p e n from before z

  -- all numbers are small
  pub start_before : outer_start ≤ slot
  start_before =
      let i = in_parent ns ks f node slot h later row r in
      let w = walks i.steps i.part i.leads i.node_is i.from i.before in
      let a = w.0 in
      let b = i.from in
      omega arith

  pub cells_some : 1 ≤ row.cells
  cells_some =
      let a = cells_same ns ks f node slot h later row r in
      let b = form_same ns ks f node slot h later row r in
      let d = h.before later in
      let e = h.from in
      omega arith

  pub element_start : (k : ℕ) → row.under.step ≡ step.Elem k → outer_start + (slot - outer_start) / row.cells * row.cells ≤ slot
  element_start k z = let a = (walks_element k z h.steps h.part h.leads h.node_is h.from h.before).0 in let b = h.from in omega arith

  pub listed_start : ((k : ℕ) → row.under.step ≡ step.Elem k → ⊥) → outer_start + row.under.offset ≤ slot
  listed_start z = let a = (walks_listed z h.steps h.part h.leads h.node_is h.from h.before).0 in let b = h.from in omega arith
