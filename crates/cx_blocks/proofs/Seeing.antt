-- The tree that slots stand for, as two readings of places see it, and what is left of it once it has ended.
use Rattle.std.proofs.Common.{◌≡◌, ℕ, zero, suc, ◌==◌, Bool, true, false, List, [], ◌∷◌, map, drop, Option, None, Some, refl, sym, ap, subst, ◌∙◌, eq-eqb, if◌then◌else◌}
use Rattle.std.proofs.lemmas.List.{drop-map}
use Rattle.std.specs.Prelude.{option_and_then}
use Rattle.cx_type_defs.specs.declared.ids.Step.{Step}
use Rattle.cx_type_defs.specs.declared.ids.Step.TheVariants as step
use Rattle.cx_state.specs.declared.kind.Phase.TheVariants as phase
use Rattle.cx_state.specs.declared.kind.Scalar.{Scalar}
use Rattle.cx_state.specs.declared.kind.Scalar.TheVariants as scalar
use Rattle.cx_state.specs.Objects.{Path, Tree, Trees, tree_at, part, below, copies}
use Rattle.cx_state.specs.Objects as tree
use Rattle.cx_state.specs.Steps.{ended, all_ended}
use Rattle.cx_store.specs.Stores.{seen}
use Rattle.cx_layout.specs.declared.place.Place.{Place}
use Rattle.cx_layout.specs.Forms.{Form, Forms, Leaf, Row, Class, End, More, cells, cells_in}
use Rattle.cx_slots.specs.declared.slot.SlotView.{SlotView}
use Rattle.cx_slots.specs.declared.slot.SlotView.TheVariants as view
use Rattle.cx_slots.specs.Slots.{Slot, slot_seen, slots_seen}
use Rattle.cx_slots.specs.Flat.{value_in, phase_in, active_in, each_picture, active_picture, picture, all_pictures, member_picture}
use Rattle.cx_slots.specs.Fresh.{fresh, all_fresh}

module _ (p q : Place → Path) where
  -- both see each place that a tree, or some trees hold, as one path
  abbrev pub Agree : Tree → Type 0
  Agree x = (ss : List Step) (at : Place) → below x ss ≡ Some (tree.Leaf (scalar.Place (p at))) → p at ≡ q at

  abbrev pub AllAgree : Trees → Type 0
  AllAgree xs = (i : ℕ) (ss : List Step) (at : Place) → option_and_then (λ y. below y ss) (tree_at xs i) ≡ Some (tree.Leaf (scalar.Place (p at))) → p at ≡ q at

  value_same : (l : List SlotView) → Agree (tree.Leaf (value_in (slots_seen p l))) → value_in (slots_seen p l) ≡ value_in (slots_seen q l)
  value_same [] h = refl
  value_same (view.Value (scalar.Int i) ∷ l) h = refl
  value_same (view.Value scalar.Null ∷ l) h = refl
  value_same (view.Value (scalar.Place at) ∷ l) h = ap scalar.Place (h [] at refl)
  value_same (view.Value scalar.Indeterminate ∷ l) h = refl
  value_same (view.Phase x ∷ l) h = refl
  value_same (view.Active m ∷ l) h = refl

  phase_same : (l : List SlotView) → phase_in (slots_seen p l) ≡ phase_in (slots_seen q l)
  phase_same [] = refl
  phase_same (view.Value v ∷ l) = refl
  phase_same (view.Phase x ∷ l) = refl
  phase_same (view.Active m ∷ l) = refl

  active_same : (l : List SlotView) → active_in (slots_seen p l) ≡ active_in (slots_seen q l)
  active_same [] = refl
  active_same (view.Value v ∷ l) = refl
  active_same (view.Phase x ∷ l) = refl
  active_same (view.Active m ∷ l) = refl

  each_same : (g : List Slot → Tree) (c : ℕ) → ((l : List SlotView) → Agree (g (slots_seen p l)) → g (slots_seen p l) ≡ g (slots_seen q l)) → (n : ℕ) (l : List SlotView) → AllAgree (each_picture g c n (slots_seen p l)) → each_picture g c n (slots_seen p l) ≡ each_picture g c n (slots_seen q l)
  each_same g c ih zero l h = refl
  each_same g c ih (suc n) l h =
      let a = drop-map (slot_seen p) c l in
      let b = drop-map (slot_seen q) c l in
      let rest = each_same g c ih n (drop c l) (subst (λ k. AllAgree (each_picture g c n k)) a (λ i ss at e. h (suc i) ss at e)) in
      ap (λ x. tree.More x (each_picture g c n (drop c (slots_seen p l)))) (ih l (λ ss at e. h 0 ss at e))
      ∙ ap (λ k. tree.More (g (slots_seen q l)) (each_picture g c n k)) a ∙ ap (tree.More (g (slots_seen q l))) rest
      ∙ ap (λ k. tree.More (g (slots_seen q l)) (each_picture g c n k)) (sym b)

  -- the active member alone is there
  member_agrees : (m : ℕ) (x : Tree) → Agree (tree.Active m x) → Agree x
  member_agrees m x h ss at e =
      let z : (m == m) ≡ true = eq-eqb m m refl in
      h (step.Field m ∷ ss) at (ap (λ b. option_and_then (λ y. below y ss) (if b then Some x else None)) z ∙ e)

  union_same : (g : ℕ → List Slot → Tree) → ((m : ℕ) (l : List SlotView) → Agree (g m (slots_seen p l)) → g m (slots_seen p l) ≡ g m (slots_seen q l)) → (o : Option ℕ) (l : List SlotView) → Agree (active_picture g o (slots_seen p l)) → active_picture g o (slots_seen p l) ≡ active_picture g o (slots_seen q l)
  union_same g ih None l h = refl
  union_same g ih (Some m) l h = ap (tree.Active m) (ih m l (member_agrees m (g m (slots_seen p l)) h))

  dropped : (r : Place → Path) (n : ℕ) (l : List SlotView) → drop n (drop 1 (slots_seen r l)) ≡ slots_seen r (drop n (drop 1 l))
  dropped r n l = ap (drop n) (drop-map (slot_seen r) 1 l) ∙ drop-map (slot_seen r) n (drop 1 l)

  mutual
    pub picture_same : (f : Form) (l : List SlotView) → Agree (picture f (slots_seen p l)) → picture f (slots_seen p l) ≡ picture f (slots_seen q l)
    picture_same Leaf l h = ap tree.Leaf (value_same l h)
    picture_same (Row n f) l h = ap tree.Row (each_same (picture f) (cells f) (picture_same f) n l (λ i ss at e. h (step.Elem i ∷ ss) at e))
    picture_same (Class c false bs ms) l h =
        let a = drop-map (slot_seen p) 1 l in
        let b = drop-map (slot_seen q) 1 l in
        let d = dropped p (cells_in false bs) l in
        let e = dropped q (cells_in false bs) l in
        let x = all_same bs (drop 1 l) (subst (λ k. AllAgree (all_pictures bs k)) a (λ i ss at u. h (step.Base i ∷ ss) at u)) in
        let y = all_same ms (drop (cells_in false bs) (drop 1 l)) (subst (λ k. AllAgree (all_pictures ms k)) d (λ i ss at u. h (step.Field i ∷ ss) at u)) in
        ap (λ z. tree.Class z (all_pictures bs (drop 1 (slots_seen p l))) (all_pictures ms (drop (cells_in false bs) (drop 1 (slots_seen p l))))) (phase_same l)
        ∙ ap (λ z. tree.Class (phase_in (slots_seen q l)) z (all_pictures ms (drop (cells_in false bs) (drop 1 (slots_seen p l))))) (ap (all_pictures bs) a ∙ x ∙ ap (all_pictures bs) (sym b))
        ∙ ap (tree.Class (phase_in (slots_seen q l)) (all_pictures bs (drop 1 (slots_seen q l)))) (ap (all_pictures ms) d ∙ y ∙ ap (all_pictures ms) (sym e))
    picture_same (Class c true bs ms) l h =
        let d = dropped p (cells_in false bs) l in
        let e = dropped q (cells_in false bs) l in
        let o = active_in (slots_seen p l) in
        ap (active_picture (member_picture ms) o) d
        ∙ union_same (member_picture ms) (member_same ms) o (drop (cells_in false bs) (drop 1 l)) (subst (λ k. Agree (active_picture (member_picture ms) o k)) d h)
        ∙ ap (λ z. active_picture (member_picture ms) z (slots_seen q (drop (cells_in false bs) (drop 1 l)))) (active_same l)
        ∙ ap (active_picture (member_picture ms) (active_in (slots_seen q l))) (sym e)

    all_same : (fs : Forms) (l : List SlotView) → AllAgree (all_pictures fs (slots_seen p l)) → all_pictures fs (slots_seen p l) ≡ all_pictures fs (slots_seen q l)
    all_same End l h = refl
    all_same (More f fs) l h =
        let a = drop-map (slot_seen p) (cells f) l in
        let b = drop-map (slot_seen q) (cells f) l in
        let rest = all_same fs (drop (cells f) l) (subst (λ k. AllAgree (all_pictures fs k)) a (λ i ss at e. h (suc i) ss at e)) in
        ap (λ x. tree.More x (all_pictures fs (drop (cells f) (slots_seen p l)))) (picture_same f l (λ ss at e. h 0 ss at e))
        ∙ ap (tree.More (picture f (slots_seen q l))) (ap (all_pictures fs) a ∙ rest ∙ ap (all_pictures fs) (sym b))

    member_same : (fs : Forms) (m : ℕ) (l : List SlotView) → Agree (member_picture fs m (slots_seen p l)) → member_picture fs m (slots_seen p l) ≡ member_picture fs m (slots_seen q l)
    member_same End m l h = refl
    member_same (More f fs) zero l h = picture_same f l h
    member_same (More f fs) (suc m) l h = member_same fs m l h

-- what slots stand for, once it has ended

each_ended : (g : List Slot → Tree) (y : Tree) → ((l : List Slot) → ended (g l) ≡ y) → (c n : ℕ) (l : List Slot) → all_ended (each_picture g c n l) ≡ copies n y
each_ended g y h c zero l = refl
each_ended g y h c (suc n) l = ap (λ x. tree.More x (all_ended (each_picture g c n (drop c l)))) (h l) ∙ ap (tree.More y) (each_ended g y h c n (drop c l))

union_ended : (g : ℕ → List Slot → Tree) (o : Option ℕ) (l : List Slot) → ended (active_picture g o l) ≡ tree.Union
union_ended g None l = refl
union_ended g (Some m) l = refl

mutual
  pub picture_ended : (f : Form) (l : List Slot) → ended (picture f l) ≡ fresh phase.Ended f
  picture_ended Leaf l = refl
  picture_ended (Row n f) l = ap tree.Row (each_ended (picture f) (fresh phase.Ended f) (picture_ended f) (cells f) n l)
  picture_ended (Class c false bs ms) l =
      ap (λ x. tree.Class phase.Ended x (all_ended (all_pictures ms (drop (cells_in false bs) (drop 1 l))))) (all_pictures_ended bs (drop 1 l))
      ∙ ap (tree.Class phase.Ended (all_fresh phase.Ended bs)) (all_pictures_ended ms (drop (cells_in false bs) (drop 1 l)))
  picture_ended (Class c true bs ms) l = union_ended (member_picture ms) (active_in l) (drop (cells_in false bs) (drop 1 l))

  all_pictures_ended : (fs : Forms) (l : List Slot) → all_ended (all_pictures fs l) ≡ all_fresh phase.Ended fs
  all_pictures_ended End l = refl
  all_pictures_ended (More f fs) l = ap (λ x. tree.More x (all_ended (all_pictures fs (drop (cells f) l)))) (picture_ended f l) ∙ ap (tree.More (fresh phase.Ended f)) (all_pictures_ended fs (drop (cells f) l))
