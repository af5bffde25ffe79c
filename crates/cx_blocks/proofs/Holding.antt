-- The places in the slots of a tree are those that the tree holds.
use Rattle.std.proofs.Common.{◌≡◌, ℕ, zero, suc, ◌-◌, ◌==◌, Bool, true, false, List, [], ◌∷◌, ◌++◌, map, Option, None, Some, refl, ap, ◌∙◌, eq-eqb, if◌then◌else◌}
use Rattle.std.specs.Prelude.{option_and_then}
use Rattle.cx_type_defs.specs.declared.ids.Step.{Step}
use Rattle.cx_type_defs.specs.declared.ids.Step.TheVariants as step
use Rattle.cx_state.specs.declared.kind.Scalar.{Scalar}
use Rattle.cx_state.specs.declared.kind.Scalar.TheVariants as scalar
use Rattle.cx_state.specs.Objects.{Path, Tree, Trees, tree_at, part, below, size}
use Rattle.cx_state.specs.Objects as tree
use Rattle.cx_layout.specs.declared.place.Place.{Place}
use Rattle.cx_layout.specs.Forms.{Form, Forms, Leaf, Row, Class, End, More, cells_in}
use Rattle.cx_slots.specs.declared.slot.SlotView.{SlotView}
use Rattle.cx_slots.specs.declared.slot.SlotView.TheVariants as view
use Rattle.cx_slots.specs.Slots.{Slot, slot_seen, slots_seen}
use Rattle.cx_slots.specs.Slots as slot
use Rattle.cx_slots.specs.Flat.{EachFits, Fits, AllFit, MemberFits, blanks, flat_each, cells_at, flat, flat_all, flat_member}

module _ (P : Path → Type 0) where
  abbrev pub Holds : Scalar Path → Type 0
  Holds (scalar.Place q) = P q
  Holds v = Unit {0}

  abbrev pub HoldsIn : Slot → Type 0
  HoldsIn (slot.Value v) = Holds v
  HoldsIn x = Unit {0}

  -- each place in some slots, in a tree, in some trees is so
  abbrev pub Slots : List Slot → Type 0
  Slots [] = Unit {0}
  Slots (x ∷ l) = HoldsIn x × Slots l

  abbrev pub InTree : Tree → Type 0
  InTree x = (ss : List Step) (v : Scalar Path) → below x ss ≡ Some (tree.Leaf v) → Holds v

  abbrev pub InTrees : Trees → Type 0
  InTrees xs = (i : ℕ) (ss : List Step) (v : Scalar Path) → option_and_then (λ y. below y ss) (tree_at xs i) ≡ Some (tree.Leaf v) → Holds v

  slots_more : (a b : List Slot) → Slots a → Slots b → Slots (a ++ b)
  slots_more [] b h k = k
  slots_more (x ∷ a) b h k = (h.0, slots_more a b h.1 k)

  blank_slots : (n : ℕ) → Slots (blanks n)
  blank_slots zero = tt
  blank_slots (suc n) = (tt, blank_slots n)

  each_slots : (F : Tree → Type 0) (g : Tree → List Slot) → ((x : Tree) → F x → InTree x → Slots (g x)) → (xs : Trees) → EachFits F xs → InTrees xs → Slots (flat_each g xs)
  each_slots F g ih tree.End f h = tt
  each_slots F g ih (tree.More x xs) f h = slots_more (g x) (flat_each g xs) (ih x f.0 (λ ss v e. h 0 ss v e)) (each_slots F g ih xs f.1 (λ i ss v e. h (suc i) ss v e))

  mutual
    pub flat_slots : (f : Form) (x : Tree) → Fits f x → InTree x → Slots (flat f x)
    flat_slots Leaf (tree.Leaf v) f h = (h [] v refl, tt)
    flat_slots (Row n g) (tree.Row xs) f h = each_slots (Fits g) (flat g) (flat_slots g) xs f.1 (λ i ss v e. h (step.Elem i ∷ ss) v e)
    flat_slots (Class c false bs ms) (tree.Class p xs ys) f h =
        (tt, slots_more (flat_all bs xs) (flat_all ms ys) (all_slots bs xs f.0 (λ i ss v e. h (step.Base i ∷ ss) v e)) (all_slots ms ys f.1 (λ i ss v e. h (step.Field i ∷ ss) v e)))
    flat_slots (Class c true bs ms) tree.Union f h = (tt, slots_more (blanks (cells_in false bs)) (blanks (cells_in true ms)) (blank_slots (cells_in false bs)) (blank_slots (cells_in true ms)))
    flat_slots (Class c true bs ms) (tree.Active m x) f h =
        let z : (m == m) ≡ true = eq-eqb m m refl in
        let pad = cells_in true ms - cells_at ms m in (
          tt,
          slots_more (blanks (cells_in false bs)) (flat_member ms m x ++ blanks pad) (blank_slots (cells_in false bs))
              (slots_more (flat_member ms m x) (blanks pad) (member_slots ms m x f (λ ss v e. h (step.Field m ∷ ss) v (ap (λ b. option_and_then (λ y. below y ss) (if b then Some x else None)) z ∙ e))) (blank_slots pad)),
        )
    flat_slots g x f h = absurd f

    all_slots : (fs : Forms) (xs : Trees) → AllFit fs xs → InTrees xs → Slots (flat_all fs xs)
    all_slots End tree.End f h = tt
    all_slots (More g fs) (tree.More x xs) f h = slots_more (flat g x) (flat_all fs xs) (flat_slots g x f.0 (λ ss v e. h 0 ss v e)) (all_slots fs xs f.1 (λ i ss v e. h (suc i) ss v e))
    all_slots fs xs f h = absurd f

    member_slots : (fs : Forms) (m : ℕ) (x : Tree) → MemberFits fs m x → InTree x → Slots (flat_member fs m x)
    member_slots End m x f h = absurd f
    member_slots (More g fs) zero x f h = flat_slots g x f h
    member_slots (More g fs) (suc m) x f h = member_slots fs m x f h

  -- two readings that see such places alike see the slots alike
  pub slots_same : (p q : Place → Path) → ((at : Place) → P (p at) → p at ≡ q at) → (l : List SlotView) → Slots (slots_seen p l) → slots_seen p l ≡ slots_seen q l
  slots_same p q s [] h = refl
  slots_same p q s (x ∷ l) h = ap (λ y. y ∷ slots_seen p l) (one x h.0) ∙ ap (λ k. slot_seen q x ∷ k) (slots_same p q s l h.1)
    where
      one : (x : SlotView) → HoldsIn (slot_seen p x) → slot_seen p x ≡ slot_seen q x
      one (view.Value (scalar.Int i)) h = refl
      one (view.Value scalar.Null) h = refl
      one (view.Value (scalar.Place at)) h = ap (λ y. slot.Value (scalar.Place y)) (s at h)
      one (view.Value scalar.Indeterminate) h = refl
      one (view.Phase x) h = refl
      one (view.Active m) h = refl
