-- What was, once its lifetime and all in it have ended, is as a new tree in that phase.
use Rattle.std.proofs.Common.{◌≡◌, true, false, refl, ap, ◌∙◌}
use Rattle.cx_state.specs.declared.kind.Phase.TheVariants as phase
use Rattle.cx_state.specs.Objects.{Tree, Trees, size, copies}
use Rattle.cx_state.specs.Objects as tree
use Rattle.cx_state.specs.Steps.{ended, all_ended}
use Rattle.cx_layout.specs.Forms.{Form, Forms, Leaf, Row, Class, End, More}
use Rattle.cx_slots.specs.Flat.{EachFits, Fits, AllFit}
use Rattle.cx_slots.specs.Fresh.{fresh, all_fresh}

each_ended : (P : Tree → Type 0) (y : Tree) (h : (x : Tree) → P x → ended x ≡ y) (xs : Trees) → EachFits P xs → all_ended xs ≡ copies (size xs) y
each_ended P y h tree.End e = refl
each_ended P y h (tree.More x xs) e = ap (λ z. tree.More z (all_ended xs)) (h x e.0) ∙ ap (tree.More y) (each_ended P y h xs e.1)

mutual
  pub ended_fresh : (f : Form) (x : Tree) → Fits f x → ended x ≡ fresh phase.Ended f
  ended_fresh Leaf (tree.Leaf v) h = refl
  ended_fresh (Row n f) (tree.Row xs) h = ap tree.Row (each_ended (Fits f) (fresh phase.Ended f) (ended_fresh f) xs h.1) ∙ ap (λ k. tree.Row (copies k (fresh phase.Ended f))) h.0
  ended_fresh (Class c false bs ms) (tree.Class p xs ys) h = ap (λ z. tree.Class phase.Ended z (all_ended ys)) (all_ended_fresh bs xs h.0) ∙ ap (tree.Class phase.Ended (all_fresh phase.Ended bs)) (all_ended_fresh ms ys h.1)
  ended_fresh (Class c true bs ms) tree.Union h = refl
  ended_fresh (Class c true bs ms) (tree.Active m x) h = refl
  ended_fresh f x h = absurd h

  all_ended_fresh : (fs : Forms) (xs : Trees) → AllFit fs xs → all_ended xs ≡ all_fresh phase.Ended fs
  all_ended_fresh End tree.End h = refl
  all_ended_fresh (More f fs) (tree.More x xs) h = ap (λ z. tree.More z (all_ended xs)) (ended_fresh f x h.0) ∙ ap (tree.More (fresh phase.Ended f)) (all_ended_fresh fs xs h.1)
  all_ended_fresh fs xs h = absurd h
