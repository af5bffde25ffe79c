-- The tree of a union, one of whose members is made active.
use Rattle.std.proofs.Common.{◌≡◌, ℕ, suc, ◌+◌, ◌==◌, Bool, true, false, true≢false, ◌&&◌, not, Option, None, Some, inl, inr, refl, sym, ap, ◌∙◌, eqb-true, if◌then◌else◌}
use Rattle.std.proofs.lemmas.Bool.{cases_Bool}
use Rattle.cx_type_defs.proofs.Lists.{some_inj}
use Rattle.cx_type_defs.specs.declared.ids.Step.TheVariants as step
use Rattle.cx_state.specs.declared.kind.Phase.{Phase}
use Rattle.cx_state.specs.declared.kind.Phase.TheVariants as phase
use Rattle.cx_state.specs.Objects as tree
use Rattle.cx_state.specs.Objects.{Tree, Trees}
use Rattle.cx_state.specs.Steps as steps
use Rattle.cx_shapes.specs.Forms.{Form, Forms, Leaf, Row, Class, Union, End, Part, part_of, sizes}
use Rattle.cx_shapes.specs.Contents.{Cells, tree_of, trees_of, union_tree, active_tree, is_member}
use Rattle.cx_shapes.proofs.Parting.{tree_part}
use Rattle.cx_record_unions.specs.Members.{is_ended_phase, is_ended_class}

-- a class whose lifetime has ended

ended_class : (p : Phase) (bs ms : Trees) → steps.is_ended (tree.Class p bs ms) ≡ is_ended_phase p
ended_class phase.Unborn bs ms = refl
ended_class phase.Bases bs ms = refl
ended_class phase.Body bs ms = refl
ended_class phase.Alive bs ms = refl
ended_class phase.Ending bs ms = refl
ended_class phase.EndingBases bs ms = refl
ended_class phase.Ended bs ms = refl

ended_union : (o : Option ℕ) (xs : Trees) → steps.is_ended (union_tree o xs) ≡ false
ended_union None xs = refl
ended_union (Some m) xs = go (tree.tree_at xs m)
  where
    go : (x : Option Tree) → steps.is_ended (active_tree m x) ≡ false
    go None = refl
    go (Some x) = refl

pub ended_is : (f : Form) (c : Cells) (b : ℕ) → steps.is_ended (tree_of f c b) ≡ is_ended_class f (c b)
ended_is Leaf c b = refl
ended_is (Row n f) c b = refl
ended_is (Class bs ms) c b = ended_class (c b).phase (trees_of bs c (b + 1)) (trees_of ms c (b + suc (sizes bs)))
ended_is (Union ms) c b = ended_union (c b).member (trees_of ms c (b + 1))

-- a member's tree is that of a class with the same members
pub member_at : (ms : Forms) (c : Cells) (b m : ℕ) (p : Part) → part_of (Union ms) (step.Field m) ≡ Some p → tree.tree_at (trees_of ms c (b + 1)) m ≡ Some (tree_of p.1 c (b + p.0))
member_at ms c b m p e = tree_part (Class End ms) c b (step.Field m) p e

first_true : (a b : Bool) → (a && b) ≡ true → a ≡ true
first_true true b h = refl
first_true false b h = h

kept_union : (o : Option ℕ) (xs : Trees) (m : ℕ) (new x : Tree) → tree.tree_at xs m ≡ Some x → (is_member m o && not (steps.is_ended x)) ≡ true → steps.activated m new (union_tree o xs) ≡ union_tree o xs
kept_union None xs m new x e h = absurd (true≢false (sym h))
kept_union (Some k) xs m new x e h =
    let here : tree.tree_at xs k ≡ Some x = ap (tree.tree_at xs) (eqb-true k m (first_true (k == m) (not (steps.is_ended x)) h)) ∙ e in
    ap (λ y. steps.activated m new (active_tree k y)) here ∙ ap (λ b. if b then tree.Active k x else tree.Active m new) h ∙ sym (ap (active_tree k) here)

other_union : (o : Option ℕ) (xs : Trees) (m : ℕ) (new x : Tree) → tree.tree_at xs m ≡ Some x → (is_member m o && not (steps.is_ended x)) ≡ false → steps.activated m new (union_tree o xs) ≡ tree.Active m new
other_union None xs m new x e h = refl
other_union (Some k) xs m new x e h = go (tree.tree_at xs k) (λ t. ap (tree.tree_at xs) (eqb-true k m t) ∙ e)
  where
    go : (y : Option Tree) → ((k == m) ≡ true → y ≡ Some x) → steps.activated m new (active_tree k y) ≡ tree.Active m new
    go None q = refl
    go (Some y) q = elim (cases_Bool (k == m)) as (λ _. steps.activated m new (tree.Active k y) ≡ tree.Active m new) [
      | inl t ↦ ap (λ b. if b then tree.Active k y else tree.Active m new) (ap (λ z. (k == m) && not (steps.is_ended z)) (some_inj y x (q t)) ∙ h)
      | inr t ↦ ap (λ b. if b && not (steps.is_ended y) then tree.Active k y else tree.Active m new) t
    ]

-- the active member stays as it is, where it is no class whose lifetime has ended
pub kept_is : (ms : Forms) (c : Cells) (b m : ℕ) (p : Part) (new : Tree) → part_of (Union ms) (step.Field m) ≡ Some p → (is_member m (c b).member && not (is_ended_class p.1 (c (b + p.0)))) ≡ true
    → steps.activated m new (tree_of (Union ms) c b) ≡ tree_of (Union ms) c b
kept_is ms c b m p new e h =
    kept_union (c b).member (trees_of ms c (b + 1)) m new (tree_of p.1 c (b + p.0)) (member_at ms c b m p e) (ap (λ z. is_member m (c b).member && not z) (ended_is p.1 c (b + p.0)) ∙ h)

-- any other is new
pub renewed_is : (ms : Forms) (c d : Cells) (b m : ℕ) (p : Part) (new : Tree) → part_of (Union ms) (step.Field m) ≡ Some p → (is_member m (c b).member && not (is_ended_class p.1 (c (b + p.0)))) ≡ false
    → (d b).member ≡ Some m → new ≡ tree_of p.1 d (b + p.0) → steps.activated m new (tree_of (Union ms) c b) ≡ tree_of (Union ms) d b
renewed_is ms c d b m p new e h r q =
    other_union (c b).member (trees_of ms c (b + 1)) m new (tree_of p.1 c (b + p.0)) (member_at ms c b m p e) (ap (λ z. is_member m (c b).member && not z) (ended_is p.1 c (b + p.0)) ∙ h)
    ∙ ap (tree.Active m) q ∙ sym (ap (active_tree m) (member_at ms d b m p e)) ∙ sym (ap (λ o. union_tree o (trees_of ms d (b + 1))) r)
