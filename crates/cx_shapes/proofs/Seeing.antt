-- A tree is told by the phases, the active members, and the values that are there.
use Rattle.std.proofs.Common.{◌≡◌, ℕ, zero, suc, ◌+◌, ◌*◌, ◌<◌, true, false, ◌&&◌, List, [], ◌∷◌, Option, None, Some, refl, sym, ap, subst, ◌∙◌, arith, eq-eqb, if◌then◌else◌}
use Rattle.std.proofs.lemmas.Bool.{lt-ltb}
use Rattle.std.proofs.Math.Nat.{suc-mul}
use Rattle.std.specs.Prelude.{option_map, option_and_then, unwrap_or}
use Rattle.cx_type_defs.specs.declared.ids.Step.{Step}
use Rattle.cx_type_defs.specs.declared.ids.Step.TheVariants as step
use Rattle.cx_state.specs.Objects as tree
use Rattle.cx_state.specs.Objects.{Tree, Trees}
use Rattle.cx_shapes.specs.Forms.{Form, Forms, Leaf, Row, Class, Union, End, More, size, sizes, Part, further, item, part_of, below_of}
use Rattle.cx_shapes.specs.Contents.{Cells, active_tree, union_tree, row_trees, tree_of, trees_of, is_member, is_open, opens}

pub record Alike (f : Form) (c d : Cells) (b : ℕ) : Type 0 where
  pub phases : (k : ℕ) → (c k).phase ≡ (d k).phase
  pub members : (k : ℕ) → (c k).member ≡ (d k).member
  pub values : (ss : List Step) (j : ℕ) → below_of f ss ≡ Some (j, Leaf) → opens f c b ss ≡ true → (c (b + j)).value ≡ (d (b + j)).value

alike_part : (f : Form) (c d : Cells) (b : ℕ) (s : Step) (p : Part) (a : ℕ) → part_of f s ≡ Some p → is_open f (c b) s ≡ true → b + p.0 ≡ a → Alike f c d b → Alike p.1 c d a
alike_part f c d b s p a e o z h = record {
  phases = h.phases;
  members = h.members;
  values = λ ss j g i.
      let y : b + (p.0 + j) ≡ a + j = omega arith in
      let q : opens f c b (s ∷ ss) ≡ true =
      ap (λ x. x && unwrap_or (option_map (λ (p : Part). opens p.1 c (b + p.0) ss) (part_of f s)) false) o
      ∙ ap (λ x. unwrap_or (option_map (λ (p : Part). opens p.1 c (b + p.0) ss) x) false) e ∙ ap (λ n. opens p.1 c n ss) z ∙ i in
      ap (λ k. (c k).value) (sym y)
      ∙ h.values (s ∷ ss) (p.0 + j) (ap (option_and_then (λ (x : Part). option_map (further x.0) (below_of x.1 ss))) e ∙ ap (option_map (further p.0)) g) q
      ∙ ap (λ k. (d k).value) y;
}

row_alike : (n : ℕ) (t u : ℕ → Tree) (k b : ℕ) → ((i : ℕ) → i < n → t (b + i * k) ≡ u (b + i * k)) → row_trees n t k b ≡ row_trees n u k b
row_alike zero t u k b h = refl
row_alike (suc n) t u k b h =
    let z : b + 0 * k ≡ b = omega arith in
    ap (λ x. tree.More x (row_trees n t k (b + k))) (ap t (sym z) ∙ h 0 (omega arith) ∙ ap u z)
    ∙ ap (tree.More (u b)) (row_alike n t u k (b + k) (λ i l. let w : suc i * k ≡ i * k + k = suc-mul i k in let y : b + k + i * k ≡ b + suc i * k = omega arith in ap t y ∙ h (suc i) (omega arith) ∙ ap u (sym y)))

union_same : (o : Option ℕ) (xs ys : Trees) → ((m : ℕ) → o ≡ Some m → tree.tree_at xs m ≡ tree.tree_at ys m) → union_tree o xs ≡ union_tree o ys
union_same None xs ys h = refl
union_same (Some m) xs ys h = ap (active_tree m) (h m refl)

mutual
  pub tree_alike : (f : Form) (c d : Cells) (b : ℕ) → Alike f c d b → tree_of f c b ≡ tree_of f d b
  tree_alike Leaf c d b h = let z : b + 0 ≡ b = omega arith in ap (λ k. tree.Leaf (c k).value) (sym z) ∙ ap tree.Leaf (h.values [] 0 refl refl) ∙ ap (λ k. tree.Leaf (d k).value) z
  tree_alike (Row n f) c d b h =
      ap tree.Row (row_alike n (tree_of f c) (tree_of f d) (size f) (b + 1) (λ i l.
      tree_alike f c d (b + 1 + i * size f) (alike_part (Row n f) c d b (step.Elem i) (suc (i * size f), f) (b + 1 + i * size f) (ap (λ x. if x then Some (suc (i * size f), f) else None) (lt-ltb i n l)) refl (omega arith) h)))
  tree_alike (Class bs ms) c d b h =
      ap (λ x. tree.Class x (trees_of bs c (b + 1)) (trees_of ms c (b + suc (sizes bs)))) (h.phases b)
      ∙ ap (λ x. tree.Class (d b).phase x (trees_of ms c (b + suc (sizes bs)))) (trees_alike bs c d (b + 1) (λ i p e. alike_part (Class bs ms) c d b (step.Base i) (further 1 p) (b + 1 + p.0) (ap (option_map (further 1)) e) refl (omega arith) h))
      ∙ ap (tree.Class (d b).phase (trees_of bs d (b + 1))) (trees_alike ms c d (b + suc (sizes bs)) (λ i p e. alike_part (Class bs ms) c d b (step.Field i) (further (suc (sizes bs)) p) (b + suc (sizes bs) + p.0) (ap (option_map (further (suc (sizes bs)))) e) refl (omega arith) h))
  tree_alike (Union ms) c d b h =
      union_same (c b).member (trees_of ms c (b + 1)) (trees_of ms d (b + 1)) (λ m e.
      tree_at_alike ms c d (b + 1) m (λ p g. alike_part (Union ms) c d b (step.Field m) (further 1 p) (b + 1 + p.0) (ap (option_map (further 1)) g) (ap (is_member m) e ∙ eq-eqb m m refl) (omega arith) h))
      ∙ ap (λ o. union_tree o (trees_of ms d (b + 1))) (h.members b)

  trees_alike : (fs : Forms) (c d : Cells) (b : ℕ) → ((i : ℕ) (p : Part) → item fs i ≡ Some p → Alike p.1 c d (b + p.0)) → trees_of fs c b ≡ trees_of fs d b
  trees_alike End c d b h = refl
  trees_alike (More f fs) c d b h =
      let z : b + 0 ≡ b = omega arith in
      ap (λ x. tree.More x (trees_of fs c (b + size f))) (tree_alike f c d b (subst (Alike f c d) z (h 0 (0, f) refl)))
      ∙ ap (tree.More (tree_of f d b)) (trees_alike fs c d (b + size f) (λ i p e. let y : b + (size f + p.0) ≡ b + size f + p.0 = omega arith in subst (Alike p.1 c d) y (h (suc i) (further (size f) p) (ap (option_map (further (size f))) e))))

  tree_at_alike : (fs : Forms) (c d : Cells) (b m : ℕ) → ((p : Part) → item fs m ≡ Some p → Alike p.1 c d (b + p.0)) → tree.tree_at (trees_of fs c b) m ≡ tree.tree_at (trees_of fs d b) m
  tree_at_alike End c d b m h = refl
  tree_at_alike (More f fs) c d b zero h = let z : b + 0 ≡ b = omega arith in ap Some (tree_alike f c d b (subst (Alike f c d) z (h (0, f) refl)))
  tree_at_alike (More f fs) c d b (suc m) h = tree_at_alike fs c d (b + size f) m (λ p e. let y : b + (size f + p.0) ≡ b + size f + p.0 = omega arith in subst (Alike p.1 c d) y (h (further (size f) p) (ap (option_map (further (size f))) e)))
