-- A change of the cells of one part is a change of the tree at its steps alone.
use Rattle.std.proofs.Common.{◌≡◌, ℕ, zero, suc, ◌+◌, ◌*◌, ◌-◌, ◌<◌, ◌≤◌, ◌==◌, nat_lt, true, false, List, [], ◌∷◌, Option, None, Some, inl, inr, refl, sym, ap, subst, ◌∙◌, arith, eqb-true, if◌then◌else◌}
use Rattle.std.proofs.lemmas.Bool.{cases_Bool, eqb-false}
use Rattle.std.proofs.Math.Nat.{suc-mul}
use Rattle.std.specs.Prelude.{option_map}
use Rattle.cx_type_defs.proofs.Lists.{some_inj, option_map-some, option_and_then-some}
use Rattle.cx_type_defs.specs.declared.ids.Step.{Step}
use Rattle.cx_type_defs.specs.declared.ids.Step.TheVariants as step
use Rattle.cx_state.specs.Objects as tree
use Rattle.cx_state.specs.Objects.{Tree, Trees}
use Rattle.cx_state.proofs.Paths.{tree_changed-here, tree_changed-other}
use Rattle.cx_shapes.specs.Forms.{Form, Forms, Leaf, Row, Class, Union, End, More, size, sizes, Part, further, item, part_of, below_of}
use Rattle.cx_shapes.specs.Contents.{Cell, Cells, active_tree, union_tree, row_trees, tree_of, trees_of, is_member, is_open}
use Rattle.cx_shapes.proofs.Numbering.{if_some, lt_true, item_fits, part_fits, below_fits, further_fits}

-- the same cells from a number on, so many
pub record Same (c d : Cells) (b n : ℕ) : Type 0 where
  pub same : (k : ℕ) → b ≤ k → k < b + n → c k ≡ d k

pub same_part : (c d : Cells) (b n a m : ℕ) → Same c d b n → b ≤ a → a + m ≤ b + n → Same c d a m
same_part c d b n a m h l r = record { same = λ k x y. h.same k (omega arith) (omega arith) }

row_same : (n : ℕ) (t u : ℕ → Tree) (k b : ℕ) → ((a : ℕ) → b ≤ a → a + k ≤ b + n * k → t a ≡ u a) → row_trees n t k b ≡ row_trees n u k b
row_same zero t u k b h = refl
row_same (suc n) t u k b h =
    let w : suc n * k ≡ n * k + k = suc-mul n k in
    ap (λ x. tree.More x (row_trees n t k (b + k))) (h b (omega arith) (omega arith))
    ∙ ap (tree.More (u b)) (row_same n t u k (b + k) (λ a l r. h a (omega arith) (omega arith)))

mutual
  pub tree_same : (f : Form) (c d : Cells) (b : ℕ) → Same c d b (size f) → tree_of f c b ≡ tree_of f d b
  tree_same Leaf c d b h = ap (λ (x : Cell). tree.Leaf x.value) (h.same b (omega arith) (omega arith))
  tree_same (Row n f) c d b h = ap tree.Row (row_same n (tree_of f c) (tree_of f d) (size f) (b + 1) (λ a l r. tree_same f c d a (same_part c d b (suc (n * size f)) a (size f) h (omega arith) (omega arith))))
  tree_same (Class bs ms) c d b h =
      ap (λ (x : Cell). tree.Class x.phase (trees_of bs c (b + 1)) (trees_of ms c (b + suc (sizes bs)))) (h.same b (omega arith) (omega arith))
      ∙ ap (λ x. tree.Class (d b).phase x (trees_of ms c (b + suc (sizes bs)))) (trees_same bs c d (b + 1) (same_part c d b (suc (sizes bs + sizes ms)) (b + 1) (sizes bs) h (omega arith) (omega arith)))
      ∙ ap (λ x. tree.Class (d b).phase (trees_of bs d (b + 1)) x) (trees_same ms c d (b + suc (sizes bs)) (same_part c d b (suc (sizes bs + sizes ms)) (b + suc (sizes bs)) (sizes ms) h (omega arith) (omega arith)))
  tree_same (Union ms) c d b h =
      ap (λ (x : Cell). union_tree x.member (trees_of ms c (b + 1))) (h.same b (omega arith) (omega arith))
      ∙ ap (union_tree (d b).member) (trees_same ms c d (b + 1) (same_part c d b (suc (sizes ms)) (b + 1) (sizes ms) h (omega arith) (omega arith)))

  pub trees_same : (fs : Forms) (c d : Cells) (b : ℕ) → Same c d b (sizes fs) → trees_of fs c b ≡ trees_of fs d b
  trees_same End c d b h = refl
  trees_same (More f fs) c d b h =
      ap (λ x. tree.More x (trees_of fs c (b + size f))) (tree_same f c d b (same_part c d b (size f + sizes fs) b (size f) h (omega arith) (omega arith)))
      ∙ ap (tree.More (tree_of f d b)) (trees_same fs c d (b + size f) (same_part c d b (size f + sizes fs) (b + size f) (sizes fs) h (omega arith) (omega arith)))

-- the tree at a part

row_at : (n : ℕ) (t : ℕ → Tree) (k b i : ℕ) → i < n → tree.tree_at (row_trees n t k b) i ≡ Some (t (b + i * k))
row_at zero t k b i h = absurd (omega arith)
row_at (suc n) t k b zero h = ap (λ x. Some (t x)) (omega arith)
row_at (suc n) t k b (suc i) h = let w : suc i * k ≡ i * k + k = suc-mul i k in row_at n t k (b + k) i (omega arith) ∙ ap (λ x. Some (t x)) (omega arith)

trees_at : (fs : Forms) (c : Cells) (b i : ℕ) (p : Part) → item fs i ≡ Some p → tree.tree_at (trees_of fs c b) i ≡ Some (tree_of p.1 c (b + p.0))
trees_at End c b i p e = absurd (cc)
trees_at (More f fs) c b zero p e = ap (λ x. Some (tree_of f c x)) (omega arith) ∙ ap (λ (q : Part). Some (tree_of q.1 c (b + q.0))) (some_inj (0, f) p e)
trees_at (More f fs) c b (suc i) p e =
    let m = option_map-some (further (size f)) (item fs i) p e in
    trees_at fs c (b + size f) i m.0 m.1 ∙ ap (λ x. Some (tree_of m.0.1 c x)) (omega arith) ∙ ap (λ (q : Part). Some (tree_of q.1 c (b + q.0))) m.2

trees_part : (fs : Forms) (c : Cells) (b n i : ℕ) (p : Part) → option_map (further n) (item fs i) ≡ Some p → tree.tree_at (trees_of fs c (b + n)) i ≡ Some (tree_of p.1 c (b + p.0))
trees_part fs c b n i p e =
    let m = option_map-some (further n) (item fs i) p e in
    trees_at fs c (b + n) i m.0 m.1 ∙ ap (λ x. Some (tree_of m.0.1 c x)) (omega arith) ∙ ap (λ (q : Part). Some (tree_of q.1 c (b + q.0))) m.2

union_part : (o : Option ℕ) (xs : Trees) (i : ℕ) (x : Tree) → tree.tree_at xs i ≡ Some x → tree.part (union_tree o xs) (step.Field i) ≡ (if is_member i o then Some x else None)
union_part None xs i x e = refl
union_part (Some m) xs i x e = elim (cases_Bool (m == i)) as (λ _. tree.part (active_tree m (tree.tree_at xs m)) (step.Field i) ≡ (if m == i then Some x else None)) [
  | inl h ↦ (
      let a : tree.tree_at xs m ≡ Some x = ap (tree.tree_at xs) (eqb-true m i h) ∙ e in
      ap (λ y. tree.part (active_tree m y) (step.Field i)) a)
  | inr h ↦ away (tree.tree_at xs m) h ∙ sym (ap (λ b. if b then Some x else None) h)
]
  where
    away : (y : Option Tree) → (m == i) ≡ false → tree.part (active_tree m y) (step.Field i) ≡ None
    away None h = refl
    away (Some y) h = ap (λ b. if b then Some y else None) h

pub tree_part : (f : Form) (c : Cells) (b : ℕ) (s : Step) (p : Part) → part_of f s ≡ Some p → tree.part (tree_of f c b) s ≡ (if is_open f (c b) s then Some (tree_of p.1 c (b + p.0)) else None)
tree_part (Row n f) c b (step.Elem i) p e =
    let h = if_some (nat_lt i n) (suc (i * size f), f) p e in
    row_at n (tree_of f c) (size f) (b + 1) i (lt_true i n h.0) ∙ ap (λ x. Some (tree_of f c x)) (omega arith) ∙ ap (λ (q : Part). Some (tree_of q.1 c (b + q.0))) h.1
tree_part (Class bs ms) c b (step.Base i) p e = trees_part bs c b 1 i p e
tree_part (Class bs ms) c b (step.Field i) p e = trees_part ms c b (suc (sizes bs)) i p e
tree_part (Union ms) c b (step.Field i) p e = union_part (c b).member (trees_of ms c (b + 1)) i (tree_of p.1 c (b + p.0)) (trees_part ms c b 1 i p e)
tree_part Leaf c b s p e = absurd (cc)
tree_part (Row n f) c b (step.Base i) p e = absurd (cc)
tree_part (Row n f) c b (step.Field i) p e = absurd (cc)
tree_part (Class bs ms) c b (step.Elem i) p e = absurd (cc)
tree_part (Union ms) c b (step.Elem i) p e = absurd (cc)
tree_part (Union ms) c b (step.Base i) p e = absurd (cc)

-- changes

-- the same cells but for those of one part
pub record SameBut (c d : Cells) (b n a m : ℕ) : Type 0 where
  pub before : Same c d b (a - b)
  pub behind : Same c d (a + m) (b + n - (a + m))

row_changed : (n : ℕ) (t u : ℕ → Tree) (k b i : ℕ) (F : Tree → Tree) → i < n → F (t (b + i * k)) ≡ u (b + i * k)
    → ((a : ℕ) → b ≤ a → a + k ≤ b + i * k → t a ≡ u a) → ((a : ℕ) → b + suc i * k ≤ a → a + k ≤ b + n * k → t a ≡ u a)
    → tree.tree_changed F (row_trees n t k b) i ≡ row_trees n u k b
row_changed zero t u k b i F h e l r = absurd (omega arith)
row_changed (suc n) t u k b zero F h e l r =
    let w : suc n * k ≡ n * k + k = suc-mul n k in
    let z : b + 0 * k ≡ b = omega arith in
    let v : 1 * k ≡ k = omega arith in
    ap (λ x. tree.More x (row_trees n t k (b + k))) (ap (λ a. F (t a)) (sym z) ∙ e ∙ ap u z)
    ∙ ap (tree.More (u b)) (row_same n t u k (b + k) (λ a x y. r a (omega arith) (omega arith)))
row_changed (suc n) t u k b (suc i) F h e l r =
    let w : suc n * k ≡ n * k + k = suc-mul n k in
    let v : suc i * k ≡ i * k + k = suc-mul i k in
    let y : suc (suc i) * k ≡ suc i * k + k = suc-mul (suc i) k in
    let z : b + k + i * k ≡ b + suc i * k = omega arith in
    ap (λ x. tree.More x (tree.tree_changed F (row_trees n t k (b + k)) i)) (l b (omega arith) (omega arith))
    ∙ ap (tree.More (u b)) (row_changed n t u k (b + k) i F (omega arith) (ap (λ a. F (t a)) z ∙ e ∙ ap u (sym z)) (λ a p q. l a (omega arith) (omega arith)) (λ a p q. r a (omega arith) (omega arith)))

trees_changed : (fs : Forms) (c d : Cells) (b i : ℕ) (p : Part) (F : Tree → Tree) → item fs i ≡ Some p → F (tree_of p.1 c (b + p.0)) ≡ tree_of p.1 d (b + p.0)
    → SameBut c d b (sizes fs) (b + p.0) (size p.1) → tree.tree_changed F (trees_of fs c b) i ≡ trees_of fs d b
trees_changed End c d b i p F e h s = absurd (cc)
trees_changed (More f fs) c d b zero p F e h s =
    let w : (0, f) ≡ p = some_inj (0, f) p e in
    let o : 0 ≡ p.0 = ap (λ (q : Part). q.0) w in
    let k : size f ≡ size p.1 = ap (λ (q : Part). size q.1) w in
    let z : b ≡ b + p.0 = omega arith in
    ap (λ x. tree.More x (trees_of fs c (b + size f))) (ap (λ a. F (tree_of f c a)) z ∙ ap (λ g. F (tree_of g c (b + p.0))) (ap (λ (q : Part). q.1) w) ∙ h ∙ sym (ap (λ g. tree_of g d (b + p.0)) (ap (λ (q : Part). q.1) w)) ∙ sym (ap (tree_of f d) z))
    ∙ ap (tree.More (tree_of f d b)) (trees_same fs c d (b + size f) (same_part c d (b + p.0 + size p.1) (b + (size f + sizes fs) - (b + p.0 + size p.1)) (b + size f) (sizes fs) s.behind (omega arith) (omega arith)))
trees_changed (More f fs) c d b (suc i) p F e h s =
    let m = option_map-some (further (size f)) (item fs i) p e in
    let o : size f + m.0.0 ≡ p.0 = ap (λ (q : Part). q.0) m.2 in
    let k : size m.0.1 ≡ size p.1 = ap (λ (q : Part). size q.1) m.2 in
    let z : b + size f + m.0.0 ≡ b + p.0 = omega arith in
    let fit : m.0.0 + size m.0.1 ≤ sizes fs = item_fits fs i m.0 m.1 in
    let eq : F (tree_of m.0.1 c (b + size f + m.0.0)) ≡ tree_of m.0.1 d (b + size f + m.0.0) =
    ap (λ a. F (tree_of m.0.1 c a)) z ∙ ap (λ g. F (tree_of g c (b + p.0))) (ap (λ (q : Part). q.1) m.2) ∙ h ∙ sym (ap (λ g. tree_of g d (b + p.0)) (ap (λ (q : Part). q.1) m.2)) ∙ sym (ap (tree_of m.0.1 d) z) in
    let but : SameBut c d (b + size f) (sizes fs) (b + size f + m.0.0) (size m.0.1) = record {
      before = same_part c d b (b + p.0 - b) (b + size f) (b + size f + m.0.0 - (b + size f)) s.before (omega arith) (omega arith);
      behind = same_part c d (b + p.0 + size p.1) (b + (size f + sizes fs) - (b + p.0 + size p.1)) (b + size f + m.0.0 + size m.0.1) (b + size f + sizes fs - (b + size f + m.0.0 + size m.0.1)) s.behind (omega arith) (omega arith);
    } in
    ap (λ x. tree.More x (tree.tree_changed F (trees_of fs c (b + size f)) i)) (tree_same f c d b (same_part c d b (b + p.0 - b) b (size f) s.before (omega arith) (omega arith)))
    ∙ ap (tree.More (tree_of f d b)) (trees_changed fs c d (b + size f) i m.0 F m.1 eq but)

-- the items of a list that begins n further on
list_changed : (fs : Forms) (c d : Cells) (b n all i : ℕ) (p : Part) (F : Tree → Tree) → option_map (further n) (item fs i) ≡ Some p → n + sizes fs ≤ all → F (tree_of p.1 c (b + p.0)) ≡ tree_of p.1 d (b + p.0)
    → SameBut c d b all (b + p.0) (size p.1) → tree.tree_changed F (trees_of fs c (b + n)) i ≡ trees_of fs d (b + n)
list_changed fs c d b n all i p F e l h s =
    let m = option_map-some (further n) (item fs i) p e in
    let o : n + m.0.0 ≡ p.0 = ap (λ (q : Part). q.0) m.2 in
    let k : size m.0.1 ≡ size p.1 = ap (λ (q : Part). size q.1) m.2 in
    let z : b + n + m.0.0 ≡ b + p.0 = omega arith in
    let fit : m.0.0 + size m.0.1 ≤ sizes fs = item_fits fs i m.0 m.1 in
    let eq : F (tree_of m.0.1 c (b + n + m.0.0)) ≡ tree_of m.0.1 d (b + n + m.0.0) =
    ap (λ a. F (tree_of m.0.1 c a)) z ∙ ap (λ g. F (tree_of g c (b + p.0))) (ap (λ (q : Part). q.1) m.2) ∙ h ∙ sym (ap (λ g. tree_of g d (b + p.0)) (ap (λ (q : Part). q.1) m.2)) ∙ sym (ap (tree_of m.0.1 d) z) in
    trees_changed fs c d (b + n) i m.0 F m.1 eq (record {
      before = same_part c d b (b + p.0 - b) (b + n) (b + n + m.0.0 - (b + n)) s.before (omega arith) (omega arith);
      behind = same_part c d (b + p.0 + size p.1) (b + all - (b + p.0 + size p.1)) (b + n + m.0.0 + size m.0.1) (b + n + sizes fs - (b + n + m.0.0 + size m.0.1)) s.behind (omega arith) (omega arith);
    })

union_changed : (o : Option ℕ) (xs : Trees) (i : ℕ) (F : Tree → Tree) → tree.part_changed F (union_tree o xs) (step.Field i) ≡ union_tree o (tree.tree_changed F xs i)
union_changed None xs i F = refl
union_changed (Some m) xs i F = elim (cases_Bool (m == i)) as (λ _. tree.part_changed F (active_tree m (tree.tree_at xs m)) (step.Field i) ≡ active_tree m (tree.tree_at (tree.tree_changed F xs i) m)) [
  | inl h ↦ here (tree.tree_at xs m) h ∙ ap (active_tree m) (sym (subst (λ k. tree.tree_at (tree.tree_changed F xs k) m ≡ option_map F (tree.tree_at xs m)) (eqb-true m i h) (tree_changed-here F xs m)))
  | inr h ↦ away (tree.tree_at xs m) h ∙ ap (active_tree m) (sym (tree_changed-other F xs i m (eqb-false m i h)))
]
  where
    here : (y : Option Tree) → (m == i) ≡ true → tree.part_changed F (active_tree m y) (step.Field i) ≡ active_tree m (option_map F y)
    here None h = refl
    here (Some y) h = ap (λ b. tree.Active m (if b then F y else y)) h

    away : (y : Option Tree) → (m == i) ≡ false → tree.part_changed F (active_tree m y) (step.Field i) ≡ active_tree m y
    away None h = refl
    away (Some y) h = ap (λ b. tree.Active m (if b then F y else y)) h

first_same : (c d : Cells) (b n a m : ℕ) → SameBut c d b n a m → b < a → c b ≡ d b
first_same c d b n a m s l = s.before.same b (omega arith) (omega arith)

pub part_changes : (f : Form) (c d : Cells) (b : ℕ) (s : Step) (p : Part) (F : Tree → Tree) → part_of f s ≡ Some p → F (tree_of p.1 c (b + p.0)) ≡ tree_of p.1 d (b + p.0)
    → SameBut c d b (size f) (b + p.0) (size p.1) → tree.part_changed F (tree_of f c b) s ≡ tree_of f d b
part_changes (Row n f) c d b (step.Elem i) p F e h s =
    let x = if_some (nat_lt i n) (suc (i * size f), f) p e in
    let l : i < n = lt_true i n x.0 in
    let o : suc (i * size f) ≡ p.0 = ap (λ (q : Part). q.0) x.1 in
    let k : size f ≡ size p.1 = ap (λ (q : Part). size q.1) x.1 in
    let z : b + 1 + i * size f ≡ b + p.0 = omega arith in
    let v : suc i * size f ≡ i * size f + size f = suc-mul i (size f) in
    let eq : F (tree_of f c (b + 1 + i * size f)) ≡ tree_of f d (b + 1 + i * size f) =
    ap (λ a. F (tree_of f c a)) z ∙ ap (λ g. F (tree_of g c (b + p.0))) (ap (λ (q : Part). q.1) x.1) ∙ h ∙ sym (ap (λ g. tree_of g d (b + p.0)) (ap (λ (q : Part). q.1) x.1)) ∙ sym (ap (tree_of f d) z) in
    ap tree.Row (row_changed n (tree_of f c) (tree_of f d) (size f) (b + 1) i F l eq
    (λ a y w. tree_same f c d a (same_part c d b (b + p.0 - b) a (size f) s.before (omega arith) (omega arith)))
    (λ a y w. tree_same f c d a (same_part c d (b + p.0 + size p.1) (b + suc (n * size f) - (b + p.0 + size p.1)) a (size f) s.behind (omega arith) (omega arith))))
part_changes (Class bs ms) c d b (step.Base i) p F e h s =
    let fit = further_fits 1 (item bs i) p (sizes bs) (item_fits bs i) e in
    let lo : 1 ≤ p.0 = fit.0 in
    let hi : p.0 + size p.1 ≤ 1 + sizes bs = fit.1 in
    ap (λ x. tree.Class x (tree.tree_changed F (trees_of bs c (b + 1)) i) (trees_of ms c (b + suc (sizes bs)))) (ap (λ (x : Cell). x.phase) (first_same c d b (suc (sizes bs + sizes ms)) (b + p.0) (size p.1) s (omega arith)))
    ∙ ap (λ x. tree.Class (d b).phase x (trees_of ms c (b + suc (sizes bs)))) (list_changed bs c d b 1 (suc (sizes bs + sizes ms)) i p F e (omega arith) h s)
    ∙ ap (λ x. tree.Class (d b).phase (trees_of bs d (b + 1)) x) (trees_same ms c d (b + suc (sizes bs)) (same_part c d (b + p.0 + size p.1) (b + suc (sizes bs + sizes ms) - (b + p.0 + size p.1)) (b + suc (sizes bs)) (sizes ms) s.behind (omega arith) (omega arith)))
part_changes (Class bs ms) c d b (step.Field i) p F e h s =
    let fit = further_fits (suc (sizes bs)) (item ms i) p (sizes ms) (item_fits ms i) e in
    let lo : suc (sizes bs) ≤ p.0 = fit.0 in
    ap (λ x. tree.Class x (trees_of bs c (b + 1)) (tree.tree_changed F (trees_of ms c (b + suc (sizes bs))) i)) (ap (λ (x : Cell). x.phase) (first_same c d b (suc (sizes bs + sizes ms)) (b + p.0) (size p.1) s (omega arith)))
    ∙ ap (λ x. tree.Class (d b).phase x (tree.tree_changed F (trees_of ms c (b + suc (sizes bs))) i)) (trees_same bs c d (b + 1) (same_part c d b (b + p.0 - b) (b + 1) (sizes bs) s.before (omega arith) (omega arith)))
    ∙ ap (tree.Class (d b).phase (trees_of bs d (b + 1))) (list_changed ms c d b (suc (sizes bs)) (suc (sizes bs + sizes ms)) i p F e (omega arith) h s)
part_changes (Union ms) c d b (step.Field i) p F e h s =
    let fit = further_fits 1 (item ms i) p (sizes ms) (item_fits ms i) e in
    let lo : 1 ≤ p.0 = fit.0 in
    union_changed (c b).member (trees_of ms c (b + 1)) i F
    ∙ ap (λ (x : Cell). union_tree x.member (tree.tree_changed F (trees_of ms c (b + 1)) i)) (first_same c d b (suc (sizes ms)) (b + p.0) (size p.1) s (omega arith))
    ∙ ap (union_tree (d b).member) (list_changed ms c d b 1 (suc (sizes ms)) i p F e (omega arith) h s)
part_changes Leaf c d b s p F e h w = absurd (cc)
part_changes (Row n f) c d b (step.Base i) p F e h s = absurd (cc)
part_changes (Row n f) c d b (step.Field i) p F e h s = absurd (cc)
part_changes (Class bs ms) c d b (step.Elem i) p F e h s = absurd (cc)
part_changes (Union ms) c d b (step.Elem i) p F e h s = absurd (cc)
part_changes (Union ms) c d b (step.Base i) p F e h s = absurd (cc)

-- along steps

pub tree_changes : (f : Form) (c d : Cells) (b : ℕ) (ss : List Step) (p : Part) (F : Tree → Tree) → below_of f ss ≡ Some p → F (tree_of p.1 c (b + p.0)) ≡ tree_of p.1 d (b + p.0)
    → SameBut c d b (size f) (b + p.0) (size p.1) → tree.changed F (tree_of f c b) ss ≡ tree_of f d b
tree_changes f c d b [] p F e h s =
    let w : (0, f) ≡ p = some_inj (0, f) p e in
    let z : b ≡ b + 0 = omega arith in
    let k : F (tree_of f c (b + 0)) ≡ tree_of f d (b + 0) = subst (λ (q : Part). F (tree_of q.1 c (b + q.0)) ≡ tree_of q.1 d (b + q.0)) (sym w) h in
    subst (λ a. F (tree_of f c a) ≡ tree_of f d a) (sym z) k
tree_changes f c d b (s ∷ ss) p F e h but =
    let m = option_and_then-some (λ (p : Part). option_map (further p.0) (below_of p.1 ss)) (part_of f s) p e in
    let x = option_map-some (further m.0.0) (below_of m.0.1 ss) p m.2 in
    let fit : x.0.0 + size x.0.1 ≤ size m.0.1 = below_fits m.0.1 ss x.0 x.1 in
    let w = part_fits f s m.0 m.1 in
    let within : m.0.0 + size m.0.1 ≤ size f = w.within in
    let o : m.0.0 + x.0.0 ≡ p.0 = ap (λ (q : Part). q.0) x.2 in
    let k : size x.0.1 ≡ size p.1 = ap (λ (q : Part). size q.1) x.2 in
    let z : b + m.0.0 + x.0.0 ≡ b + p.0 = omega arith in
    let eq : F (tree_of x.0.1 c (b + m.0.0 + x.0.0)) ≡ tree_of x.0.1 d (b + m.0.0 + x.0.0) =
    ap (λ a. F (tree_of x.0.1 c a)) z ∙ ap (λ g. F (tree_of g c (b + p.0))) (ap (λ (q : Part). q.1) x.2) ∙ h ∙ sym (ap (λ g. tree_of g d (b + p.0)) (ap (λ (q : Part). q.1) x.2)) ∙ sym (ap (tree_of x.0.1 d) z) in
    let inner : SameBut c d (b + m.0.0) (size m.0.1) (b + m.0.0 + x.0.0) (size x.0.1) = record {
      before = same_part c d b (b + p.0 - b) (b + m.0.0) (b + m.0.0 + x.0.0 - (b + m.0.0)) but.before (omega arith) (omega arith);
      behind = same_part c d (b + p.0 + size p.1) (b + size f - (b + p.0 + size p.1)) (b + m.0.0 + x.0.0 + size x.0.1) (b + m.0.0 + size m.0.1 - (b + m.0.0 + x.0.0 + size x.0.1)) but.behind (omega arith) (omega arith);
    } in
    let outer : SameBut c d b (size f) (b + m.0.0) (size m.0.1) = record {
      before = same_part c d b (b + p.0 - b) b (b + m.0.0 - b) but.before (omega arith) (omega arith);
      behind = same_part c d (b + p.0 + size p.1) (b + size f - (b + p.0 + size p.1)) (b + m.0.0 + size m.0.1) (b + size f - (b + m.0.0 + size m.0.1)) but.behind (omega arith) (omega arith);
    } in
    part_changes f c d b s m.0 (λ y. tree.changed F y ss) m.1 (tree_changes m.0.1 c d (b + m.0.0) ss x.0 F x.1 eq inner) outer
