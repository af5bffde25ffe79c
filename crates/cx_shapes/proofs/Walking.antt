-- What stands at the end of steps, and what they pass, by the cells.
use Rattle.std.proofs.Common.{◌≡◌, ℕ, ◌+◌, Bool, true, false, ◌&&◌, ◌||◌, not, List, [], ◌∷◌, Option, None, Some, refl, sym, ap, ◌∙◌, arith, if◌then◌else◌}
use Rattle.std.specs.List.{list_any}
use Rattle.std.specs.Prelude.{option_map, option_and_then, unwrap_or, is_some}
use Rattle.cx_type_defs.proofs.Lists.{some_inj, option_map-some, option_and_then-some}
use Rattle.cx_type_defs.specs.declared.ids.Step.{Step}
use Rattle.cx_type_defs.specs.declared.ids.Step.TheVariants as step
use Rattle.cx_state.specs.Objects as tree
use Rattle.cx_state.specs.Objects.{Tree, Trees}
use Rattle.cx_state.specs.Conditions.{on_way, is_union, stops, is_dead}
use Rattle.cx_shapes.specs.Forms.{Form, Leaf, Row, Class, Union, Part, further, part_of, below_of}
use Rattle.cx_shapes.specs.Contents.{Cells, active_tree, union_tree, tree_of, trees_of, is_member, is_open, opens, is_dead_class, dies}
use Rattle.cx_shapes.proofs.Parting.{tree_part}

pub below_tree : (f : Form) (c : Cells) (b : ℕ) (ss : List Step) (p : Part) → below_of f ss ≡ Some p → tree.below (tree_of f c b) ss ≡ (if opens f c b ss then Some (tree_of p.1 c (b + p.0)) else None)
below_tree f c b [] p e =
    let z : b ≡ b + 0 = omega arith in
    ap (λ a. Some (tree_of f c a)) z ∙ ap (λ (q : Part). Some (tree_of q.1 c (b + q.0))) (some_inj (0, f) p e)
below_tree f c b (s ∷ ss) p e =
    let m = option_and_then-some (λ (p : Part). option_map (further p.0) (below_of p.1 ss)) (part_of f s) p e in
    let x = option_map-some (further m.0.0) (below_of m.0.1 ss) p m.2 in
    let z : b + m.0.0 + x.0.0 ≡ b + (m.0.0 + x.0.0) = omega arith in
    let ih : tree.below (tree_of m.0.1 c (b + m.0.0)) ss ≡ (if opens m.0.1 c (b + m.0.0) ss then Some (tree_of p.1 c (b + p.0)) else None) =
    below_tree m.0.1 c (b + m.0.0) ss x.0 x.1
    ∙ ap (λ a. if opens m.0.1 c (b + m.0.0) ss then Some (tree_of x.0.1 c a) else None) z
    ∙ ap (λ (q : Part). if opens m.0.1 c (b + m.0.0) ss then Some (tree_of q.1 c (b + q.0)) else None) x.2 in
    ap (option_and_then (λ y. tree.below y ss)) (tree_part f c b s m.0 m.1)
    ∙ go (is_open f (c b) s) (opens m.0.1 c (b + m.0.0) ss) (tree_of m.0.1 c (b + m.0.0)) (Some (tree_of p.1 c (b + p.0))) (λ y. tree.below y ss) ih
    ∙ ap (λ o. if is_open f (c b) s && unwrap_or (option_map (λ (p : Part). opens p.1 c (b + p.0) ss) o) false then Some (tree_of p.1 c (b + p.0)) else None) (sym m.1)
  where
    go : {A B : Type 0} (a o : Bool) (x : A) (y : Option B) (g : A → Option B) → g x ≡ (if o then y else None) → option_and_then g (if a then Some x else None) ≡ (if a && o then y else None)
    go true o x y g h = h
    go false o x y g h = refl

-- a part of which there is one stops exactly where it isn't open
union_is : (o : Option ℕ) (xs : Trees) → is_union (union_tree o xs) ≡ true
union_is None xs = refl
union_is (Some m) xs = go (tree.tree_at xs m)
  where
    go : (x : Option Tree) → is_union (active_tree m x) ≡ true
    go None = refl
    go (Some x) = refl

some_if : {A : Type 0} (b : Bool) (x : A) → is_some (if b then Some x else None) ≡ b
some_if true x = refl
some_if false x = refl

stops_open : (f : Form) (c : Cells) (b : ℕ) (s : Step) (p : Part) → part_of f s ≡ Some p → stops (tree_of f c b, s) ≡ not (is_open f (c b) s)
stops_open (Row n f) c b s p e = refl
stops_open (Class bs ms) c b s p e = refl
stops_open (Union ms) c b (step.Field i) p e =
    ap (λ u. u && not (is_some (tree.part (tree_of (Union ms) c b) (step.Field i)))) (union_is (c b).member (trees_of ms c (b + 1)))
    ∙ ap (λ o. not (is_some o)) (tree_part (Union ms) c b (step.Field i) p e)
    ∙ ap not (some_if (is_member i (c b).member) (tree_of p.1 c (b + p.0)))
stops_open Leaf c b s p e = absurd (cc)
stops_open (Union ms) c b (step.Elem i) p e = absurd (cc)
stops_open (Union ms) c b (step.Base i) p e = absurd (cc)

pub way_stops : (f : Form) (c : Cells) (b : ℕ) (ss : List Step) (p : Part) → below_of f ss ≡ Some p → list_any stops (on_way (tree_of f c b) ss) ≡ not (opens f c b ss)
way_stops f c b [] p e = refl
way_stops f c b (s ∷ ss) p e =
    let m = option_and_then-some (λ (p : Part). option_map (further p.0) (below_of p.1 ss)) (part_of f s) p e in
    let x = option_map-some (further m.0.0) (below_of m.0.1 ss) p m.2 in
    ap (λ a. a || list_any stops (unwrap_or (option_map (λ y. on_way y ss) (tree.part (tree_of f c b) s)) [])) (stops_open f c b s m.0 m.1)
    ∙ ap (λ o. not (is_open f (c b) s) || list_any stops (unwrap_or (option_map (λ y. on_way y ss) o) [])) (tree_part f c b s m.0 m.1)
    ∙ go (is_open f (c b) s) (tree_of m.0.1 c (b + m.0.0)) (opens m.0.1 c (b + m.0.0) ss) (way_stops m.0.1 c (b + m.0.0) ss x.0 x.1)
    ∙ ap (λ o. not (is_open f (c b) s && unwrap_or (option_map (λ (p : Part). opens p.1 c (b + p.0) ss) o) false)) (sym m.1)
  where
    go : (a : Bool) (x : Tree) (o : Bool) → list_any stops (on_way x ss) ≡ not o → (not a || list_any stops (unwrap_or (option_map (λ y. on_way y ss) (if a then Some x else None)) [])) ≡ not (a && o)
    go true x o h = h
    go false x o h = refl

dead_union : (o : Option ℕ) (xs : Trees) → is_dead (union_tree o xs) ≡ false
dead_union None xs = refl
dead_union (Some m) xs = go (tree.tree_at xs m)
  where
    go : (x : Option Tree) → is_dead (active_tree m x) ≡ false
    go None = refl
    go (Some x) = refl

pub dead_is : (f : Form) (c : Cells) (b : ℕ) → is_dead (tree_of f c b) ≡ is_dead_class f (c b)
dead_is Leaf c b = refl
dead_is (Row n f) c b = refl
dead_is (Class bs ms) c b = refl
dead_is (Union ms) c b = dead_union (c b).member (trees_of ms c (b + 1))

pub way_dies : (f : Form) (c : Cells) (b : ℕ) (ss : List Step) (p : Part) → below_of f ss ≡ Some p → list_any (λ w. is_dead w.0) (on_way (tree_of f c b) ss) ≡ dies f c b ss
way_dies f c b [] p e = refl
way_dies f c b (s ∷ ss) p e =
    let m = option_and_then-some (λ (p : Part). option_map (further p.0) (below_of p.1 ss)) (part_of f s) p e in
    let x = option_map-some (further m.0.0) (below_of m.0.1 ss) p m.2 in
    ap (λ a. a || list_any (λ w. is_dead w.0) (unwrap_or (option_map (λ y. on_way y ss) (tree.part (tree_of f c b) s)) [])) (dead_is f c b)
    ∙ ap (λ o. is_dead_class f (c b) || list_any (λ w. is_dead w.0) (unwrap_or (option_map (λ y. on_way y ss) o) [])) (tree_part f c b s m.0 m.1)
    ∙ ap (λ o. is_dead_class f (c b) || o) (go (is_open f (c b) s) (tree_of m.0.1 c (b + m.0.0)) (dies m.0.1 c (b + m.0.0) ss) (way_dies m.0.1 c (b + m.0.0) ss x.0 x.1))
    ∙ ap (λ o. is_dead_class f (c b) || (is_open f (c b) s && unwrap_or (option_map (λ (p : Part). dies p.1 c (b + p.0) ss) o) false)) (sym m.1)
  where
    go : (a : Bool) (x : Tree) (o : Bool) → list_any (λ w. is_dead w.0) (on_way x ss) ≡ o → list_any (λ w. is_dead w.0) (unwrap_or (option_map (λ y. on_way y ss) (if a then Some x else None)) []) ≡ (a && o)
    go true x o h = h
    go false x o h = refl
