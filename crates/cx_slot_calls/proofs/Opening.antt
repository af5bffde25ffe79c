-- What the first slot of a tree says of its parts and of its life.
use Rattle.std.proofs.Common.{◌≡◌, ℕ, zero, suc, ◌*◌, ◌==◌, ◌<◌, nat_lt, Bool, true, false, true≢false, not, ◌&&◌, ◌||◌, List, [], ◌∷◌, ◌++◌, length, Option, None, Some, refl, sym, ap, subst, ◌∙◌, arith, get_or, if◌then◌else◌}
use Rattle.std.proofs.lemmas.Bool.{ltb-true}
use Rattle.std.specs.Prelude.{option_map, option_and_then, unwrap_or, is_some}
use Rattle.std.specs.List.{list_any}
use Rattle.cx_type_defs.specs.declared.ids.Step.{Step}
use Rattle.cx_type_defs.specs.declared.ids.Step.TheVariants as step
use Rattle.cx_state.specs.declared.kind.Scalar.TheVariants as scalar
use Rattle.cx_state.specs.Objects.{Path, Tree, Trees, size, tree_at, part, below}
use Rattle.cx_state.specs.Objects as tree
use Rattle.cx_state.specs.Conditions.{is_dead, is_dead_phase, is_union, on_way, stops}
use Rattle.cx_layout.specs.declared.place.Place.{Place}
use Rattle.cx_layout.specs.Forms.{Form, Forms, Leaf, Row, Class, End, More, nodes, nodes_in, cells, cells_in, Part, further, whole, item, part_of, below_of}
use Rattle.cx_layout.proofs.Options.{some_inj, and_then_some, map_some, if_some}
use Rattle.cx_slots.specs.declared.slot.SlotView.{SlotView}
use Rattle.cx_slots.specs.declared.slot.SlotView.TheVariants as view
use Rattle.cx_slots.specs.Slots.{Slot, slot_seen, slots_seen}
use Rattle.cx_slots.specs.Slots as slot
use Rattle.cx_slots.specs.Flat.{Fits, AllFit, flat}
use Rattle.cx_slots.proofs.Frames.{part_framed}
use Rattle.cx_slot_calls.specs.Rules.{dead_on}
use Rattle.cx_slot_calls.specs.Walks.{slot_at, shows, lets, shows_dead}

-- what is seen of a slot

abbrev pub first_of : List Slot → ℕ → Slot
first_of l n = get_or l n (slot.Value scalar.Indeterminate)

abbrev pub shows_seen : Slot → Step → Bool
shows_seen (slot.Active (Some m)) (step.Field i) = m == i
shows_seen _ _ = false

abbrev pub dead_seen : Slot → Bool
dead_seen (slot.Header p) = is_dead_phase p
dead_seen _ = false

module _ (path : Place → Path) where
  pub seen_at : (l : List SlotView) (n : ℕ) → slot_seen path (slot_at l n) ≡ first_of (slots_seen path l) n
  seen_at [] n = refl
  seen_at (x ∷ l) zero = refl
  seen_at (x ∷ l) (suc n) = seen_at l n

  pub shows_same : (v : SlotView) (s : Step) → shows v s ≡ shows_seen (slot_seen path v) s
  shows_same (view.Value v) s = refl
  shows_same (view.Phase p) s = refl
  shows_same (view.Active None) s = refl
  shows_same (view.Active (Some m)) (step.Field i) = refl
  shows_same (view.Active (Some m)) (step.Base i) = refl
  shows_same (view.Active (Some m)) (step.Elem i) = refl

  pub dead_same : (v : SlotView) → shows_dead v ≡ dead_seen (slot_seen path v)
  dead_same (view.Value v) = refl
  dead_same (view.Phase p) = refl
  dead_same (view.Active m) = refl

-- the first slot of a part is among those of the whole
pub head_in : (front rest : List Slot) (n : ℕ) → length front ≡ n → first_of (front ++ rest) n ≡ first_of rest 0
head_in [] rest zero h = refl
head_in [] rest (suc n) h = absurd (cc)
head_in (x ∷ front) rest zero h = absurd (cc)
head_in (x ∷ front) rest (suc n) h = head_in front rest n (cc)

tree_there : (xs : Trees) (i : ℕ) → i < size xs → is_some (tree_at xs i) ≡ true
tree_there tree.End i l = absurd (omega arith)
tree_there (tree.More x xs) zero l = refl
tree_there (tree.More x xs) (suc i) l = tree_there xs i (omega arith)

item_there : (fs : Forms) (xs : Trees) (i : ℕ) (p : Part) → AllFit fs xs → item false fs i ≡ Some p → is_some (tree_at xs i) ≡ true
item_there End xs i p h e = absurd (cc)
item_there (More f fs) tree.End i p h e = absurd h
item_there (More f fs) (tree.More x xs) zero p h e = refl
item_there (More f fs) (tree.More x xs) (suc i) p h e = let m = map_some (further (nodes f) (cells f)) (item false fs i) p e in item_there fs xs i m.0 h.1 m.1

some_when : {A : Type 0} (b : Bool) (x : A) → is_some (if b then Some x else None) ≡ b
some_when true x = refl
some_when false x = refl

-- what the header of a form says of a step, and of the life of what is there

abbrev pub lets_of : Form → SlotView → Step → Bool
lets_of (Class c u bs ms) v s = lets u v s
lets_of f v s = true

abbrev pub dead_of : Form → SlotView → Bool
dead_of (Class c u bs ms) v = shows_dead v
dead_of f v = false

abbrev pub lets_seen : Form → Slot → Step → Bool
lets_seen (Class c true bs ms) v s = shows_seen v s
lets_seen f v s = true

pub lets_same : (path : Place → Path) (f : Form) (v : SlotView) (s : Step) → lets_of f v s ≡ lets_seen f (slot_seen path v) s
lets_same path Leaf v s = refl
lets_same path (Row n f) v s = refl
lets_same path (Class c true bs ms) v s = shows_same path v s
lets_same path (Class c false bs ms) v s = refl

pub part_there : (f : Form) (x : Tree) (s : Step) (p : Part) (more : List Slot) → Fits f x → part_of f s ≡ Some p → lets_seen f (first_of (flat f x ++ more) 0) s ≡ is_some (part x s)
part_there (Row n f) (tree.Row xs) (step.Elem i) p more h e =
    let w = if_some (nat_lt i n) (record { node = 1; slot = i * cells f; form = f }) p e in
    let l = ltb-true i n w.0 in
    sym (tree_there xs i (subst (λ k. i < k) (sym h.0) l))
part_there (Class c false bs ms) (tree.Class q xs ys) (step.Base i) p more h e = let m = map_some (further 1 1) (item false bs i) p e in sym (item_there bs xs i m.0 h.0 m.1)
part_there (Class c false bs ms) (tree.Class q xs ys) (step.Field i) p more h e = let m = map_some (further (suc (nodes_in bs)) (suc (cells_in false bs))) (item false ms i) p e in sym (item_there ms ys i m.0 h.1 m.1)
part_there (Class c true bs ms) tree.Union (step.Field i) p more h e = refl
part_there (Class c true bs ms) tree.Union (step.Base i) p more h e = refl
part_there (Class c true bs ms) (tree.Active m x) (step.Field i) p more h e = sym (some_when (m == i) x)
part_there (Class c true bs ms) (tree.Active m x) (step.Base i) p more h e = refl
part_there Leaf x s p more h e = absurd (cc)
part_there (Row n f) x (step.Base i) p more h e = absurd (cc)
part_there (Row n f) x (step.Field i) p more h e = absurd (cc)
part_there (Class c u bs ms) x (step.Elem i) p more h e = absurd (cc)
part_there f x s p more h e = absurd h

pub dead_there : (path : Place → Path) (f : Form) (x : Tree) (v : SlotView) (more : List Slot) → Fits f x → slot_seen path v ≡ first_of (flat f x ++ more) 0 → dead_of f v ≡ is_dead x
dead_there path Leaf (tree.Leaf u) v more h e = refl
dead_there path (Row n f) (tree.Row xs) v more h e = refl
dead_there path (Class c false bs ms) (tree.Class q xs ys) v more h e = dead_same path v ∙ ap dead_seen e
dead_there path (Class c true bs ms) tree.Union v more h e = dead_same path v ∙ ap dead_seen e
dead_there path (Class c true bs ms) (tree.Active m x) v more h e = dead_same path v ∙ ap dead_seen e
dead_there path f x v more h e = absurd h

-- a step more

pub tree_last : (x : Tree) (ss : List Step) (s : Step) → below x (ss ++ s ∷ []) ≡ option_and_then (λ y. part y s) (below x ss)
tree_last x [] s = one (part x s)
  where
    one : (o : Option Tree) → option_and_then (λ y. Some y) o ≡ o
    one None = refl
    one (Some y) = refl
tree_last x (t ∷ ss) s = go (part x t) (λ y. tree_last y ss s)
  where
    go : (o : Option Tree) → ((y : Tree) → below y (ss ++ s ∷ []) ≡ option_and_then (λ z. part z s) (below y ss)) → option_and_then (λ y. below y (ss ++ s ∷ [])) o ≡ option_and_then (λ z. part z s) (option_and_then (λ y. below y ss) o)
    go None ih = refl
    go (Some y) ih = ih y

or_false : (b : Bool) → (b || false) ≡ b
or_false true = refl
or_false false = refl

or_assoc : (a b c : Bool) → (a || (b || c)) ≡ ((a || b) || c)
or_assoc true b c = refl
or_assoc false b c = refl

abbrev dead_after : List Step → Option Tree → Bool
dead_after ss o = list_any (λ w. is_dead w.0) (unwrap_or (option_map (λ y. on_way y ss) o) [])

pub dead_last : (x : Tree) (ss : List Step) (s : Step) (y : Tree) → below x ss ≡ Some y → dead_on x (ss ++ s ∷ []) ≡ (dead_on x ss || is_dead y)
dead_last x [] s y e = ap (λ b. is_dead x || b) (nothing (part x s)) ∙ or_false (is_dead x) ∙ ap is_dead (some_inj x y e)
  where
    nothing : (o : Option Tree) → dead_after [] o ≡ false
    nothing None = refl
    nothing (Some z) = refl
dead_last x (t ∷ ss) s y e =
    let a = and_then_some (λ z. below z ss) (part x t) y e in
    ap (λ o. is_dead x || dead_after (ss ++ s ∷ []) o) a.1 ∙ ap (λ b. is_dead x || b) (dead_last a.0 ss s y a.2) ∙ or_assoc (is_dead x) (dead_on a.0 ss) (is_dead y)
    ∙ ap (λ o. (is_dead x || dead_after ss o) || is_dead y) (sym a.1)

-- only a union stops the way to a part

missing : (f : Form) (x : Tree) (s : Step) (p : Part) → Fits f x → part_of f s ≡ Some p → part x s ≡ None → is_union x ≡ true
missing (Class c true bs ms) tree.Union s p h e n = refl
missing (Class c true bs ms) (tree.Active m x) s p h e n = refl
missing Leaf x s p h e n = absurd (cc)
missing (Row m f) x s p h e n = let w : lets_seen (Row m f) (first_of (flat (Row m f) x ++ []) 0) s ≡ is_some (part x s) = part_there (Row m f) x s p [] h e in absurd (true≢false (w ∙ ap is_some n))
missing (Class c false bs ms) x s p h e n = let w : lets_seen (Class c false bs ms) (first_of (flat (Class c false bs ms) x ++ []) 0) s ≡ is_some (part x s) = part_there (Class c false bs ms) x s p [] h e in absurd (true≢false (w ∙ ap is_some n))
missing f x s p h e n = absurd h

and_false : (b : Bool) → (b && false) ≡ false
and_false true = refl
and_false false = refl

and_true : (b : Bool) → (b && true) ≡ b
and_true true = refl
and_true false = refl

abbrev stops_after : List Step → Option Tree → Bool
stops_after ss o = list_any stops (unwrap_or (option_map (λ y. on_way y ss) o) [])

pub stops_is : (f : Form) (x : Tree) (ss : List Step) (p : Part) → Fits f x → below_of f ss ≡ Some p → list_any stops (on_way x ss) ≡ not (is_some (below x ss))
stops_is f x [] p h e = refl
stops_is f x (s ∷ ss) p h e = go (λ a y b k w. stops_is a y ss b k w) (part x s) refl
  where
    go : ((a : Form) (y : Tree) (b : Part) → Fits a y → below_of a ss ≡ Some b → list_any stops (on_way y ss) ≡ not (is_some (below y ss))) → (o : Option Tree) → part x s ≡ o → (is_union x && not (is_some (part x s)) || stops_after ss (part x s)) ≡ not (is_some (option_and_then (λ y. below y ss) (part x s)))
    go ih None n =
        let a = and_then_some (λ (p : Part). option_map (further p.node p.slot) (below_of p.form ss)) (part_of f s) p e in
        ap (λ o. is_union x && not (is_some o) || stops_after ss o) n ∙ or_false (is_union x && true) ∙ and_true (is_union x) ∙ missing f x s a.0 h a.1 n ∙ ap (λ o. not (is_some (option_and_then (λ y. below y ss) o))) (sym n)
    go ih (Some y) n =
        let a = and_then_some (λ (p : Part). option_map (further p.node p.slot) (below_of p.form ss)) (part_of f s) p e in
        let b = map_some (further a.0.node a.0.slot) (below_of a.0.form ss) p a.2 in
        let k = part_framed f x (s ∷ []) (further a.0.node a.0.slot (whole a.0.form)) y h (ap (option_and_then (λ (p : Part). option_map (further p.node p.slot) (Some (whole p.form)))) a.1) (ap (option_and_then (λ z. Some z)) n) in
        ap (λ o. is_union x && not (is_some o) || stops_after ss o) n ∙ ap (λ c. c || stops_after ss (Some y)) (and_false (is_union x)) ∙ ih a.0.form y b.0 k.there b.1 ∙ ap (λ o. not (is_some (option_and_then (λ y. below y ss) o))) (sym n)
