-- Which of the enclosing objects decides, step by step.
use Rattle.std.proofs.Common.{◌≡◌, ℕ, zero, suc, ◌+◌, ◌-◌, ◌≤◌, Bool, true, false, ◌&&◌, ◌||◌, List, [], ◌∷◌, map, Option, None, Some, refl, sym, ap, subst, ◌∙◌, arith, if◌then◌else◌}
use Rattle.std.specs.Prelude.{option_map, option_and_then}
use Rattle.std.specs.Option.{option_or}
use Rattle.std.specs.List.{find}
use Rattle.std.proofs.lemmas.List.Folds.{find-append}
use Rattle.cx_type_defs.proofs.Lists.{some_inj, option_map-some}
use Rattle.cx_type_defs.specs.declared.ids.Step.{Step}
use Rattle.cx_type_defs.specs.declared.kind.TypeRow.{TypeRow}
use Rattle.cx_type_defs.specs.Tables.{Tables}
use Rattle.cx_state.specs.Objects as tree
use Rattle.cx_state.specs.Objects.{Tree, Trees, below}
use Rattle.cx_state.specs.Places.{row_part, row_below}
use Rattle.cx_state.specs.Conditions as on
use Rattle.cx_shapes.specs.Forms.{Form, Leaf, Row, Class, Union, Part, further, part_of, below_of, Way, way, Leads, steps_at}
use Rattle.cx_shapes.specs.Contents.{Cells, tree_of, trees_of, union_tree, active_tree, is_open}
use Rattle.cx_shapes.proofs.Numbering.{stands, lead_steps, way_leads, steps_way}
use Rattle.cx_shapes.proofs.Parting.{tree_part}
use Rattle.cx_record_dynamic.specs.declared.chain.Found.{Found}
use Rattle.cx_record_dynamic.specs.declared.chain.Chain.{Chain}
use Rattle.cx_record_dynamic.specs.Chains.{is_deciding_class, shown, decider, behind, IsFound, IsChain}

-- searches

find_map : {A B : Type 0} (p : B → Bool) (h : A → B) (xs : List A) → find p (map h xs) ≡ option_map h (find (λ a. p (h a)) xs)
find_map p h [] = refl
find_map p h (x ∷ xs) = go (p (h x)) (find_map p h xs)
  where
    go : (b : Bool) → find p (map h xs) ≡ option_map h (find (λ a. p (h a)) xs) → (if b then Some (h x) else find p (map h xs)) ≡ option_map h (if b then Some x else find (λ a. p (h a)) xs)
    go true e = refl
    go false e = e

enclosing_more : (p : List Step → Bool) (s : Step) (ss : List Step)
    → find p (on.enclosing (s ∷ ss)) ≡ option_or (if on.all_bases (s ∷ ss) && p [] then Some [] else None) (option_map (λ us. s ∷ us) (find (λ us. p (s ∷ us)) (on.enclosing ss)))
enclosing_more p s ss =
    let rest = map (λ us. s ∷ us) (on.enclosing ss) in
    find-append p (if on.all_bases (s ∷ ss) then [] ∷ [] else []) rest ∙ ap (λ z. option_or z (find p rest)) (one (on.all_bases (s ∷ ss)))
    ∙ ap (option_or (if on.all_bases (s ∷ ss) && p [] then Some [] else None)) (find_map p (λ us. s ∷ us) (on.enclosing ss))
  where
    one : (b : Bool) → find p (if b then [] ∷ [] else []) ≡ (if b && p [] then Some [] else None)
    one true = refl
    one false = refl

pub decider_here : (opaque : Bool) (o : Option Tree) → decider opaque o [] ≡ (if opaque || on.passes on.is_deciding o then Some [] else None)
decider_here opaque None = refl
decider_here opaque (Some x) = refl

decider_more : (opaque : Bool) (o : Option Tree) (s : Step) (ss : List Step)
    → decider opaque o (s ∷ ss) ≡ option_or (if on.all_bases (s ∷ ss) && (opaque || on.passes on.is_deciding o) then Some [] else None) (option_map (λ us. s ∷ us) (decider opaque (option_and_then (λ x. tree.part x s) o) ss))
decider_more opaque None s ss = enclosing_more (λ us. opaque || on.passes on.is_deciding (option_and_then (λ x. below x us) None)) s ss
decider_more opaque (Some x) s ss = enclosing_more (λ us. opaque || on.passes on.is_deciding (below x us)) s ss

-- what is seen

deciding_union : (o : Option ℕ) (xs : Trees) → on.is_deciding (union_tree o xs) ≡ false
deciding_union None xs = refl
deciding_union (Some m) xs = go (tree.tree_at xs m)
  where
    go : (x : Option Tree) → on.is_deciding (active_tree m x) ≡ false
    go None = refl
    go (Some x) = refl

deciding_is : (f : Form) (c : Cells) (b : ℕ) → on.is_deciding (tree_of f c b) ≡ is_deciding_class f (c b)
deciding_is Leaf c b = refl
deciding_is (Row n f) c b = refl
deciding_is (Class bs ms) c b = refl
deciding_is (Union ms) c b = deciding_union (c b).member (trees_of ms c (b + 1))

pub shown_decides : (there : Bool) (f : Form) (c : Cells) (b : ℕ) → on.passes on.is_deciding (shown there (tree_of f c b)) ≡ (there && is_deciding_class f (c b))
shown_decides true f c b = deciding_is f c b
shown_decides false f c b = refl

shown_part : (there : Bool) (f : Form) (c : Cells) (b : ℕ) (s : Step) (p : Part) → part_of f s ≡ Some p → option_and_then (λ x. tree.part x s) (shown there (tree_of f c b)) ≡ shown (there && is_open f (c b) s) (tree_of p.1 c (b + p.0))
shown_part true f c b s p e = tree_part f c b s p e
shown_part false f c b s p e = refl

-- what is found

pub found_itself : (t : Tables) (f : Form) (r : TypeRow) (b : Bool) → IsFound t f r (if b then Some [] else None) (if b then Some (record { number = 0; row = r }) else None)
found_itself t f r true = (refl, refl)
found_itself t f r false = tt

found_or : (t : Tables) (f : Form) (r : TypeRow) (m n : Option (List Step)) (x y : Option Found) → IsFound t f r m x → IsFound t f r n y → IsFound t f r (option_or m n) (option_or x y)
found_or t f r None n None y a b = b
found_or t f r (Some us) n (Some x) y a b = a
found_or t f r None n (Some x) y a b = absurd a
found_or t f r (Some us) n None y a b = absurd a

found_on : (t : Tables) (f : Form) (r q : TypeRow) (s : Step) (p : Part) (m : Option (List Step)) (x : Option Found) → part_of f s ≡ Some p → row_part t r s ≡ Some q → IsFound t p.1 q m x → IsFound t f r (option_map (λ us. s ∷ us) m) (option_map (behind p.0) x)
found_on t f r q s p None None e h i = tt
found_on t f r q s p (Some us) (Some x) e h i =
    let g = stands p.1 x.number us i.0 in (
      lead_steps (p.0 + x.number) f (s ∷ us) (p.0 + x.number, g.0) (ap (option_and_then (λ (p : Part). option_map (further p.0) (below_of p.1 us))) e ∙ ap (option_map (further p.0)) g.1) (omega arith),
      ap (option_and_then (λ (q : TypeRow). row_below t q us)) h ∙ i.1,
    )
found_on t f r q s p None (Some x) e h i = absurd i
found_on t f r q s p (Some us) None e h i = absurd i

-- a walk, step by step

pub chain_here : (t : Tables) (f : Form) (r : TypeRow) (c : Cells) (b : ℕ) (opaque there decides : Bool) (ss : List Step) → steps_at f 0 ≡ Some ss → decides ≡ (opaque || there && is_deciding_class f (c b))
    → IsChain t f r (shown there (tree_of f c b)) opaque ss (record { bases = true; found = if decides then Some (record { number = 0; row = r }) else None })
chain_here t f r c b opaque there decides ss s d =
    let x = shown there (tree_of f c b) in
    let k : Chain = record { bases = true; found = if decides then Some (record { number = 0; row = r }) else None } in
    let e : decider opaque x [] ≡ (if decides then Some [] else None) = decider_here opaque x ∙ ap (λ z. if z then Some [] else None) (ap (λ z. opaque || z) (shown_decides there f c b) ∙ sym d) in
    subst (λ us. IsChain t f r x opaque us k) (some_inj [] ss s) (record { is_bases = refl; is_found = subst (λ m. IsFound t f r m k.found) (sym e) (found_itself t f r decides) })

pub chain_more : (t : Tables) (f : Form) (r q : TypeRow) (c : Cells) (b rest : ℕ) (w : Way) (ss : List Step) (opaque there inside bases decides : Bool) (inner : Chain) → 1 ≤ rest → way f (rest - 1) ≡ Some w → row_part t r w.0 ≡ Some q → steps_at f rest ≡ Some ss
    → inside ≡ (there && is_open f (c b) w.0) → ((us : List Step) → steps_at w.2 (rest - w.1) ≡ Some us → IsChain t w.2 q (shown inside (tree_of w.2 c (b + w.1))) opaque us inner)
    → bases ≡ (on.is_base w.0 && inner.bases) → decides ≡ (opaque || there && is_deciding_class f (c b))
    → (found : Option Found) → found ≡ option_or (if bases && decides then Some (record { number = 0; row = r }) else None) (option_map (behind w.1) inner.found)
    → IsChain t f r (shown there (tree_of f c b)) opaque ss (record { bases = bases; found = found })
chain_more t f r q c b zero w ss opaque there inside bases decides inner l e h s o i a d found k = absurd (omega arith)
chain_more t f r q c b (suc j) w ss opaque there inside bases decides inner l e h s o i a d found k =
    let z : suc j - 1 ≡ j = omega arith in
    let wy : way f j ≡ Some w = ap (way f) (sym z) ∙ e in
    let le : Leads f j w = way_leads f j w wy in
    let us = option_map-some (λ us. w.0 ∷ us) (steps_at w.2 (suc j - w.1)) ss (sym (steps_way f j w wy) ∙ s) in
    let n = i us.0 us.1 in
    let x = shown there (tree_of f c b) in
    let y = shown inside (tree_of w.2 c (b + w.1)) in
    let all : bases ≡ on.all_bases (w.0 ∷ us.0) = a ∙ ap (λ v. on.is_base w.0 && v) n.is_bases in
    let seen : option_and_then (λ v. tree.part v w.0) x ≡ y = shown_part there f c b w.0 (w.1, w.2) le.is_part ∙ ap (λ v. shown v (tree_of w.2 c (b + w.1))) (sym o) in
    let eq : decider opaque x (w.0 ∷ us.0) ≡ option_or (if bases && decides then Some [] else None) (option_map (λ us. w.0 ∷ us) (decider opaque y us.0)) =
    decider_more opaque x w.0 us.0
    ∙ ap (λ v. option_or (if v && (opaque || on.passes on.is_deciding x) then Some [] else None) (option_map (λ us. w.0 ∷ us) (decider opaque (option_and_then (λ v. tree.part v w.0) x) us.0))) (sym all)
    ∙ ap (λ v. option_or (if bases && v then Some [] else None) (option_map (λ us. w.0 ∷ us) (decider opaque (option_and_then (λ v. tree.part v w.0) x) us.0))) (ap (λ v. opaque || v) (shown_decides there f c b) ∙ sym d)
    ∙ ap (λ v. option_or (if bases && decides then Some [] else None) (option_map (λ us. w.0 ∷ us) (decider opaque v us.0))) seen in
    let both = found_or t f r (if bases && decides then Some [] else None) (option_map (λ us. w.0 ∷ us) (decider opaque y us.0)) (if bases && decides then Some (record { number = 0; row = r }) else None) (option_map (behind w.1) inner.found)
    (found_itself t f r (bases && decides)) (found_on t f r q w.0 (w.1, w.2) (decider opaque y us.0) inner.found le.is_part h n.is_found) in
    subst (λ us. IsChain t f r x opaque us (record { bases = bases; found = found })) us.2 (record { is_bases = all; is_found = subst (λ m. IsFound t f r m found) (sym eq) (subst (IsFound t f r (option_or (if bases && decides then Some [] else None) (option_map (λ us. w.0 ∷ us) (decider opaque y us.0)))) (sym k) both) })
