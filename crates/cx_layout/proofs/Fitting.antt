-- Parts lie within the whole, and one step more leads from a part to a part of it.
use Rattle.std.proofs.Common.{◌≡◌, ℕ, zero, suc, ◌+◌, ◌*◌, ◌≤◌, ◌<◌, nat_lt, Bool, true, false, List, [], ◌∷◌, ◌++◌, Option, None, Some, refl, sym, ap, subst, ◌∙◌, arith}
use Rattle.std.proofs.lemmas.Bool.{ltb-true}
use Rattle.std.proofs.Math.Nat.{suc-mul, mul-le-mul_right}
use Rattle.std.specs.Prelude.{option_map, option_and_then}
use Rattle.cx_type_defs.specs.declared.ids.Step.{Step}
use Rattle.cx_type_defs.specs.declared.ids.Step.TheVariants as step
use Rattle.cx_layout.specs.Forms.{Form, Forms, Leaf, Row, Class, End, More, nodes, nodes_in, cells, cells_in, together, stride, Part, further, whole, item, part_of, below_of}
use Rattle.cx_layout.proofs.Options.{some_inj, and_then_some, map_some, if_some}

-- a part lies within so many nodes and cells
pub record Inside (n c : ℕ) (p : Part) : Type 0 where
  pub in_nodes : p.node + nodes p.form ≤ n
  pub in_cells : p.slot + cells p.form ≤ c

inside_further : (n c n2 c2 a b : ℕ) (p : Part) → Inside n c p → a + n ≤ n2 → b + c ≤ c2 → Inside n2 c2 (further a b p)
inside_further n c n2 c2 a b p h l r = let x = h.in_nodes in let y = h.in_cells in record { in_nodes = omega arith; in_cells = omega arith }

inside_whole : (f : Form) (n c : ℕ) → nodes f ≤ n → cells f ≤ c → Inside n c (whole f)
inside_whole f n c a b = record { in_nodes = omega arith; in_cells = omega arith }

pub nodes_pos : (f : Form) → 1 ≤ nodes f
nodes_pos Leaf = omega arith
nodes_pos (Row n f) = omega arith
nodes_pos (Class c u bs ms) = omega arith

pub first_fits : (u : Bool) (a b : ℕ) → a ≤ together u a b
first_fits true a b = omega arith
first_fits false a b = omega arith

pub rest_fits : (u : Bool) (f : Form) (b : ℕ) → stride u f + b ≤ together u (cells f) b
rest_fits true f b = omega arith
rest_fits false f b = omega arith

pub item_inside : (u : Bool) (fs : Forms) (i : ℕ) (p : Part) → item u fs i ≡ Some p → Inside (nodes_in fs) (cells_in u fs) p
item_inside u End i p e = absurd (cc)
item_inside u (More f fs) zero p e = subst (Inside (nodes f + nodes_in fs) (together u (cells f) (cells_in u fs))) (some_inj (whole f) p e) (inside_whole f (nodes f + nodes_in fs) (together u (cells f) (cells_in u fs)) (omega arith) (first_fits u (cells f) (cells_in u fs)))
item_inside u (More f fs) (suc i) p e =
    let m = map_some (further (nodes f) (stride u f)) (item u fs i) p e in
    subst (Inside (nodes f + nodes_in fs) (together u (cells f) (cells_in u fs))) m.2
    (inside_further (nodes_in fs) (cells_in u fs) (nodes f + nodes_in fs) (together u (cells f) (cells_in u fs)) (nodes f) (stride u f) m.0 (item_inside u fs i m.0 m.1) (omega arith) (rest_fits u f (cells_in u fs)))

pub row_fits : (i n c : ℕ) → i < n → i * c + c ≤ n * c
row_fits i n c h = let w : suc i * c ≡ i * c + c = suc-mul i c in let l : suc i ≤ n = omega arith in let v : suc i * c ≤ n * c = mul-le-mul_right c l in omega arith

pub part_inside : (f : Form) (s : Step) (p : Part) → part_of f s ≡ Some p → Inside (nodes f) (cells f) p × (1 ≤ p.node)
part_inside (Row n f) (step.Elem i) p e =
    let h = if_some (nat_lt i n) (record { node = 1; slot = i * cells f; form = f }) p e in
    let l = row_fits i n (cells f) (ltb-true i n h.0) in
    subst (λ q. Inside (suc (nodes f)) (n * cells f) q × (1 ≤ q.node)) h.1 (record { in_nodes = omega arith; in_cells = l }, omega arith)
part_inside (Class c u bs ms) (step.Base i) p e =
    let m = map_some (further 1 1) (item false bs i) p e in
    subst (λ q. Inside (suc (nodes_in bs + nodes_in ms)) (suc (cells_in false bs + cells_in u ms)) q × (1 ≤ q.node)) m.2
    (inside_further (nodes_in bs) (cells_in false bs) (suc (nodes_in bs + nodes_in ms)) (suc (cells_in false bs + cells_in u ms)) 1 1 m.0 (item_inside false bs i m.0 m.1) (omega arith) (omega arith), omega arith)
part_inside (Class c u bs ms) (step.Field i) p e =
    let m = map_some (further (suc (nodes_in bs)) (suc (cells_in false bs))) (item u ms i) p e in
    subst (λ q. Inside (suc (nodes_in bs + nodes_in ms)) (suc (cells_in false bs + cells_in u ms)) q × (1 ≤ q.node)) m.2
    (inside_further (nodes_in ms) (cells_in u ms) (suc (nodes_in bs + nodes_in ms)) (suc (cells_in false bs + cells_in u ms)) (suc (nodes_in bs)) (suc (cells_in false bs)) m.0 (item_inside u ms i m.0 m.1) (omega arith) (omega arith), omega arith)
part_inside Leaf s p e = absurd (cc)
part_inside (Row n f) (step.Base i) p e = absurd (cc)
part_inside (Row n f) (step.Field i) p e = absurd (cc)
part_inside (Class c u bs ms) (step.Elem i) p e = absurd (cc)

pub below_inside : (f : Form) (ss : List Step) (p : Part) → below_of f ss ≡ Some p → Inside (nodes f) (cells f) p
below_inside f [] p e = subst (Inside (nodes f) (cells f)) (some_inj (whole f) p e) (record { in_nodes = omega arith; in_cells = omega arith })
below_inside f (s ∷ ss) p e =
    let a = and_then_some (λ (p : Part). option_map (further p.node p.slot) (below_of p.form ss)) (part_of f s) p e in
    let b = map_some (further a.0.node a.0.slot) (below_of a.0.form ss) p a.2 in
    let h = part_inside f s a.0 a.1 in
    let x = h.0.in_nodes in
    let y = h.0.in_cells in
    subst (Inside (nodes f) (cells f)) b.2 (inside_further (nodes a.0.form) (cells a.0.form) (nodes f) (cells f) a.0.node a.0.slot b.0 (below_inside a.0.form ss b.0 b.1) (omega arith) (omega arith))

-- the last step

pub further_twice : (a b c d : ℕ) (p : Part) → further a b (further c d p) ≡ further (a + c) (b + d) p
further_twice a b c d p =
    let x : a + (c + p.node) ≡ a + c + p.node = omega arith in
    let y : b + (d + p.slot) ≡ b + d + p.slot = omega arith in
    ap (λ k. record { node = k; slot = b + (d + p.slot); form = p.form }) x ∙ ap (λ k. record { node = a + c + p.node; slot = k; form = p.form }) y

further_none : (p : Part) → further 0 0 p ≡ p
further_none p =
    let x : 0 + p.node ≡ p.node = omega arith in
    let y : 0 + p.slot ≡ p.slot = omega arith in
    ap (λ k. record { node = k; slot = 0 + p.slot; form = p.form }) x ∙ ap (λ k. record { node = p.node; slot = k; form = p.form }) y

abbrev pub next : Step → Part → Option Part
next s p = option_map (further p.node p.slot) (part_of p.form s)

map_none : (o : Option Part) → option_map (further 0 0) o ≡ o
map_none None = refl
map_none (Some p) = ap Some (further_none p)

-- a step more
pub below_last : (f : Form) (ss : List Step) (s : Step) → below_of f (ss ++ s ∷ []) ≡ option_and_then (next s) (below_of f ss)
below_last f [] s = one (part_of f s) ∙ sym (map_none (part_of f s))
  where
    one : (o : Option Part) → option_and_then (λ (p : Part). option_map (further p.node p.slot) (Some (whole p.form))) o ≡ o
    one None = refl
    one (Some p) =
        let x : p.node + 0 ≡ p.node = omega arith in
        let y : p.slot + 0 ≡ p.slot = omega arith in
        ap (λ k. Some (record { node = k; slot = p.slot + 0; form = p.form })) x ∙ ap (λ k. Some (record { node = p.node; slot = k; form = p.form })) y
below_last f (t ∷ ss) s = go (part_of f t) (λ p. below_last p.form ss s)
  where
    inner : (p : Part) (o : Option Part) → option_map (further p.node p.slot) (option_and_then (next s) o) ≡ option_and_then (next s) (option_map (further p.node p.slot) o)
    inner p None = refl
    inner p (Some q) = twice (part_of q.form s)
      where
        twice : (o : Option Part) → option_map (further p.node p.slot) (option_map (further q.node q.slot) o) ≡ option_map (further (p.node + q.node) (p.slot + q.slot)) o
        twice None = refl
        twice (Some r) = ap Some (further_twice p.node p.slot q.node q.slot r)

    go : (o : Option Part) → ((p : Part) → below_of p.form (ss ++ s ∷ []) ≡ option_and_then (next s) (below_of p.form ss)) → option_and_then (λ (p : Part). option_map (further p.node p.slot) (below_of p.form (ss ++ s ∷ []))) o ≡ option_and_then (next s) (option_and_then (λ (p : Part). option_map (further p.node p.slot) (below_of p.form ss)) o)
    go None ih = refl
    go (Some p) ih = ap (option_map (further p.node p.slot)) (ih p) ∙ inner p (below_of p.form ss)

-- steps are none, or have a last one
pub data Last : List Step → Type 0 where
  Nothing : Last []
  After : (ss : List Step) (s : Step) → Last (ss ++ s ∷ [])

pub last : (ss : List Step) → Last ss
last [] = Nothing
last (s ∷ ss) = more s ss (last ss)
  where
    more : (s : Step) (ss : List Step) → Last ss → Last (s ∷ ss)
    more s ss Nothing = After [] s
    more s ss (After us u) = After (s ∷ us) u
