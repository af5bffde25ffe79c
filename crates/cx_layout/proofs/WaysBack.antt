-- From a part's node and cell back to the steps that lead to it.
use Rattle.std.proofs.Common.{◌≡◌, ℕ, zero, suc, ◌+◌, ◌*◌, ◌-◌, ◌/◌, ◌%◌, ◌≤◌, ◌<◌, nat_lt, Bool, false, List, [], ◌∷◌, Some, refl, sym, ap, subst, ◌∙◌, arith, if◌then◌else◌}
use Rattle.std.proofs.lemmas.Bool.{lt-ltb}
use Rattle.std.proofs.lemmas.Nat.{div-mul-add}
use Rattle.std.proofs.Math.Nat.{mul-le-mul_right}
use Rattle.std.specs.Prelude.{option_map}
use Rattle.cx_type_defs.specs.declared.ids.Step.{Step}
use Rattle.cx_type_defs.specs.declared.ids.Step.TheVariants as step
use Rattle.cx_layout.specs.Forms.{Form, Forms, Leaf, Row, Class, End, More, nodes, nodes_in, cells, cells_in, stride, Part, further, whole, item, part_of, below_of, Full, AllFull, PartsFull}
use Rattle.cx_layout.proofs.Options.{some_inj, and_then_some, map_some, if_some, not_lt}
use Rattle.cx_layout.proofs.Fitting.{item_inside, below_inside, nodes_pos}

abbrev mutual
  pub way : Form → ℕ → ℕ → List Step
  way Leaf n s = []
  way (Row m f) zero s = []
  way (Row m f) (suc n) s = step.Elem (s / cells f) ∷ way f n (s % cells f)
  way (Class c u bs ms) zero s = []
  way (Class c u bs ms) (suc n) s = if nat_lt n (nodes_in bs) then way_in false bs step.Base 0 n (s - 1) else way_in u ms step.Field 0 (n - nodes_in bs) (s - suc (cells_in false bs))

  pub way_in : Bool → Forms → (ℕ → Step) → ℕ → ℕ → ℕ → List Step
  way_in u End k i n s = []
  way_in u (More f fs) k i n s = if nat_lt n (nodes f) then k i ∷ way f n s else way_in u fs k (suc i) (n - nodes f) (s - stride u f)

-- each part of a full form has a cell

pub full_pos : (f : Form) → Full f → 1 ≤ cells f
full_pos Leaf h = omega arith
full_pos (Row n f) h = let a = full_pos f h.1 in let b : 1 ≤ n = h.0 in let c : 1 * cells f ≤ n * cells f = mul-le-mul_right (cells f) b in omega arith
full_pos (Class c u bs ms) h = omega arith

full_item : (u : Bool) (fs : Forms) (i : ℕ) (p : Part) → AllFull fs → item u fs i ≡ Some p → Full p.form
full_item u End i p h e = absurd (cc)
full_item u (More f fs) zero p h e = subst (λ (q : Part). Full q.form) (some_inj (whole f) p e) h.0
full_item u (More f fs) (suc i) p h e = let m = map_some (further (nodes f) (stride u f)) (item u fs i) p e in subst (λ (q : Part). Full q.form) m.2 (full_item u fs i m.0 h.1 m.1)

pub full_part : (f : Form) (s : Step) (p : Part) → PartsFull f → part_of f s ≡ Some p → Full p.form
full_part (Row n f) (step.Elem i) p h e = let w = if_some (nat_lt i n) (record { node = 1; slot = i * cells f; form = f }) p e in subst (λ (q : Part). Full q.form) w.1 h
full_part (Class c u bs ms) (step.Base i) p h e = let m = map_some (further 1 1) (item false bs i) p e in subst (λ (q : Part). Full q.form) m.2 (full_item false bs i m.0 h.0 m.1)
full_part (Class c u bs ms) (step.Field i) p h e = let m = map_some (further (suc (nodes_in bs)) (suc (cells_in false bs))) (item u ms i) p e in subst (λ (q : Part). Full q.form) m.2 (full_item u ms i m.0 h.1 m.1)
full_part Leaf s p h e = absurd (cc)
full_part (Row n f) (step.Base i) p h e = absurd (cc)
full_part (Row n f) (step.Field i) p h e = absurd (cc)
full_part (Class c u bs ms) (step.Elem i) p h e = absurd (cc)

pub full_parts : (f : Form) → Full f → PartsFull f
full_parts Leaf h = h
full_parts (Row n f) h = h.1
full_parts (Class c u bs ms) h = h

pub full_below : (f : Form) (s : Step) (ss : List Step) (p : Part) → PartsFull f → below_of f (s ∷ ss) ≡ Some p → Full p.form
full_below f s [] p h e =
    let a = and_then_some (λ (p : Part). option_map (further p.node p.slot) (below_of p.form [])) (part_of f s) p e in
    subst (λ (q : Part). Full q.form) (some_inj (further a.0.node a.0.slot (whole a.0.form)) p a.2) (full_part f s a.0 h a.1)
full_below f s (t ∷ ss) p h e =
    let a = and_then_some (λ (p : Part). option_map (further p.node p.slot) (below_of p.form (t ∷ ss))) (part_of f s) p e in
    let b = map_some (further a.0.node a.0.slot) (below_of a.0.form (t ∷ ss)) p a.2 in
    subst (λ (q : Part). Full q.form) b.2 (full_below a.0.form t ss b.0 (full_parts a.0.form (full_part f s a.0 h a.1)) b.1)

-- one step

way_item : (u : Bool) (fs : Forms) (k : ℕ → Step) (j i : ℕ) (p : Part) (n t : ℕ) → item u fs i ≡ Some p → n < nodes p.form → way_in u fs k j (p.node + n) (p.slot + t) ≡ k (j + i) ∷ way p.form n t
way_item u End k j i p n t e l = absurd (cc)
way_item u (More f fs) k j zero p n t e l = subst (λ (q : Part). n < nodes q.form → way_in u (More f fs) k j (q.node + n) (q.slot + t) ≡ k (j + 0) ∷ way q.form n t) (some_inj (whole f) p e) first l
  where
    first : n < nodes f → way_in u (More f fs) k j (0 + n) (0 + t) ≡ k (j + 0) ∷ way f n t
    first l =
        let a : 0 + n ≡ n = omega arith in
        let b : 0 + t ≡ t = omega arith in
        let c : j ≡ j + 0 = omega arith in
        ap (λ m. way_in u (More f fs) k j m (0 + t)) a ∙ ap (λ m. way_in u (More f fs) k j n m) b
        ∙ ap (λ x. if x then k j ∷ way f n t else way_in u fs k (suc j) (n - nodes f) (t - stride u f)) (lt-ltb n (nodes f) l)
        ∙ ap (λ m. k m ∷ way f n t) c
way_item u (More f fs) k j (suc i) p n t e l =
    let m = map_some (further (nodes f) (stride u f)) (item u fs i) p e in
    subst (λ (q : Part). way_in u (More f fs) k j (q.node + n) (q.slot + t) ≡ k (j + suc i) ∷ way q.form n t) m.2
    (later m.0 (stride u f) refl (way_item u fs k (suc j) i m.0 n t m.1 (subst (λ (q : Part). n < nodes q.form) (sym m.2) l)))
  where
    later : (q : Part) (w : ℕ) → w ≡ stride u f → way_in u fs k (suc j) (q.node + n) (q.slot + t) ≡ k (suc j + i) ∷ way q.form n t → way_in u (More f fs) k j (nodes f + q.node + n) (stride u f + q.slot + t) ≡ k (j + suc i) ∷ way q.form n t
    later q w z ih =
        let a : nodes f + q.node + n - nodes f ≡ q.node + n = omega arith in
        let b : w + q.slot + t - w ≡ q.slot + t = omega arith in
        let c : suc j + i ≡ j + suc i = omega arith in
        ap (λ x. if x then k j ∷ way f (nodes f + q.node + n) (stride u f + q.slot + t) else way_in u fs k (suc j) (nodes f + q.node + n - nodes f) (stride u f + q.slot + t - stride u f)) (not_lt (nodes f + q.node + n) (nodes f) (omega arith))
        ∙ ap (λ m. way_in u fs k (suc j) m (stride u f + q.slot + t - stride u f)) a ∙ ap (λ m. way_in u fs k (suc j) (q.node + n) m) (subst (λ m. m + q.slot + t - m ≡ q.slot + t) z b)
        ∙ ih ∙ ap (λ m. k m ∷ way q.form n t) c

rest_of : (i c t : ℕ) → t < c → (i * c + t) % c ≡ t
rest_of i c t l =
    let z : 0 < c = omega arith in
    let a : (i * c + t) / c ≡ i = div-mul-add i c t l in
    let b : c * ((i * c + t) / c) + (i * c + t) % c ≡ i * c + t = omega arith in
    let d : c * i + (i * c + t) % c ≡ i * c + t = subst (λ k. c * k + (i * c + t) % c ≡ i * c + t) a b in
    omega arith

pub way_part : (f : Form) (s : Step) (p : Part) (n t : ℕ) → part_of f s ≡ Some p → n < nodes p.form → t < cells p.form → way f (p.node + n) (p.slot + t) ≡ s ∷ way p.form n t
way_part (Row m f) (step.Elem i) p n t e l d =
    let w = if_some (nat_lt i m) (record { node = 1; slot = i * cells f; form = f }) p e in
    subst (λ (q : Part). way (Row m f) (q.node + n) (q.slot + t) ≡ step.Elem i ∷ way q.form n t) w.1
    (let a : 1 + n ≡ suc n = omega arith in
    let b : t < cells f = subst (λ (q : Part). t < cells q.form) (sym w.1) d in
    ap (λ k. way (Row m f) k (i * cells f + t)) a
    ∙ ap (λ k. step.Elem k ∷ way f n ((i * cells f + t) % cells f)) (div-mul-add i (cells f) t b)
    ∙ ap (λ k. step.Elem i ∷ way f n k) (rest_of i (cells f) t b))
way_part (Class c u bs ms) (step.Base i) p n t e l d =
    let m = map_some (further 1 1) (item false bs i) p e in
    subst (λ (q : Part). way (Class c u bs ms) (q.node + n) (q.slot + t) ≡ step.Base i ∷ way q.form n t) m.2
    (let x : n < nodes m.0.form = subst (λ (q : Part). n < nodes q.form) (sym m.2) l in
    let y = item_inside false bs i m.0 m.1 in
    let v = y.in_nodes in
    let a : 1 + m.0.node + n ≡ suc (m.0.node + n) = omega arith in
    let b : 1 + m.0.slot + t - 1 ≡ m.0.slot + t = omega arith in
    let w : m.0.node + n < nodes_in bs = omega arith in
    let z : 0 + i ≡ i = omega arith in
    ap (λ k. way (Class c u bs ms) k (1 + m.0.slot + t)) a
    ∙ ap (λ x. if x then way_in false bs step.Base 0 (m.0.node + n) (1 + m.0.slot + t - 1) else way_in u ms step.Field 0 (m.0.node + n - nodes_in bs) (1 + m.0.slot + t - suc (cells_in false bs))) (lt-ltb (m.0.node + n) (nodes_in bs) w)
    ∙ ap (way_in false bs step.Base 0 (m.0.node + n)) b
    ∙ way_item false bs step.Base 0 i m.0 n t m.1 x
    ∙ ap (λ k. step.Base k ∷ way m.0.form n t) z)
way_part (Class c u bs ms) (step.Field i) p n t e l d =
    let m = map_some (further (suc (nodes_in bs)) (suc (cells_in false bs))) (item u ms i) p e in
    subst (λ (q : Part). way (Class c u bs ms) (q.node + n) (q.slot + t) ≡ step.Field i ∷ way q.form n t) m.2
    (let x : n < nodes m.0.form = subst (λ (q : Part). n < nodes q.form) (sym m.2) l in
    let a : suc (nodes_in bs) + m.0.node + n ≡ suc (nodes_in bs + m.0.node + n) = omega arith in
    let b : suc (cells_in false bs) + m.0.slot + t - suc (cells_in false bs) ≡ m.0.slot + t = omega arith in
    let g : nodes_in bs + m.0.node + n - nodes_in bs ≡ m.0.node + n = omega arith in
    let y : 0 + i ≡ i = omega arith in
    ap (λ k. way (Class c u bs ms) k (suc (cells_in false bs) + m.0.slot + t)) a
    ∙ ap (λ z. if z then way_in false bs step.Base 0 (nodes_in bs + m.0.node + n) (suc (cells_in false bs) + m.0.slot + t - 1) else way_in u ms step.Field 0 (nodes_in bs + m.0.node + n - nodes_in bs) (suc (cells_in false bs) + m.0.slot + t - suc (cells_in false bs))) (not_lt (nodes_in bs + m.0.node + n) (nodes_in bs) (omega arith))
    ∙ ap (λ k. way_in u ms step.Field 0 k (suc (cells_in false bs) + m.0.slot + t - suc (cells_in false bs))) g
    ∙ ap (way_in u ms step.Field 0 (m.0.node + n)) b
    ∙ way_item u ms step.Field 0 i m.0 n t m.1 x
    ∙ ap (λ k. step.Field k ∷ way m.0.form n t) y)
way_part Leaf s p n t e l d = absurd (cc)
way_part (Row m f) (step.Base i) p n t e l d = absurd (cc)
way_part (Row m f) (step.Field i) p n t e l d = absurd (cc)
way_part (Class c u bs ms) (step.Elem i) p n t e l d = absurd (cc)

way_whole : (f : Form) → way f 0 0 ≡ []
way_whole Leaf = refl
way_whole (Row n f) = refl
way_whole (Class c u bs ms) = refl

-- a part's node and cell tell its steps
pub way_back : (f : Form) (ss : List Step) (p : Part) → PartsFull f → below_of f ss ≡ Some p → way f p.node p.slot ≡ ss
way_back f [] p h e = subst (λ (q : Part). way f q.node q.slot ≡ []) (some_inj (whole f) p e) (way_whole f)
way_back f (s ∷ ss) p h e =
    let a = and_then_some (λ (p : Part). option_map (further p.node p.slot) (below_of p.form ss)) (part_of f s) p e in
    let b = map_some (further a.0.node a.0.slot) (below_of a.0.form ss) p a.2 in
    let g = full_part f s a.0 h a.1 in
    let i = below_inside a.0.form ss b.0 b.1 in
    let x = i.in_nodes in
    let y = i.in_cells in
    let u = nodes_pos b.0.form in
    let v = pos a.0.form ss b.0 g b.1 in
    subst (λ (q : Part). way f q.node q.slot ≡ s ∷ ss) b.2
    (way_part f s a.0 b.0.node b.0.slot a.1 (omega arith) (omega arith) ∙ ap (λ us. s ∷ us) (way_back a.0.form ss b.0 (full_parts a.0.form g) b.1))
  where
    pos : (f : Form) (ss : List Step) (p : Part) → Full f → below_of f ss ≡ Some p → 1 ≤ cells p.form
    pos f [] p h e = subst (λ (q : Part). 1 ≤ cells q.form) (some_inj (whole f) p e) (full_pos f h)
    pos f (s ∷ ss) p h e = full_pos p.form (full_below f s ss p (full_parts f h) e)

-- so two lists of steps to one node and cell are one
pub one_way : (f : Form) (ss us : List Step) (p q : Part) → PartsFull f → below_of f ss ≡ Some p → below_of f us ≡ Some q → p.node ≡ q.node → p.slot ≡ q.slot → ss ≡ us
one_way f ss us p q h a b n s = sym (way_back f ss p h a) ∙ ap (λ k. way f k p.slot) n ∙ ap (way f q.node) s ∙ way_back f us q h b
