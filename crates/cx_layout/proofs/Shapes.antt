-- A node tells the steps that lead to it save which elements they take, so a place has one list of steps.
use Rattle.std.proofs.Common.{◌≡◌, ℕ, zero, suc, ◌+◌, ◌*◌, ◌-◌, ◌/◌, ◌%◌, ◌<◌, nat_lt, Bool, true, false, List, [], ◌∷◌, ◌++◌, Some, inl, inr, refl, sym, ap, subst, ◌∙◌, arith, if◌then◌else◌}
use Rattle.std.proofs.lemmas.Bool.{cases_Bool}
use Rattle.std.specs.Prelude.{option_map}
use Rattle.cx_type_defs.specs.declared.ids.Step.{Step}
use Rattle.cx_type_defs.specs.declared.ids.Step.TheVariants as step
use Rattle.cx_layout.specs.declared.place.Place.{Place}
use Rattle.cx_layout.specs.Forms.{Form, Forms, Leaf, Row, Class, End, More, nodes, nodes_in, cells, cells_in, stride, Part, further, whole, item, part_of, below_of, PartsFull}
use Rattle.cx_layout.specs.Places.{Leads}
use Rattle.cx_layout.proofs.Options.{some_inj, and_then_some, map_some, if_some}
use Rattle.cx_layout.proofs.Fitting.{below_inside, Last, Nothing, After, last}
use Rattle.cx_layout.proofs.WaysBack.{way, way_in, way_part, way_back, one_way, full_pos, full_below}
use Rattle.cx_layout.proofs.Placing.{one_place}
use Rattle.cx_layout.proofs.Pasts.{ArrayEnd, OtherEnd, End as AnEnd, OfArray, OfOther, end_of, no_last, last_is}

-- the step, with the first element in place of any
abbrev shape : Step → Step
shape (step.Elem i) = step.Elem 0
shape (step.Base i) = step.Base i
shape (step.Field i) = step.Field i

abbrev shapes : List Step → List Step
shapes [] = []
shapes (s ∷ ss) = shape s ∷ shapes ss

shapes_more : (ss us : List Step) → shapes (ss ++ us) ≡ shapes ss ++ shapes us
shapes_more [] us = refl
shapes_more (s ∷ ss) us = ap (λ l. shape s ∷ l) (shapes_more ss us)

either : (b : Bool) (x y z w : List Step) → shapes x ≡ shapes z → shapes y ≡ shapes w → shapes (if b then x else y) ≡ shapes (if b then z else w)
either true x y z w h k = h
either false x y z w h k = k

-- the cell tells nothing but elements
mutual
  same_shape : (f : Form) (n s t : ℕ) → shapes (way f n s) ≡ shapes (way f n t)
  same_shape Leaf n s t = refl
  same_shape (Row m f) zero s t = refl
  same_shape (Row m f) (suc n) s t = ap (λ l. step.Elem 0 ∷ l) (same_shape f n (s % cells f) (t % cells f))
  same_shape (Class c u bs ms) zero s t = refl
  same_shape (Class c u bs ms) (suc n) s t =
      either (nat_lt n (nodes_in bs)) (way_in false bs step.Base 0 n (s - 1)) (way_in u ms step.Field 0 (n - nodes_in bs) (s - suc (cells_in false bs))) (way_in false bs step.Base 0 n (t - 1)) (way_in u ms step.Field 0 (n - nodes_in bs) (t - suc (cells_in false bs)))
      (same_shape_in false bs step.Base 0 n (s - 1) (t - 1)) (same_shape_in u ms step.Field 0 (n - nodes_in bs) (s - suc (cells_in false bs)) (t - suc (cells_in false bs)))

  same_shape_in : (u : Bool) (fs : Forms) (k : ℕ → Step) (i n s t : ℕ) → shapes (way_in u fs k i n s) ≡ shapes (way_in u fs k i n t)
  same_shape_in u End k i n s t = refl
  same_shape_in u (More f fs) k i n s t =
      either (nat_lt n (nodes f)) (k i ∷ way f n s) (way_in u fs k (suc i) (n - nodes f) (s - stride u f)) (k i ∷ way f n t) (way_in u fs k (suc i) (n - nodes f) (t - stride u f))
      (ap (λ l. shape (k i) ∷ l) (same_shape f n s t)) (same_shape_in u fs k (suc i) (n - nodes f) (s - stride u f) (t - stride u f))

-- so steps to parts at one node have one shape
node_shape : (f : Form) (ss us : List Step) (p q : Part) → PartsFull f → below_of f ss ≡ Some p → below_of f us ≡ Some q → p.node ≡ q.node → shapes ss ≡ shapes us
node_shape f ss us p q w h k n = ap shapes (sym (way_back f ss p w h)) ∙ ap (λ m. shapes (way f m p.slot)) n ∙ same_shape f q.node p.slot q.slot ∙ ap shapes (way_back f us q w k)

-- and what stands at their end has one form

item_form : (u : Bool) (fs : Forms) (a b : ℕ) (i : ℕ) (p q : Part) → option_map (further a b) (item u fs i) ≡ Some p → option_map (further a b) (item u fs i) ≡ Some q → p.form ≡ q.form
item_form u fs a b i p q h k = ap (λ (x : Part). x.form) (some_inj p q (sym h ∙ k))

part_form : (f : Form) (s t : Step) (p q : Part) → part_of f s ≡ Some p → part_of f t ≡ Some q → shape s ≡ shape t → p.form ≡ q.form
part_form f (step.Base i) (step.Base j) p q h k e = ap (λ (x : Part). x.form) (some_inj p q (sym h ∙ ap (part_of f) e ∙ k))
part_form f (step.Field i) (step.Field j) p q h k e = ap (λ (x : Part). x.form) (some_inj p q (sym h ∙ ap (part_of f) e ∙ k))
part_form Leaf (step.Elem i) (step.Elem j) p q h k e = absurd (cc)
part_form (Class c u bs ms) (step.Elem i) (step.Elem j) p q h k e = absurd (cc)
part_form (Row n f) (step.Elem i) (step.Elem j) p q h k e =
    let a = if_some (nat_lt i n) (record { node = 1; slot = i * cells f; form = f }) p h in
    let b = if_some (nat_lt j n) (record { node = 1; slot = j * cells f; form = f }) q k in
    sym (ap (λ (x : Part). x.form) a.1) ∙ ap (λ (x : Part). x.form) b.1
part_form f (step.Base i) (step.Field j) p q h k e = absurd (cc)
part_form f (step.Base i) (step.Elem j) p q h k e = absurd (cc)
part_form f (step.Field i) (step.Base j) p q h k e = absurd (cc)
part_form f (step.Field i) (step.Elem j) p q h k e = absurd (cc)
part_form f (step.Elem i) (step.Base j) p q h k e = absurd (cc)
part_form f (step.Elem i) (step.Field j) p q h k e = absurd (cc)

head_is : (s t : Step) (ss us : List Step) → s ∷ ss ≡ t ∷ us → (s ≡ t) × (ss ≡ us)
head_is s t ss us e = (cc, cc)

below_form : (f : Form) (ss us : List Step) (p q : Part) → below_of f ss ≡ Some p → below_of f us ≡ Some q → shapes ss ≡ shapes us → p.form ≡ q.form
below_form f [] [] p q h k e = ap (λ (x : Part). x.form) (some_inj p q (sym h ∙ k))
below_form f [] (u ∷ us) p q h k e = absurd (cc)
below_form f (s ∷ ss) [] p q h k e = absurd (cc)
below_form f (s ∷ ss) (u ∷ us) p q h k e =
    let a = and_then_some (λ (p : Part). option_map (further p.node p.slot) (below_of p.form ss)) (part_of f s) p h in
    let b = map_some (further a.0.node a.0.slot) (below_of a.0.form ss) p a.2 in
    let c = and_then_some (λ (p : Part). option_map (further p.node p.slot) (below_of p.form us)) (part_of f u) q k in
    let d = map_some (further c.0.node c.0.slot) (below_of c.0.form us) q c.2 in
    let z = head_is (shape s) (shape u) (shapes ss) (shapes us) e in
    let w : a.0.form ≡ c.0.form = part_form f s u a.0 c.0 a.1 c.1 z.0 in
    sym (ap (λ (x : Part). x.form) b.2) ∙ below_form a.0.form ss us b.0 d.0 b.1 (subst (λ g. below_of g us ≡ Some d.0) (sym w) d.1) z.1 ∙ ap (λ (x : Part). x.form) d.2

-- the way to what stands in a part
way_on : (f : Form) (ss : List Step) (p : Part) (n t : ℕ) → below_of f ss ≡ Some p → n < nodes p.form → t < cells p.form → way f (p.node + n) (p.slot + t) ≡ ss ++ way p.form n t
way_on f [] p n t e l d =
    let x : 0 + n ≡ n = omega arith in
    let y : 0 + t ≡ t = omega arith in
    subst (λ (q : Part). way f (q.node + n) (q.slot + t) ≡ way q.form n t) (some_inj (whole f) p e) (ap (λ k. way f k (0 + t)) x ∙ ap (way f n) y)
way_on f (s ∷ ss) p n t e l d =
    let a = and_then_some (λ (p : Part). option_map (further p.node p.slot) (below_of p.form ss)) (part_of f s) p e in
    let b = map_some (further a.0.node a.0.slot) (below_of a.0.form ss) p a.2 in
    let i = below_inside a.0.form ss b.0 b.1 in
    let x = i.in_nodes in
    let y = i.in_cells in
    let l2 : n < nodes b.0.form = subst (λ (q : Part). n < nodes q.form) (sym b.2) l in
    let d2 : t < cells b.0.form = subst (λ (q : Part). t < cells q.form) (sym b.2) d in
    let v : a.0.node + b.0.node + n ≡ a.0.node + (b.0.node + n) = omega arith in
    let w : a.0.slot + b.0.slot + t ≡ a.0.slot + (b.0.slot + t) = omega arith in
    subst (λ (q : Part). way f (q.node + n) (q.slot + t) ≡ s ∷ (ss ++ way q.form n t)) b.2
    (ap (λ k. way f k (a.0.slot + b.0.slot + t)) v ∙ ap (way f (a.0.node + (b.0.node + n))) w
    ∙ way_part f s a.0 (b.0.node + n) (b.0.slot + t) a.1 (omega arith) (omega arith) ∙ ap (λ us. s ∷ us) (way_on a.0.form ss b.0 n t b.1 l2 d2))

way_first : (f : Form) (s : ℕ) → way f 0 s ≡ []
way_first Leaf s = refl
way_first (Row n f) s = refl
way_first (Class c u bs ms) s = refl

some_node : (n : ℕ) (g : Form) → 1 < nodes (Row n g)
some_node n Leaf = omega arith
some_node n (Row m g) = omega arith
some_node n (Class c u bs ms) = omega arith

-- the node of an array's elements has the array's steps and one to an element
array_way : (f : Form) (ss : List Step) (p : Part) (n : ℕ) (g : Form) → PartsFull f → below_of f ss ≡ Some p → p.form ≡ Row n g → (s : ℕ) × (shapes (way f (p.node + 1) s) ≡ shapes ss ++ step.Elem 0 ∷ [])
array_way f [] p n g w e k =
    let z : f ≡ Row n g = ap (λ (q : Part). q.form) (some_inj (whole f) p e) ∙ k in
    let v : p.node + 1 ≡ 1 = ap (λ (q : Part). q.node + 1) (sym (some_inj (whole f) p e)) in
    (0, ap (λ m. shapes (way f m 0)) v ∙ ap (λ h. shapes (way h 1 0)) z ∙ ap (λ us. shapes (step.Elem (0 / cells g) ∷ us)) (way_first g (0 % cells g)))
array_way f (s ∷ ss) p n g w e k =
    let c = full_pos p.form (full_below f s ss p w e) in
    let l : 1 < nodes p.form = subst (λ h. 1 < nodes h) (sym k) (some_node n g) in (
      p.slot + 0,
      ap shapes (way_on f (s ∷ ss) p 1 0 e l (omega arith)) ∙ shapes_more (s ∷ ss) (way p.form 1 0)
          ∙ ap (λ us. shapes (s ∷ ss) ++ us) (ap (λ h. shapes (way h 1 0)) k ∙ ap (λ us. shapes (step.Elem (0 / cells g) ∷ us)) (way_first g (0 % cells g))),
    )

last_element : (s : Step) → shape s ≡ step.Elem 0 → (i : ℕ) × (s ≡ step.Elem i)
last_element (step.Elem i) e = (i, refl)
last_element (step.Base i) e = absurd (cc)
last_element (step.Field i) e = absurd (cc)

row_is : (n m : ℕ) (f g : Form) → Row n f ≡ Row m g → (n ≡ m) × (f ≡ g)
row_is n m f g e = (cc, cc)

module _ (f : Form) (at : Place) (w : PartsFull f) where
  -- a place that is past an array's last element is past no other part
  mixed : (ss us : List Step) → ArrayEnd f ss at → OtherEnd f us at → ⊥
  mixed ss us e o = go us (last us) o.no_element ends
    where
      ends : shapes us ≡ shapes e.init ++ step.Elem 0 ∷ []
      ends =
          let a = array_way f e.init e.array e.count e.element w e.leads e.form_is in
          let n : o.part.part.node ≡ e.array.node + 1 = o.part.node ∙ e.node in
          ap shapes (sym (way_back f us o.part.part w o.part.leads)) ∙ ap (λ m. shapes (way f m o.part.part.slot)) n ∙ same_shape f (e.array.node + 1) o.part.part.slot a.0 ∙ a.1

      go : (us : List Step) → Last us → ((init : List Step) (i : ℕ) → us ≡ init ++ step.Elem i ∷ [] → ⊥) → shapes us ≡ shapes e.init ++ step.Elem 0 ∷ [] → ⊥
      go [] Nothing never z = no_last (shapes e.init) (step.Elem 0) z
      go (_) (After vs v) never z =
          let i = last_element v (last_is (shapes vs) (shapes e.init) (shape v) (step.Elem 0) (sym (shapes_more vs (v ∷ [])) ∙ z)) in
          never vs i.0 (ap (λ s. vs ++ s ∷ []) i.1)

  arrays : (ss us : List Step) → ArrayEnd f ss at → ArrayEnd f us at → ss ≡ us
  arrays ss us a b =
      let x = a.node in
      let y = b.node in
      let n : a.array.node ≡ b.array.node = omega arith in
      let h = node_shape f a.init b.init a.array b.array w a.leads b.leads n in
      let r = row_is a.count b.count a.element b.element (sym a.form_is ∙ below_form f a.init b.init a.array b.array a.leads b.leads h ∙ b.form_is) in
      let c : a.count * cells a.element ≡ b.count * cells b.element = ap (λ k. k * cells a.element) r.0 ∙ ap (λ g. b.count * cells g) r.1 in
      let u = a.slot in
      let v = b.slot in
      let s : a.array.slot ≡ b.array.slot = omega arith in
      a.are_steps ∙ ap (λ us. us ++ step.Elem a.count ∷ []) (one_way f a.init b.init a.array b.array w a.leads b.leads n s) ∙ ap (λ k. b.init ++ step.Elem k ∷ []) r.0 ∙ sym b.are_steps

  ends_one : (ss us : List Step) → AnEnd f ss at → AnEnd f us at → ss ≡ us
  ends_one ss us (OfArray a) (OfArray b) = arrays ss us a b
  ends_one ss us (OfArray a) (OfOther b) = absurd (mixed ss us a b)
  ends_one ss us (OfOther a) (OfArray b) = absurd (mixed us ss b a)
  ends_one ss us (OfOther a) (OfOther b) = one_way f ss us a.part.part b.part.part w a.part.leads b.part.leads (a.part.node ∙ sym b.part.node) (a.part.slot ∙ sym b.part.slot)

  pub one_list : (ss us : List Step) → Leads f ss at → Leads f us at → ss ≡ us
  one_list ss us a b = elim (cases_Bool at.past) as (λ _. ss ≡ us) [ inl z ↦ ends_one ss us (end_of f ss at z a) (end_of f us at z b) | inr z ↦ one_place f ss us at w z a b ]
