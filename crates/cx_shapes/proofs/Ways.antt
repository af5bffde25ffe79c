-- Bounds on the ways to parts.
use Rattle.std.proofs.Common.{◌≡◌, ℕ, zero, suc, ◌+◌, ◌*◌, ◌-◌, ◌/◌, ◌<◌, ◌≤◌, nat_lt, List, [], ◌∷◌, Option, None, Some, sym, ap, subst, ◌∙◌, arith}
use Rattle.std.proofs.Math.Nat.{div-mul-le_self, mul-le-mul_right, suc-mul}
use Rattle.std.specs.Prelude.{option_map, IfSome, MatchOption}
use Rattle.cx_type_defs.proofs.Lists.{some_inj, option_map-some, option_and_then-some}
use Rattle.cx_type_defs.specs.declared.ids.Step.{Step}
use Rattle.cx_type_defs.specs.declared.ids.Step.TheVariants as step
use Rattle.cx_shapes.specs.Forms.{Form, Forms, Leaf, Row, Class, Union, End, More, size, sizes, nodes, nodes_in, Small, Part, further, item, part_of, below_of, Way, way, Leads, Stands, steps_at, form_of}
use Rattle.cx_shapes.specs.declared.shape.Shape.{Shape}
use Rattle.cx_shapes.specs.declared.way.Way.{Way as ShapeWay}
use Rattle.cx_shapes.specs.Ways.{way_seen}
use denote.Bor.{Bor}
use Rattle.cx_shapes.proofs.Numbering.{way_leads, steps_way, steps_none, stands_more, part_fits, if_some, quotient_below}

pub quotient_fits : (j n k : ℕ) → j < n * k → j / k < n
quotient_fits j n k h = quotient_below j n k h (div-mul-le_self j k)

pub quotient_small : (j k : ℕ) → j / k * k ≤ j
quotient_small j k = div-mul-le_self j k

item_nodes : (fs : Forms) (i : ℕ) (p : Part) → item fs i ≡ Some p → nodes p.1 ≤ nodes_in fs
item_nodes End i p e = absurd (cc)
item_nodes (More f fs) zero p e = subst (λ (q : Part). nodes q.1 ≤ nodes f + nodes_in fs) (some_inj (0, f) p e) (omega arith)
item_nodes (More f fs) (suc i) p e =
    let m = option_map-some (further (size f)) (item fs i) p e in
    let h : nodes m.0.1 ≤ nodes_in fs = item_nodes fs i m.0 m.1 in
    subst (λ (q : Part). nodes q.1 ≤ nodes f + nodes_in fs) m.2 (omega arith)

further_nodes : (n : ℕ) (fs : Forms) (i : ℕ) (p : Part) → option_map (further n) (item fs i) ≡ Some p → nodes p.1 ≤ nodes_in fs
further_nodes n fs i p e = let m = option_map-some (further n) (item fs i) p e in subst (λ (q : Part). nodes q.1 ≤ nodes_in fs) m.2 (item_nodes fs i m.0 m.1)

pub part_nodes : (f : Form) (s : Step) (p : Part) → part_of f s ≡ Some p → nodes p.1 ≤ nodes f
part_nodes (Row n f) (step.Elem i) p e = let h = if_some (nat_lt i n) (suc (i * size f), f) p e in subst (λ (q : Part). nodes q.1 ≤ suc (nodes f)) h.1 (omega arith)
part_nodes (Class bs ms) (step.Base i) p e = let h = further_nodes 1 bs i p e in omega arith
part_nodes (Class bs ms) (step.Field i) p e = let h = further_nodes (suc (sizes bs)) ms i p e in omega arith
part_nodes (Union ms) (step.Field i) p e = let h = further_nodes 1 ms i p e in omega arith
part_nodes Leaf s p e = absurd (cc)
part_nodes (Row n f) (step.Base i) p e = absurd (cc)
part_nodes (Row n f) (step.Field i) p e = absurd (cc)
part_nodes (Class bs ms) (step.Elem i) p e = absurd (cc)
part_nodes (Union ms) (step.Elem i) p e = absurd (cc)
part_nodes (Union ms) (step.Base i) p e = absurd (cc)

pub part_small : (f : Form) (s : Step) (p : Part) → part_of f s ≡ Some p → Small f → Small p.1
part_small f s p e h =
    let w = part_fits f s p e in
    let a : p.0 + size p.1 ≤ size f = w.within in
    let b : nodes p.1 ≤ nodes f = part_nodes f s p e in
    let c = h.few_parts in
    let d = h.few_nodes in
    record { few_parts = omega arith; few_nodes = omega arith }

pub multiple_fits : (i n k : ℕ) → i < n → i * k + k ≤ n * k
multiple_fits i n k h = let m : suc i * k ≤ n * k = mul-le-mul_right k h in let w : suc i * k ≡ i * k + k = suc-mul i k in omega arith

pub way_is : (f : Form) (j : ℕ) (r : Option ShapeWay) → option_map way_seen r ≡ way f j → IfSome r (λ w. way f j ≡ Some (way_seen w))
way_is f j None e = tt
way_is f j (Some w) e = sym e

pub ways_lead : (f : Form) (j : ℕ) (r : Option ShapeWay) → option_map way_seen r ≡ way f j → IfSome r (λ w. Leads f j (way_seen w))
ways_lead f j None e = tt
ways_lead f j (Some w) e = way_leads f j (way_seen w) (sym e)

pub ways_small : (f : Form) (j : ℕ) (r : Option ShapeWay) → option_map way_seen r ≡ way f j → Small f → IfSome r (λ w. Small (form_of w.shape.now))
ways_small f j None e h = tt
ways_small f j (Some w) e h = let l = way_leads f j (way_seen w) (sym e) in part_small f w.step (w.from, form_of w.shape.now) l.is_part h

-- what is found of a number behind the first
pub sought : (f : Form) (at : ℕ) (w : Way) (r : Option (Bor Shape)) → 1 ≤ at → way f (at - 1) ≡ Some w
    → MatchOption r (steps_at w.2 (at - w.1) ≡ None) (λ s. Stands w.2 (at - w.1) (form_of s.now) × Small (form_of s.now))
    → MatchOption r (steps_at f at ≡ None) (λ s. Stands f at (form_of s.now) × Small (form_of s.now))
sought f zero w r l e h = absurd (omega arith)
sought f (suc j) w None l e h = let z : suc j - 1 ≡ j = omega arith in steps_way f j w (ap (way f) (sym z) ∙ e) ∙ ap (option_map (λ ss. w.0 ∷ ss)) h
sought f (suc j) w (Some s) l e h = let z : suc j - 1 ≡ j = omega arith in (stands_more f j w (form_of s.now) (ap (way f) (sym z) ∙ e) h.0, h.1)

pub not_sought : (f : Form) (at : ℕ) → 1 ≤ at → way f (at - 1) ≡ None → steps_at f at ≡ None
not_sought f zero l e = absurd (omega arith)
not_sought f (suc j) l e = let z : suc j - 1 ≡ j = omega arith in steps_none f j (ap (way f) (sym z) ∙ e)

pub below_small : (f : Form) (ss : List Step) (p : Part) → below_of f ss ≡ Some p → Small f → Small p.1
below_small f [] p e h = subst (λ (q : Part). Small q.1) (some_inj (0, f) p e) h
below_small f (s ∷ ss) p e h =
    let m = option_and_then-some (λ (p : Part). option_map (further p.0) (below_of p.1 ss)) (part_of f s) p e in
    let x = option_map-some (further m.0.0) (below_of m.0.1 ss) p m.2 in
    subst (λ (q : Part). Small q.1) x.2 (below_small m.0.1 ss x.0 x.1 (part_small f s m.0 m.1 h))
