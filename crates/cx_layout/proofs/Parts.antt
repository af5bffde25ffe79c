-- What the columns say of the parts of a form that they describe.
use Rattle.std.proofs.Common.{◌≡◌, ℕ, zero, suc, ◌+◌, ◌*◌, nat_lt, Bool, false, List, [], ◌∷◌, Some, sym, ap, subst, ◌∙◌, arith, slice_get}
use Rattle.std.specs.Prelude.{option_map}
use Rattle.cx_type_defs.specs.declared.ids.Step.{Step}
use Rattle.cx_type_defs.specs.declared.ids.Step.TheVariants as step
use Rattle.cx_layout.specs.declared.columns.Under.{Under}
use Rattle.cx_layout.specs.declared.columns.Node.{Node}
use Rattle.cx_layout.specs.Forms.{Form, Forms, Leaf, Row, Class, End, More, nodes, nodes_in, cells, cells_in, stride, Part, further, whole, item, part_of, below_of}
use Rattle.cx_layout.specs.Laid.{IsNode, IsUnder, Listed, Laid, PartsLaid, under}
use Rattle.cx_layout.proofs.Options.{some_inj, and_then_some, map_some, if_some}

-- a part of a list: it is under the node, and is described
pub record PartAt (ns : List Node) (ks : List ℕ) (parent n o : ℕ) (s : Step) (p : Part) : Type 0 where
  pub is_under : IsUnder ns (n + p.node) (under parent s (o + p.slot))
  pub laid : Laid ns ks (n + p.node) p.form

part_first : (ns : List Node) (ks : List ℕ) (parent n o : ℕ) (s : Step) (f : Form) → IsUnder ns n (under parent s o) → Laid ns ks n f → PartAt ns ks parent n o s (whole f)
part_first ns ks parent n o s f b c =
    let x : n ≡ n + 0 = omega arith in
    let y : o ≡ o + 0 = omega arith in
    record {
      is_under = subst (λ m. IsUnder ns m (under parent s (o + 0))) x (subst (λ m. IsUnder ns n (under parent s m)) y b);
      laid = subst (λ m. Laid ns ks m f) x c;
    }

part_later : (ns : List Node) (ks : List ℕ) (parent n o a b : ℕ) (s : Step) (p : Part) → PartAt ns ks parent (n + a) (o + b) s p → PartAt ns ks parent n o s (further a b p)
part_later ns ks parent n o a b s p h =
    let x : n + a + p.node ≡ n + (a + p.node) = omega arith in
    let y : o + b + p.slot ≡ o + (b + p.slot) = omega arith in
    record {
      is_under = subst (λ m. IsUnder ns m (under parent s (o + (b + p.slot)))) x (subst (λ m. IsUnder ns (n + a + p.node) (under parent s m)) y h.is_under);
      laid = subst (λ m. Laid ns ks m p.form) x h.laid;
    }

pub item_laid : (ns : List Node) (ks : List ℕ) (parent : ℕ) (s : ℕ → Step) (u : Bool) (fs : Forms) (i n o j : ℕ) (p : Part) → PartsLaid ns ks parent s u i n o fs → item u fs j ≡ Some p → PartAt ns ks parent n o (s (i + j)) p
item_laid ns ks parent s u End i n o j p h e = absurd (cc)
item_laid ns ks parent s u (More f fs) i n o zero p h e =
    let y : i ≡ i + 0 = omega arith in
    subst (PartAt ns ks parent n o (s (i + 0))) (some_inj (whole f) p e)
    (subst (λ m. PartAt ns ks parent n o (s m) (whole f)) y (part_first ns ks parent n o (s i) f h.0 h.1))
item_laid ns ks parent s u (More f fs) i n o (suc j) p h e =
    let m = map_some (further (nodes f) (stride u f)) (item u fs j) p e in
    let y : suc i + j ≡ i + suc j = omega arith in
    subst (PartAt ns ks parent n o (s (i + suc j))) m.2
    (subst (λ a. PartAt ns ks parent n o (s a) (further (nodes f) (stride u f) m.0)) y
    (part_later ns ks parent n o (nodes f) (stride u f) (s (suc i + j)) m.0 (item_laid ns ks parent s u fs (suc i) (n + nodes f) (o + stride u f) j m.0 h.2 m.1)))

pub item_listed : (ks : List ℕ) (u : Bool) (fs : Forms) (k n j : ℕ) (p : Part) → Listed ks k n fs → item u fs j ≡ Some p → slice_get ks (k + j) ≡ Some (n + p.node)
item_listed ks u End k n j p h e = absurd (cc)
item_listed ks u (More f fs) k n zero p h e =
    let x : k + 0 ≡ k = omega arith in
    let y : n ≡ n + 0 = omega arith in
    subst (λ (q : Part). slice_get ks (k + 0) ≡ Some (n + q.node)) (some_inj (whole f) p e) (ap (slice_get ks) x ∙ h.0 ∙ ap Some y)
item_listed ks u (More f fs) k n (suc j) p h e =
    let m = map_some (further (nodes f) (stride u f)) (item u fs j) p e in
    let x : k + suc j ≡ suc k + j = omega arith in
    let y : n + nodes f + m.0.node ≡ n + (nodes f + m.0.node) = omega arith in
    subst (λ (q : Part). slice_get ks (k + suc j) ≡ Some (n + q.node)) m.2 (ap (slice_get ks) x ∙ item_listed ks u fs (suc k) (n + nodes f) j m.0 h.1 m.1 ∙ ap Some y)

-- how the node of a part shows the step and the cell: that of an element shows the first one
abbrev pub shown : Form → Step → Part → ℕ → Under
shown (Row m f) s p n = under n (step.Elem 0) 0
shown f s p n = under n s p.slot

pub record Shown (ns : List Node) (ks : List ℕ) (n : ℕ) (f : Form) (s : Step) (p : Part) : Type 0 where
  pub row : Node
  pub is_row : slice_get ns (n + p.node) ≡ Some row
  pub under_is : row.under ≡ shown f s p n
  pub laid : Laid ns ks (n + p.node) p.form

shown_class : (ns : List Node) (ks : List ℕ) (n a b : ℕ) (c : _) (u : Bool) (bs ms : Forms) (s : Step) (p : Part) → PartAt ns ks n (n + a) b s p → Shown ns ks n (Class c u bs ms) s (further a b p)
shown_class ns ks n a b c u bs ms s p h =
    let x : n + a + p.node ≡ n + (a + p.node) = omega arith in
    record {
      row = h.is_under.row;
      is_row = ap (slice_get ns) (sym x) ∙ h.is_under.is_row;
      under_is = h.is_under.under_is;
      laid = subst (λ m. Laid ns ks m p.form) x h.laid;
    }

pub part_shown : (ns : List Node) (ks : List ℕ) (n : ℕ) (f : Form) (s : Step) (p : Part) → Laid ns ks n f → part_of f s ≡ Some p → Shown ns ks n f s p
part_shown ns ks n (Row m f) (step.Elem i) p h e =
    let w = if_some (nat_lt i m) (record { node = 1; slot = i * cells f; form = f }) p e in
    let x : suc n ≡ n + 1 = omega arith in
    subst (Shown ns ks n (Row m f) (step.Elem i)) w.1 (record {
      row = h.1.row;
      is_row = ap (slice_get ns) (sym x) ∙ h.1.is_row;
      under_is = h.1.under_is;
      laid = subst (λ k. Laid ns ks k f) x h.2;
    })
part_shown ns ks n (Class c u bs ms) (step.Base i) p h e =
    let m = map_some (further 1 1) (item false bs i) p e in
    let x : suc n ≡ n + 1 = omega arith in
    let z : 0 + i ≡ i = omega arith in
    subst (Shown ns ks n (Class c u bs ms) (step.Base i)) m.2
    (shown_class ns ks n 1 1 c u bs ms (step.Base i) m.0
    (subst (λ k. PartAt ns ks n k 1 (step.Base i) m.0) x
    (subst (λ k. PartAt ns ks n (suc n) 1 (step.Base k) m.0) z (item_laid ns ks n step.Base false bs 0 (suc n) 1 i m.0 h.3 m.1))))
part_shown ns ks n (Class c u bs ms) (step.Field i) p h e =
    let m = map_some (further (suc (nodes_in bs)) (suc (cells_in false bs))) (item u ms i) p e in
    let z : 0 + i ≡ i = omega arith in
    subst (Shown ns ks n (Class c u bs ms) (step.Field i)) m.2
    (shown_class ns ks n (suc (nodes_in bs)) (suc (cells_in false bs)) c u bs ms (step.Field i) m.0
    (subst (λ k. PartAt ns ks n (n + suc (nodes_in bs)) (suc (cells_in false bs)) (step.Field k) m.0) z
    (item_laid ns ks n step.Field u ms 0 (n + suc (nodes_in bs)) (suc (cells_in false bs)) i m.0 h.4 m.1)))
part_shown ns ks n Leaf s p h e = absurd (cc)
part_shown ns ks n (Row m f) (step.Base i) p h e = absurd (cc)
part_shown ns ks n (Row m f) (step.Field i) p h e = absurd (cc)
part_shown ns ks n (Class c u bs ms) (step.Elem i) p h e = absurd (cc)

-- what stands at the end of steps is described at its node
pub below_laid : (ns : List Node) (ks : List ℕ) (n : ℕ) (f : Form) (ss : List Step) (p : Part) → Laid ns ks n f → below_of f ss ≡ Some p → Laid ns ks (n + p.node) p.form
below_laid ns ks n f [] p h e = subst (λ (q : Part). Laid ns ks (n + q.node) q.form) (some_inj (whole f) p e) (let x : n ≡ n + 0 = omega arith in subst (λ k. Laid ns ks k f) x h)
below_laid ns ks n f (s ∷ ss) p h e =
    let a = and_then_some (λ (p : Part). option_map (further p.node p.slot) (below_of p.form ss)) (part_of f s) p e in
    let b = map_some (further a.0.node a.0.slot) (below_of a.0.form ss) p a.2 in
    let x : n + a.0.node + b.0.node ≡ n + (a.0.node + b.0.node) = omega arith in
    subst (λ (q : Part). Laid ns ks (n + q.node) q.form) b.2
    (subst (λ k. Laid ns ks k b.0.form) x (below_laid ns ks (n + a.0.node) a.0.form ss b.0 (part_shown ns ks n f s a.0 h a.1).laid b.1))

pub laid_node : (ns : List Node) (ks : List ℕ) (n : ℕ) (f : Form) → Laid ns ks n f → IsNode ns n f
laid_node ns ks n Leaf h = h
laid_node ns ks n (Row m f) h = h.0
laid_node ns ks n (Class c u bs ms) h = h.0

pub part_laid : (ns : List Node) (ks : List ℕ) (f : Form) (ss : List Step) (p : Part) → Laid ns ks 0 f → below_of f ss ≡ Some p → Laid ns ks p.node p.form
part_laid ns ks f ss p h e = let x : 0 + p.node ≡ p.node = omega arith in subst (λ k. Laid ns ks k p.form) x (below_laid ns ks 0 f ss p h e)
