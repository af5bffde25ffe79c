-- What laying parts one after the other gives.
use Rattle.std.proofs.Common.{◌≡◌, ℕ, zero, suc, ◌+◌, ◌*◌, ◌≤◌, ◌<◌, Bool, true, false, List, [], ◌∷◌, ◌++◌, length, Option, None, Some, refl, sym, ap, subst, ◌∙◌, arith, slice_get, append_assoc, if◌then◌else◌}
use Rattle.cx_type_defs.specs.declared.ids.Step.{Step}
use Rattle.cx_type_defs.specs.Questions.{Part}
use Rattle.cx_layout.specs.declared.columns.Node.{Node}
use Rattle.cx_layout.specs.declared.lay.Group.{Group}
use Rattle.cx_layout.specs.Forms.{Form, Forms, Row, Leaf, Class, End, More, count, nodes, nodes_in, cells, cells_in, together, stride, Full, AllFull}
use Rattle.cx_layout.specs.TypeForms.{both, each_form}
use Rattle.cx_layout.specs.Laid.{IsUnder, Laid, PartsLaid, under}
use Rattle.cx_layout.specs.Laying.{Room, Lays, LaysAll, GroupRoom, starts, first, step_by, under_in, element_cells}
use Rattle.cx_layout.proofs.Options.{some_inj}
use Rattle.cx_layout.proofs.Telling.{parts_stay}

-- one form more at the end

abbrev pub snoc : Forms → Form → Forms
snoc End g = More g End
snoc (More f fs) g = More f (snoc fs g)

abbrev pub nth : Forms → ℕ → Option Form
nth End i = None
nth (More f fs) zero = Some f
nth (More f fs) (suc i) = nth fs i

abbrev pub strides : Bool → Forms → ℕ
strides u End = 0
strides u (More f fs) = stride u f + strides u fs

pub count_snoc : (fs : Forms) (g : Form) → count (snoc fs g) ≡ count fs + 1
count_snoc End g = refl
count_snoc (More f fs) g = let w = count_snoc fs g in omega arith

pub nodes_snoc : (fs : Forms) (g : Form) → nodes_in (snoc fs g) ≡ nodes_in fs + nodes g
nodes_snoc End g = omega arith
nodes_snoc (More f fs) g = let w = nodes_snoc fs g in omega arith

pub cells_snoc : (u : Bool) (fs : Forms) (g : Form) → cells_in u (snoc fs g) ≡ together u (cells_in u fs) (cells g)
cells_snoc true End g = omega arith
cells_snoc false End g = omega arith
cells_snoc true (More f fs) g = let w = cells_snoc true fs g in omega arith
cells_snoc false (More f fs) g = let w = cells_snoc false fs g in omega arith

pub strides_are : (u : Bool) (fs : Forms) → strides u fs ≡ (if u then 0 else cells_in u fs)
strides_are true End = refl
strides_are false End = refl
strides_are true (More f fs) = let w = strides_are true fs in omega arith
strides_are false (More f fs) = let w = strides_are false fs in omega arith

starts_snoc : (fs : Forms) (g : Form) (n : ℕ) → starts (snoc fs g) n ≡ starts fs n ++ (n + nodes_in fs) ∷ []
starts_snoc End g n = let w : n ≡ n + 0 = omega arith in ap (λ k. k ∷ []) w
starts_snoc (More f fs) g n = let w : n + nodes f + nodes_in fs ≡ n + (nodes f + nodes_in fs) = omega arith in ap (λ l. n ∷ l) (starts_snoc fs g (n + nodes f) ∙ ap (λ k. starts fs (n + nodes f) ++ k ∷ []) w)

pub starts_length : (fs : Forms) (n : ℕ) → length (starts fs n) ≡ count fs
starts_length End n = refl
starts_length (More f fs) n = ap suc (starts_length fs (n + nodes f))

pub first_next : (fs : Forms) (i : ℕ) (g : Form) → nth fs i ≡ Some g → first (suc i) fs ≡ snoc (first i fs) g
first_next End i g e = absurd (cc)
first_next (More f fs) zero g e = ap (λ k. More k End) (some_inj f g e)
first_next (More f fs) (suc i) g e = ap (More f) (first_next fs i g e)

pub first_all : (fs : Forms) (n : ℕ) → count fs ≤ n → first n fs ≡ fs
first_all End zero l = refl
first_all End (suc n) l = refl
first_all (More f fs) zero l = absurd (omega arith)
first_all (More f fs) (suc n) l = ap (More f) (first_all fs n (omega arith))

pub first_count : (fs : Forms) (n : ℕ) (g : Form) → nth fs n ≡ Some g → count (first n fs) ≡ n
first_count End n g e = absurd (cc)
first_count (More f fs) zero g e = refl
first_count (More f fs) (suc n) g e = ap suc (first_count fs n g e)

pub nth_nodes : (fs : Forms) (i : ℕ) (g : Form) → nth fs i ≡ Some g → nodes_in (first i fs) + nodes g ≤ nodes_in fs
nth_nodes End i g e = absurd (cc)
nth_nodes (More f fs) zero g e = let w = ap nodes (some_inj f g e) in omega arith
nth_nodes (More f fs) (suc i) g e = let w = nth_nodes fs i g e in omega arith

pub nth_cells : (u : Bool) (fs : Forms) (i : ℕ) (g : Form) → nth fs i ≡ Some g → strides u (first i fs) + cells g ≤ cells_in u fs
nth_cells u End i g e = absurd (cc)
nth_cells true (More f fs) zero g e = let w = ap cells (some_inj f g e) in omega arith
nth_cells false (More f fs) zero g e = let w = ap cells (some_inj f g e) in omega arith
nth_cells true (More f fs) (suc i) g e = let w = nth_cells true fs i g e in omega arith
nth_cells false (More f fs) (suc i) g e = let w = nth_cells false fs i g e in omega arith

pub nth_full : (fs : Forms) (i : ℕ) (g : Form) → AllFull fs → nth fs i ≡ Some g → Full g
nth_full End i g h e = absurd (cc)
nth_full (More f fs) zero g h e = subst Full (some_inj f g e) h.0
nth_full (More f fs) (suc i) g h e = nth_full fs i g h.1 e

pub nth_within : (fs : Forms) (i : ℕ) (g : Form) → nth fs i ≡ Some g → i < count fs
nth_within End i g e = absurd (cc)
nth_within (More f fs) zero g e = omega arith
nth_within (More f fs) (suc i) g e = let w = nth_within fs i g e in omega arith

-- the forms of parts

pub both_some : (a : Option Form) (b : Option Forms) (fs : Forms) → both a b ≡ Some fs → (f : Form) × (gs : Forms) × (a ≡ Some f) × (b ≡ Some gs) × (More f gs ≡ fs)
both_some (Some f) (Some gs) fs e = (f, gs, refl, refl, some_inj (More f gs) fs e)
both_some (Some f) None fs e = absurd (cc)
both_some None (Some gs) fs e = absurd (cc)
both_some None None fs e = absurd (cc)

pub each_nth : (below : Part → Option Form) (ps : List Part) (fs : Forms) (i : ℕ) (p : Part) → each_form below ps ≡ Some fs → slice_get ps i ≡ Some p → (f : Form) × (below p ≡ Some f) × (nth fs i ≡ Some f)
each_nth below [] fs i p e g = absurd (cc)
each_nth below (q ∷ ps) fs zero p e g =
    let m = both_some (below q) (each_form below ps) fs e in
    (m.0, ap below (sym (some_inj q p g)) ∙ m.2, ap (λ k. nth k 0) (sym m.4))
each_nth below (q ∷ ps) fs (suc i) p e g =
    let m = both_some (below q) (each_form below ps) fs e in
    let r = each_nth below ps m.1 i p m.3 g in
    (r.0, r.1, ap (λ k. nth k (suc i)) (sym m.4) ∙ r.2)

pub each_count : (below : Part → Option Form) (ps : List Part) (fs : Forms) → each_form below ps ≡ Some fs → count fs ≡ length ps
each_count below [] fs e = sym (ap count (some_inj End fs e))
each_count below (q ∷ ps) fs e = let m = both_some (below q) (each_form below ps) fs e in let w = each_count below ps m.1 m.3 in let v : count fs ≡ suc (count m.1) = sym (ap count m.4) in omega arith

-- one part more is described

parts_snoc : (ns : List Node) (ks : List ℕ) (p : ℕ) (s : ℕ → Step) (u : Bool) (i n o : ℕ) (fs : Forms) (g : Form) → PartsLaid ns ks p s u i n o fs
    → IsUnder ns (n + nodes_in fs) (under p (s (i + count fs)) (o + strides u fs)) → Laid ns ks (n + nodes_in fs) g → PartsLaid ns ks p s u i n o (snoc fs g)
parts_snoc ns ks p s u i n o End g h b l =
    let x : n + 0 ≡ n = omega arith in
    let y : i + 0 ≡ i = omega arith in
    let z : o + 0 ≡ o = omega arith in
    (subst (λ m. IsUnder ns m (under p (s i) o)) x (subst (λ k. IsUnder ns (n + 0) (under p (s k) o)) y (subst (λ k. IsUnder ns (n + 0) (under p (s (i + 0)) k)) z b)), subst (λ m. Laid ns ks m g) x l, tt)
parts_snoc ns ks p s u i n o (More f fs) g h b l =
    let x : n + (nodes f + nodes_in fs) ≡ n + nodes f + nodes_in fs = omega arith in
    let y : i + suc (count fs) ≡ suc i + count fs = omega arith in
    let z : o + (stride u f + strides u fs) ≡ o + stride u f + strides u fs = plus o (stride u f) (strides u fs) in (
      h.0,
      h.1,
      parts_snoc ns ks p s u (suc i) (n + nodes f) (o + stride u f) fs g h.2
          (subst (λ m. IsUnder ns m (under p (s (suc i + count fs)) (o + stride u f + strides u fs))) x (subst (λ k. IsUnder ns (n + (nodes f + nodes_in fs)) (under p (s k) (o + stride u f + strides u fs))) y (subst (λ k. IsUnder ns (n + (nodes f + nodes_in fs)) (under p (s (i + suc (count fs))) k)) z b)))
          (subst (λ m. Laid ns ks m g) x l),
    )
  where
    plus : (a b c : ℕ) → a + (b + c) ≡ a + b + c
    plus a b c = omega arith

pub lays_none : (ns : List Node) (ks js : List ℕ) (g : Group) → LaysAll ns ks js ns ks js g End 0
lays_none ns ks js g = record {
  rows_stay = λ i x e. e;
  lists_stay = λ i x e. e;
  laid = tt;
  as_many = omega arith;
  few_parts = omega arith;
  starts_are = sym (append-nil js);
  cells_are = refl;
}
  where
    append-nil : (l : List ℕ) → l ++ [] ≡ l
    append-nil [] = refl
    append-nil (x ∷ l) = ap (λ k. x ∷ k) (append-nil l)

pub lays_next : (ns : List Node) (ks js : List ℕ) (ms : List Node) (ls is : List ℕ) (new : List Node) (news : List ℕ) (g : Group) (fs : Forms) (f : Form) (c d : ℕ)
    → LaysAll ns ks js ms ls is g fs c → Lays ms ls new news (under_in g (count fs) c) f d → LaysAll ns ks js new news (is ++ length ms ∷ []) g (snoc fs f) (together g.shared c d)
lays_next ns ks js ms ls is new news g fs f c d a b =
    let x : length ns + nodes_in fs ≡ length ms = sym a.as_many in
    let y : (if g.shared then g.offset else g.offset + c) ≡ g.offset + strides g.shared fs = offset_is g.shared g.offset c fs a.cells_are in
    let z : count fs ≡ 0 + count fs = omega arith in
    let l : Laid new news (length ns + nodes_in fs) f = subst (λ m. Laid new news m f) (sym x) b.laid in
    let v : IsUnder new (length ns + nodes_in fs) (under g.node (step_by g.of_bases (0 + count fs)) (g.offset + strides g.shared fs)) =
    subst (λ m. IsUnder new m (under g.node (step_by g.of_bases (0 + count fs)) (g.offset + strides g.shared fs))) (sym x)
    (subst (λ m. IsUnder new (length ms) (under g.node (step_by g.of_bases m) (g.offset + strides g.shared fs))) z
    (subst (λ m. IsUnder new (length ms) (under g.node (step_by g.of_bases (count fs)) m)) y b.is_under)) in
    let p = parts_stay ms new ls news 0 (λ i x m e. b.rows_stay i x e) (λ i x m e. b.lists_stay i x e) g.node (step_by g.of_bases) g.shared 0 (length ns) g.offset fs (omega arith) a.laid in
    let n1 = a.as_many in
    let n2 = b.as_many in
    let n3 = nodes_snoc fs f in
    let n4 = count_snoc fs f in
    let q1 = a.few_parts in
    let q2 = b.few_parts in
    record {
      rows_stay = λ i x e. b.rows_stay i x (a.rows_stay i x e);
      lists_stay = λ i x e. b.lists_stay i x (a.lists_stay i x e);
      laid = parts_snoc new news g.node (step_by g.of_bases) g.shared 0 (length ns) g.offset fs f p v l;
      as_many = omega arith;
      few_parts = omega arith;
      starts_are = ap (λ k. k ++ length ms ∷ []) a.starts_are ∙ append_assoc js (starts fs (length ns)) (length ms ∷ []) ∙ ap (λ k. js ++ (starts fs (length ns) ++ k ∷ [])) n1 ∙ ap (λ k. js ++ k) (sym (starts_snoc fs f (length ns)));
      cells_are = ap (λ k. together g.shared k d) a.cells_are ∙ ap (together g.shared (cells_in g.shared fs)) b.cells_are ∙ sym (cells_snoc g.shared fs f);
    }
  where
    offset_is : (u : Bool) (o c : ℕ) (fs : Forms) → c ≡ cells_in u fs → (if u then o else o + c) ≡ o + strides u fs
    offset_is true o c fs e = let w = strides_are true fs in omega arith
    offset_is false o c fs e = let w = strides_are false fs in omega arith

-- there is room for a part of the group
pub part_room : (ns : List Node) (ks js : List ℕ) (ms : List Node) (ls is : List ℕ) (g : Group) (fs : Forms) (i : ℕ) (f : Form) (c : ℕ) → GroupRoom ns ks g fs → nth fs i ≡ Some f
    → LaysAll ns ks js ms ls is g (first i fs) c → Room ms ls (under_in g i c).offset f
part_room ns ks js ms ls is g fs i f c r e a =
    let n1 = r.few_nodes in
    let n2 = r.few_parts in
    let n3 = a.as_many in
    let n4 = a.few_parts in
    let n5 = nth_nodes fs i f e in
    let w = nth_full fs i f r.full e in
    record {
      few_nodes = omega arith;
      few_parts = omega arith;
      few_cells = in_cells g.shared fs r.few_cells e a.cells_are;
      few_element_cells = element f w (small g.shared fs r.few_cells e);
      full = Rattle.cx_layout.proofs.WaysBack.full_parts f w;
    }
  where
    in_cells : (u : Bool) (fs : Forms) → g.offset + cells_in u fs ≤ 1073741824 → nth fs i ≡ Some f → c ≡ cells_in u (first i fs) → (if u then g.offset else g.offset + c) + cells f ≤ 1073741824
    in_cells true fs h e k = let w = nth_cells true fs i f e in omega arith
    in_cells false fs h e k = let w = nth_cells false fs i f e in let v = strides_are false (first i fs) in omega arith

    small : (u : Bool) (fs : Forms) → g.offset + cells_in u fs ≤ 1073741824 → nth fs i ≡ Some f → cells f ≤ 1073741824
    small u fs h e = let w = nth_cells u fs i f e in omega arith

    element : (f : Form) → Full f → cells f ≤ 1073741824 → element_cells f ≤ 1073741824
    element Leaf h l = omega arith
    element (Row n f) h l = let b : 1 ≤ n = h.0 in let d : 1 * cells f ≤ n * cells f = Rattle.std.proofs.Math.Nat.mul-le-mul_right (cells f) b in omega arith
    element (Class k u bs ms) h l = omega arith
