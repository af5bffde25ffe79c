-- A complete type has a form, and the form has no more cells and nodes than the type.
use Rattle.std.proofs.Common.{◌≡◌, ℕ, zero, suc, ◌+◌, ◌*◌, ◌≤◌, Bool, true, false, List, [], ◌∷◌, map, sum, Option, None, Some, refl, sym, ap, subst, arith, slice_get, if◌then◌else◌}
use Rattle.std.proofs.Math.Nat.{mul-le-mul_left}
use Rattle.std.proofs.lemmas.List.Sums.{sum_by-append}
use Rattle.std.specs.Prelude.{option_and_then}
use Rattle.cx_type_defs.specs.declared.ids.TypeId.{TypeId}
use Rattle.cx_type_defs.specs.declared.ids.ClassId.{ClassId}
use Rattle.cx_type_defs.specs.declared.kind.TypeRow.{TypeRow}
use Rattle.cx_type_defs.specs.declared.kind.TypeKind.{TypeKind}
use Rattle.cx_type_defs.specs.declared.kind.TypeKind.TheVariants as kind
use Rattle.cx_type_defs.specs.declared.decl.Field.{Field}
use Rattle.cx_type_defs.specs.declared.decl.ClassBody.{ClassBody}
use Rattle.cx_type_defs.specs.declared.decl.ClassDecl.{ClassDecl}
use Rattle.cx_type_defs.specs.declared.decl.ClassKey.{ClassKey}
use Rattle.cx_type_defs.specs.declared.decl.ClassKey.TheVariants as key
use Rattle.cx_type_defs.specs.Tables.{Tables}
use Rattle.cx_type_defs.specs.Questions.{Part, OfType, OfClass, each, most, body_answer, class_answer, address_answer, kind_answer, part_answer, looked, cells_of, nodes_of}
use Rattle.cx_type_defs.proofs.Lists.{both-some, joined-some, option_map-some, option_and_then-some}
use Rattle.cx_layout.specs.Forms.{Form, Forms, Leaf, Row, End, More, nodes, nodes_in, cells, cells_in}
use Rattle.cx_layout.specs.TypeForms.{each_form, is_union, base_parts, member_parts, with_parts, body_form, class_form, kind_form, part_form, form_in}
use Rattle.cx_layout.proofs.Options.{some_inj, map_some}
use Rattle.cx_layout.proofs.Laying.{both_some}
use Rattle.cx_layout.proofs.Forming.{with_some}

sum_cons : (x : ℕ) (xs : List ℕ) → sum (x ∷ xs) ≡ x + sum xs
sum_cons x xs = omega (arith, sum_by-append (λ y. y) (x ∷ []) xs)

-- one level of a measure: it is no less than that of the form
module _ (t : Tables) (f : Part → Option Form) (c m : Part → Option ℕ) (few_cells : (p : Part) (x : Form) (n : ℕ) → f p ≡ Some x → c p ≡ Some n → cells x ≤ n) (few_nodes : (p : Part) (x : Form) (n : ℕ) → f p ≡ Some x → m p ≡ Some n → nodes x ≤ n) where
  each_cells : {A : Type 0} (g : A → Part) (xs : List A) (fs : Forms) (ns : List ℕ) → each_form f (map g xs) ≡ Some fs → each (λ x. c (g x)) xs ≡ Some ns → (cells_in false fs ≤ sum ns) × (cells_in true fs ≤ most ns)
  each_cells g [] fs ns e h = subst (λ (k : Forms). (cells_in false k ≤ sum ns) × (cells_in true k ≤ most ns)) (some_inj End fs e) (omega arith, omega arith)
  each_cells g (x ∷ xs) fs ns e h =
      let a = both_some (f (g x)) (each_form f (map g xs)) fs e in
      let b = both-some (c (g x)) (each (λ x. c (g x)) xs) ns h in
      let i = each_cells g xs a.1 b.1 a.3 b.3 in
      let i0 = i.0 in
      let i1 = i.1 in
      let l = few_cells (g x) a.0 b.0 a.2 b.2 in
      let s = sum_cons b.0 b.1 in
      subst (λ (k : Forms). (cells_in false k ≤ sum ns) × (cells_in true k ≤ most ns)) a.4
      (subst (λ (k : List ℕ). (cells_in false (More a.0 a.1) ≤ sum k) × (cells_in true (More a.0 a.1) ≤ most k)) b.4 (omega arith, omega arith))

  each_nodes : {A : Type 0} (g : A → Part) (xs : List A) (fs : Forms) (ns : List ℕ) → each_form f (map g xs) ≡ Some fs → each (λ x. m (g x)) xs ≡ Some ns → nodes_in fs ≤ sum ns
  each_nodes g [] fs ns e h = subst (λ (k : Forms). nodes_in k ≤ sum ns) (some_inj End fs e) (omega arith)
  each_nodes g (x ∷ xs) fs ns e h =
      let a = both_some (f (g x)) (each_form f (map g xs)) fs e in
      let b = both-some (m (g x)) (each (λ x. m (g x)) xs) ns h in
      let i = each_nodes g xs a.1 b.1 a.3 b.3 in
      let l = few_nodes (g x) a.0 b.0 a.2 b.2 in
      let s = sum_cons b.0 b.1 in
      subst (λ (k : Forms). nodes_in k ≤ sum ns) a.4 (subst (λ (k : List ℕ). nodes_in (More a.0 a.1) ≤ sum k) b.4 (omega arith))

  body_cells : (i : ClassId) (k : ClassKey) (b : ClassBody) (x : Form) (n : ℕ) → body_form f i k b ≡ Some x → body_answer cells_of c k b ≡ Some n → cells x ≤ n
  body_cells i key.Union b x n e h =
      let a = with_some i true (Some End) (each_form f (member_parts b)) x e in
      let d = joined-some (cells_of.of_class key.Union b.flags) (each (λ c'. c (OfClass c')) b.bases) (each (λ (f : Field). c (OfType f.ty)) b.fields) n h in
      let l = each_cells (λ (f : Field). OfType f.ty) b.fields a.1 d.1 a.3 d.3 in
      let l1 = l.1 in
      let z : End ≡ a.0 = some_inj End a.0 a.2 in
      let y : cells_in false a.0 ≡ 0 = sym (ap (cells_in false) z) in
      let w : most d.1 + 1 ≡ n = d.4 in
      subst (λ (v : Form). cells v ≤ n) a.4 (omega arith)
  body_cells i key.Struct b x n e h = class_cells i key.Struct b x n refl e h
    where
      class_cells : (i : ClassId) (k : ClassKey) (b : ClassBody) (x : Form) (n : ℕ) → k ≡ key.Struct → with_parts i false (each_form f (map OfClass b.bases)) (each_form f (member_parts b)) ≡ Some x → body_answer cells_of c key.Struct b ≡ Some n → cells x ≤ n
      class_cells i k b x n _ e h =
          let a = with_some i false (each_form f (map OfClass b.bases)) (each_form f (member_parts b)) x e in
          let d = joined-some (cells_of.of_class key.Struct b.flags) (each (λ c'. c (OfClass c')) b.bases) (each (λ (f : Field). c (OfType f.ty)) b.fields) n h in
          let l = (each_cells (λ (f : Field). OfType f.ty) b.fields a.1 d.1 a.3 d.3).0 in
          let r = (each_cells OfClass b.bases a.0 d.0 a.2 d.2).0 in
          let w : sum d.0 + sum d.1 + 1 ≡ n = d.4 in
          subst (λ (v : Form). cells v ≤ n) a.4 (omega arith)
  body_cells i key.Class b x n e h =
      let a = with_some i false (each_form f (map OfClass b.bases)) (each_form f (member_parts b)) x e in
      let d = joined-some (cells_of.of_class key.Class b.flags) (each (λ c'. c (OfClass c')) b.bases) (each (λ (f : Field). c (OfType f.ty)) b.fields) n h in
      let l = (each_cells (λ (f : Field). OfType f.ty) b.fields a.1 d.1 a.3 d.3).0 in
      let r = (each_cells OfClass b.bases a.0 d.0 a.2 d.2).0 in
      let w : sum d.0 + sum d.1 + 1 ≡ n = d.4 in
      subst (λ (v : Form). cells v ≤ n) a.4 (omega arith)

  body_nodes : (i : ClassId) (k : ClassKey) (b : ClassBody) (x : Form) (n : ℕ) → body_form f i k b ≡ Some x → body_answer nodes_of m k b ≡ Some n → nodes x ≤ n
  body_nodes i k b x n e h =
      let a = with_some i (is_union k) (each_form f (base_parts k b)) (each_form f (member_parts b)) x e in
      let d = joined-some (nodes_of.of_class k b.flags) (each (λ c'. m (OfClass c')) b.bases) (each (λ (f : Field). m (OfType f.ty)) b.fields) n h in
      let l = each_nodes (λ (f : Field). OfType f.ty) b.fields a.1 d.1 a.3 d.3 in
      let r = bases (is_union k) a.0 d.0 a.2 d.2 in
      let w : sum d.0 + sum d.1 + 1 ≡ n = d.4 in
      subst (λ (v : Form). nodes v ≤ n) a.4 (omega arith)
    where
      bases : (u : Bool) (fs : Forms) (ns : List ℕ) → each_form f (if u then [] else map OfClass b.bases) ≡ Some fs → each (λ c'. m (OfClass c')) b.bases ≡ Some ns → nodes_in fs ≤ sum ns
      bases true fs ns e h = subst (λ (k : Forms). nodes_in k ≤ sum ns) (some_inj End fs e) (omega arith)
      bases false fs ns e h = each_nodes OfClass b.bases fs ns e h

  class_cells : (i : ClassId) (o : Option ClassDecl) (x : Form) (n : ℕ) → class_form f i o ≡ Some x → class_answer cells_of c o ≡ Some n → cells x ≤ n
  class_cells i None x n e h = absurd (cc)
  class_cells i (Some d) x n e h = go d.body e h
    where
      go : (o : Option ClassBody) → option_and_then (body_form f i d.key) o ≡ Some x → option_and_then (body_answer cells_of c d.key) o ≡ Some n → cells x ≤ n
      go None e h = absurd (cc)
      go (Some b) e h = body_cells i d.key b x n e h

  class_nodes : (i : ClassId) (o : Option ClassDecl) (x : Form) (n : ℕ) → class_form f i o ≡ Some x → class_answer nodes_of m o ≡ Some n → nodes x ≤ n
  class_nodes i None x n e h = absurd (cc)
  class_nodes i (Some d) x n e h = go d.body e h
    where
      go : (o : Option ClassBody) → option_and_then (body_form f i d.key) o ≡ Some x → option_and_then (body_answer nodes_of m d.key) o ≡ Some n → nodes x ≤ n
      go None e h = absurd (cc)
      go (Some b) e h = body_nodes i d.key b x n e h

  leaf : (x : Form) (n : ℕ) → Some Leaf ≡ Some x → Some 1 ≡ Some n → (cells x ≤ n) × (nodes x ≤ n)
  leaf x n e h = subst (λ (v : Form). (cells v ≤ n) × (nodes v ≤ n)) (some_inj Leaf x e) (let w = some_inj 1 n h in (omega arith, omega arith))

  address_cells : (o : Option ℕ) (k : TypeKind) (n : ℕ) → address_answer cells_of o k ≡ Some n → Some 1 ≡ Some n
  address_cells o (kind.Class c) n e = e
  address_cells o kind.Void n e = e
  address_cells o kind.Nullptr n e = e
  address_cells o (kind.Int _) n e = e
  address_cells o (kind.Enum _) n e = e
  address_cells o (kind.Pointer _) n e = e
  address_cells o (kind.Reference _) n e = e
  address_cells o (kind.Array _ _) n e = e

  address_nodes : (o : Option ℕ) (k : TypeKind) (n : ℕ) → address_answer nodes_of o k ≡ Some n → Some 1 ≡ Some n
  address_nodes o (kind.Class c) n e = e
  address_nodes o kind.Void n e = e
  address_nodes o kind.Nullptr n e = e
  address_nodes o (kind.Int _) n e = e
  address_nodes o (kind.Enum _) n e = e
  address_nodes o (kind.Pointer _) n e = e
  address_nodes o (kind.Reference _) n e = e
  address_nodes o (kind.Array _ _) n e = e

  to_cells : (to : TypeId) (n : ℕ) → option_and_then (λ (r : TypeRow). address_answer cells_of (c (OfType to)) r.kind) (slice_get t.rows to.0) ≡ Some n → Some 1 ≡ Some n
  to_cells to n e = let i = option_and_then-some (λ (r : TypeRow). address_answer cells_of (c (OfType to)) r.kind) (slice_get t.rows to.0) n e in address_cells (c (OfType to)) i.0.kind n i.2

  to_nodes : (to : TypeId) (n : ℕ) → option_and_then (λ (r : TypeRow). address_answer nodes_of (m (OfType to)) r.kind) (slice_get t.rows to.0) ≡ Some n → Some 1 ≡ Some n
  to_nodes to n e = let i = option_and_then-some (λ (r : TypeRow). address_answer nodes_of (m (OfType to)) r.kind) (slice_get t.rows to.0) n e in address_nodes (m (OfType to)) i.0.kind n i.2

  kind_cells : (k : TypeKind) (x : Form) (n : ℕ) → kind_form t f k ≡ Some x → kind_answer cells_of t c k ≡ Some n → cells x ≤ n
  kind_cells kind.Void x n e h = absurd (cc)
  kind_cells kind.Nullptr x n e h = (leaf x n e h).0
  kind_cells (kind.Int _) x n e h = (leaf x n e h).0
  kind_cells (kind.Enum _) x n e h = (leaf x n e h).0
  kind_cells (kind.Pointer to) x n e h = (leaf x n e (to_cells to n h)).0
  kind_cells (kind.Reference to) x n e h = (leaf x n e (to_cells to n h)).0
  kind_cells (kind.Array of k) x n e h =
      let a = map_some (Row k) (f (OfType of)) x e in
      let b = option_map-some (λ c. k * c) (c (OfType of)) n h in
      let l = few_cells (OfType of) a.0 b.0 a.1 b.1 in
      let v : k * cells a.0 ≤ k * b.0 = mul-le-mul_left k l in
      let w : k * b.0 ≡ n = b.2 in
      subst (λ (v : Form). cells v ≤ n) a.2 (omega arith)
  kind_cells (kind.Class i) x n e h = class_cells i (slice_get t.classes i.0) x n e h

  kind_nodes : (k : TypeKind) (x : Form) (n : ℕ) → kind_form t f k ≡ Some x → kind_answer nodes_of t m k ≡ Some n → nodes x ≤ n
  kind_nodes kind.Void x n e h = absurd (cc)
  kind_nodes kind.Nullptr x n e h = (leaf x n e h).1
  kind_nodes (kind.Int _) x n e h = (leaf x n e h).1
  kind_nodes (kind.Enum _) x n e h = (leaf x n e h).1
  kind_nodes (kind.Pointer to) x n e h = (leaf x n e (to_nodes to n h)).1
  kind_nodes (kind.Reference to) x n e h = (leaf x n e (to_nodes to n h)).1
  kind_nodes (kind.Array of k) x n e h =
      let a = map_some (Row k) (f (OfType of)) x e in
      let b = option_map-some (λ c. c + 1) (m (OfType of)) n h in
      let l = few_nodes (OfType of) a.0 b.0 a.1 b.1 in
      let w : b.0 + 1 ≡ n = b.2 in
      subst (λ (v : Form). nodes v ≤ n) a.2 (omega arith)
  kind_nodes (kind.Class i) x n e h = class_nodes i (slice_get t.classes i.0) x n e h

  pub part_cells : (p : Part) (x : Form) (n : ℕ) → part_form t f p ≡ Some x → part_answer cells_of t c p ≡ Some n → cells x ≤ n
  part_cells (OfType id) x n e h = go (slice_get t.rows id.0) e h
    where
      go : (o : Option TypeRow) → option_and_then (λ (r : TypeRow). kind_form t f r.kind) o ≡ Some x → option_and_then (λ (r : TypeRow). kind_answer cells_of t c r.kind) o ≡ Some n → cells x ≤ n
      go None e h = absurd (cc)
      go (Some r) e h = kind_cells r.kind x n e h
  part_cells (OfClass i) x n e h = class_cells i (slice_get t.classes i.0) x n e h

  pub part_nodes : (p : Part) (x : Form) (n : ℕ) → part_form t f p ≡ Some x → part_answer nodes_of t m p ≡ Some n → nodes x ≤ n
  part_nodes (OfType id) x n e h = go (slice_get t.rows id.0) e h
    where
      go : (o : Option TypeRow) → option_and_then (λ (r : TypeRow). kind_form t f r.kind) o ≡ Some x → option_and_then (λ (r : TypeRow). kind_answer nodes_of t m r.kind) o ≡ Some n → nodes x ≤ n
      go None e h = absurd (cc)
      go (Some r) e h = kind_nodes r.kind x n e h
  part_nodes (OfClass i) x n e h = class_nodes i (slice_get t.classes i.0) x n e h

pub few : (t : Tables) (l : ℕ) (p : Part) (x : Form) → form_in t l p ≡ Some x → ((n : ℕ) → looked cells_of t l p ≡ Some n → cells x ≤ n) × ((n : ℕ) → looked nodes_of t l p ≡ Some n → nodes x ≤ n)
unfolding form_in looked
few t zero p x e = absurd (cc)
few t (suc l) p x e = (
  λ n h. part_cells t (form_in t l) (looked cells_of t l) (looked nodes_of t l) (λ p x n e h. (few t l p x e).0 n h) (λ p x n e h. (few t l p x e).1 n h) p x n e h,
  λ n h. part_nodes t (form_in t l) (looked cells_of t l) (looked nodes_of t l) (λ p x n e h. (few t l p x e).0 n h) (λ p x n e h. (few t l p x e).1 n h) p x n e h,
)
