-- A new tree of a type is that of its form.
use Rattle.std.proofs.Common.{◌≡◌, ℕ, zero, suc, ◌+◌, true, false, true≢false, List, [], ◌∷◌, map, Option, Some, refl, sym, ap, subst, ◌∙◌, slice_get}
use Rattle.std.specs.Prelude.{option_map, option_and_then}
use Rattle.cx_type_defs.proofs.Lists.{some_inj, option_map-some, option_and_then-some, both-some, joined-some}
use Rattle.cx_type_defs.specs.declared.ids.TypeId.{TypeId}
use Rattle.cx_type_defs.specs.declared.ids.ClassId.{ClassId}
use Rattle.cx_type_defs.specs.declared.kind.TypeRow.{TypeRow}
use Rattle.cx_type_defs.specs.declared.kind.TypeKind.{TypeKind}
use Rattle.cx_type_defs.specs.declared.kind.TypeKind.TheVariants as kind
use Rattle.cx_type_defs.specs.declared.decl.Field.{Field}
use Rattle.cx_type_defs.specs.declared.decl.ClassBody.{ClassBody}
use Rattle.cx_type_defs.specs.declared.decl.ClassDecl.{ClassDecl}
use Rattle.cx_type_defs.specs.declared.decl.ClassKey.{ClassKey}
use Rattle.cx_type_defs.specs.declared.decl.ClassKey.TheVariants as key
use Rattle.cx_type_defs.specs.Tables.{Tables}
use Rattle.cx_type_defs.specs.Questions as ask
use Rattle.cx_type_defs.specs.Questions.{Question, each, body_answer, class_answer, address_answer, kind_answer, looked, by_key}
use Rattle.cx_state.specs.declared.kind.Phase.{Phase}
use Rattle.cx_state.specs.Objects as tree
use Rattle.cx_state.specs.Objects.{Tree, Trees, trees, copies}
use Rattle.cx_state.specs.Pointers.{is_union_key}
use Rattle.cx_state.specs.Steps.{blank, new_in}
use Rattle.cx_shapes.specs.Forms.{Form, Forms, Leaf, Row, Class, Union, End, More, size, sizes}
use Rattle.cx_shapes.specs.Contents.{Cells, fresh, tree_of, trees_of, row_trees}
use Rattle.cx_shapes.specs.Kinds.{OfKind, OfRow, IsForm, AreForms, base_kinds, field_kind, field_kinds}
use Rattle.cx_shapes.proofs.Typing.{body_known, row_known}

abbrev pub all_fresh : Phase → Cells
all_fresh p k = fresh p

pub looked_type : {R : Type 0} (q : Question R) (t : Tables) (l : ℕ) (id : TypeId) (x : R) → looked q t l (ask.OfType id) ≡ Some x → (m : ℕ) × (r : TypeRow) × (slice_get t.rows id.0 ≡ Some r) × (kind_answer q t (looked q t m) r.kind ≡ Some x)
unfolding looked
looked_type q t zero id x e = absurd (cc)
looked_type q t (suc l) id x e = let m = option_and_then-some (λ (r : TypeRow). kind_answer q t (looked q t l) r.kind) (slice_get t.rows id.0) x e in (l, m.0, m.1, m.2)

pub looked_class : {R : Type 0} (q : Question R) (t : Tables) (l : ℕ) (c : ClassId) (x : R) → looked q t l (ask.OfClass c) ≡ Some x → (m : ℕ) × (kind_answer q t (looked q t m) (kind.Class c) ≡ Some x)
unfolding looked
looked_class q t zero c x e = absurd (cc)
looked_class q t (suc l) c x e = (l, e)

address_blank : (p : Phase) (d : Option Tree) (k : TypeKind) (x : Tree) → address_answer (new_in p) d k ≡ Some x → blank ≡ x
address_blank p d (kind.Class c) x e = some_inj blank x e
address_blank p d kind.Void x e = some_inj blank x e
address_blank p d kind.Nullptr x e = some_inj blank x e
address_blank p d (kind.Int _) x e = some_inj blank x e
address_blank p d (kind.Enum _) x e = some_inj blank x e
address_blank p d (kind.Pointer _) x e = some_inj blank x e
address_blank p d (kind.Reference _) x e = some_inj blank x e
address_blank p d (kind.Array _ _) x e = some_inj blank x e

copies_row : (n : ℕ) (x : Tree) (t : ℕ → Tree) (k b : ℕ) → ((a : ℕ) → x ≡ t a) → copies n x ≡ row_trees n t k b
copies_row zero x t k b h = refl
copies_row (suc n) x t k b h = ap (λ y. tree.More y (copies n x)) (h b) ∙ ap (tree.More (t b)) (copies_row n x t k (b + k) h)

key_class : {A : Type 0} (k : ClassKey) (a b : A) → is_union_key k ≡ false → by_key k a b ≡ b
key_class key.Union a b e = absurd (true≢false e)
key_class key.Struct a b e = refl
key_class key.Class a b e = refl

key_union : {A : Type 0} (k : ClassKey) (a b : A) → is_union_key k ≡ true → by_key k a b ≡ a
key_union key.Union a b e = refl
key_union key.Struct a b e = absurd (true≢false (sym e))
key_union key.Class a b e = absurd (true≢false (sym e))

module _ (t : Tables) (p : Phase) where
  abbrev q : Question Tree
  q = new_in p

  leaf_blank : (l : ℕ) (k : TypeKind) (x : Tree) → IsForm t Leaf k → kind_answer q t (looked q t l) k ≡ Some x → x ≡ blank
  leaf_blank l kind.Void x h e = absurd (cc)
  leaf_blank l kind.Nullptr x h e = sym (some_inj blank x e)
  leaf_blank l (kind.Int _) x h e = sym (some_inj blank x e)
  leaf_blank l (kind.Enum _) x h e = sym (some_inj blank x e)
  leaf_blank l (kind.Pointer to) x h e = let m = option_and_then-some (λ (r : TypeRow). address_answer q (looked q t l (ask.OfType to)) r.kind) (slice_get t.rows to.0) x e in sym (address_blank p (looked q t l (ask.OfType to)) m.0.kind x m.2)
  leaf_blank l (kind.Reference to) x h e = let m = option_and_then-some (λ (r : TypeRow). address_answer q (looked q t l (ask.OfType to)) r.kind) (slice_get t.rows to.0) x e in sym (address_blank p (looked q t l (ask.OfType to)) m.0.kind x m.2)
  leaf_blank l (kind.Array _ _) x h e = absurd h
  leaf_blank l (kind.Class _) x h e = absurd h

  class_body : (l : ℕ) (c : ClassId) (d : ClassDecl) (b : ClassBody) (x : Tree) → slice_get t.classes c.0 ≡ Some d → d.body ≡ Some b → class_answer q (looked q t l) (slice_get t.classes c.0) ≡ Some x
      → (xs : List Tree) × (ys : List Tree) × (each (λ c. looked q t l (ask.OfClass c)) b.bases ≡ Some xs) × (each (λ (f : Field). looked q t l (ask.OfType f.ty)) b.fields ≡ Some ys) × (by_key d.key tree.Union (tree.Class p (trees xs) (trees ys)) ≡ x)
  class_body l c d b x e h a =
      let y : body_answer q (looked q t l) d.key b ≡ Some x = sym (ap (class_answer q (looked q t l)) e ∙ ap (option_and_then (body_answer q (looked q t l) d.key)) h) ∙ a in
      joined-some (q.of_class d.key b.flags) (each (λ c. looked q t l (ask.OfClass c)) b.bases) (each (λ (f : Field). looked q t l (ask.OfType f.ty)) b.fields) x y

  mutual
    pub fresh_is : (f : Form) (k : TypeKind) (l : ℕ) (x : Tree) → IsForm t f k → kind_answer q t (looked q t l) k ≡ Some x → (b : ℕ) → x ≡ tree_of f (all_fresh p) b
    fresh_is Leaf k l x h e b = leaf_blank l k x h e
    fresh_is (Row n f) (kind.Array of m) l x h e b =
        let y = option_map-some (q.of_array m) (looked q t l (ask.OfType of)) x e in
        let z = looked_type q t l of y.0 y.1 in
        let r = row_known (IsForm t f) (slice_get t.rows of.0) h.1 in
        let w : kind_answer q t (looked q t z.0) r.0.kind ≡ Some y.0 = ap (λ (s : TypeRow). kind_answer q t (looked q t z.0) s.kind) (some_inj r.0 z.1 (sym r.1 ∙ z.2)) ∙ z.3 in
        sym y.2 ∙ ap (λ i. tree.Row (copies i y.0)) h.0 ∙ ap tree.Row (copies_row n y.0 (tree_of f (all_fresh p)) (size f) (b + 1) (λ a. fresh_is f r.0.kind z.0 y.0 r.2 w a))
    fresh_is (Class bs ms) (kind.Class c) l x h e b =
        let w = body_known (λ k b. (is_union_key k ≡ false) × AreForms t bs (base_kinds b) × AreForms t ms (field_kinds t b)) (slice_get t.classes c.0) h in
        let y = class_body l c w.0 w.1 x w.2 w.3 e in
        sym y.4 ∙ key_class w.0.key tree.Union (tree.Class p (trees y.0) (trees y.1)) w.4.0
        ∙ ap (λ z. tree.Class p z (trees y.1)) (bases_fresh bs w.1.bases l y.0 w.4.1 y.2 (b + 1)) ∙ ap (tree.Class p (trees_of bs (all_fresh p) (b + 1))) (fields_fresh ms w.1.fields l y.1 w.4.2 y.3 (b + suc (sizes bs)))
    fresh_is (Union ms) (kind.Class c) l x h e b =
        let w = body_known (λ k b. (is_union_key k ≡ true) × (b.bases ≡ []) × AreForms t ms (field_kinds t b)) (slice_get t.classes c.0) h in
        let y = class_body l c w.0 w.1 x w.2 w.3 e in
        sym y.4 ∙ key_union w.0.key tree.Union (tree.Class p (trees y.0) (trees y.1)) w.4.0
    fresh_is f k l x h e b = absurd (first_of (assumption, cc))

    bases_fresh : (fs : Forms) (cs : List ClassId) (l : ℕ) (xs : List Tree) → AreForms t fs (map (λ (c : ClassId). Some (kind.Class c)) cs) → each (λ c. looked q t l (ask.OfClass c)) cs ≡ Some xs → (b : ℕ) → trees xs ≡ trees_of fs (all_fresh p) b
    bases_fresh End [] l xs h e b = ap trees (sym (some_inj [] xs e))
    bases_fresh (More f fs) (c ∷ cs) l xs h e b =
        let y = both-some (looked q t l (ask.OfClass c)) (each (λ c. looked q t l (ask.OfClass c)) cs) xs e in
        let z = looked_class q t l c y.0 y.2 in
        ap trees (sym y.4) ∙ ap (λ w. tree.More w (trees y.1)) (fresh_is f (kind.Class c) z.0 y.0 h.0 z.1 b) ∙ ap (tree.More (tree_of f (all_fresh p) b)) (bases_fresh fs cs l y.1 h.1 y.3 (b + size f))
    bases_fresh fs cs l xs h e b = absurd (first_of (assumption, cc))

    fields_fresh : (fs : Forms) (xs : List Field) (l : ℕ) (ys : List Tree) → AreForms t fs (map (field_kind t) xs) → each (λ (f : Field). looked q t l (ask.OfType f.ty)) xs ≡ Some ys → (b : ℕ) → trees ys ≡ trees_of fs (all_fresh p) b
    fields_fresh End [] l ys h e b = ap trees (sym (some_inj [] ys e))
    fields_fresh (More f fs) (x ∷ xs) l ys h e b =
        let y = both-some (looked q t l (ask.OfType x.ty)) (each (λ (f : Field). looked q t l (ask.OfType f.ty)) xs) ys e in
        let z = looked_type q t l x.ty y.0 y.2 in
        let k : IsForm t f z.1.kind = subst (OfKind (IsForm t f)) (ap (option_map (λ (r : TypeRow). r.kind)) z.2) h.0 in
        ap trees (sym y.4) ∙ ap (λ w. tree.More w (trees y.1)) (fresh_is f z.1.kind z.0 y.0 k z.3 b) ∙ ap (tree.More (tree_of f (all_fresh p) b)) (fields_fresh fs xs l y.1 h.1 y.3 (b + size f))
    fields_fresh fs xs l ys h e b = absurd (first_of (assumption, cc))

  pub new_tree_is : (f : Form) (ty : TypeId) (l : ℕ) (x : Tree) → OfRow (IsForm t f) (slice_get t.rows ty.0) → looked q t l (ask.OfType ty) ≡ Some x → (b : ℕ) → x ≡ tree_of f (all_fresh p) b
  new_tree_is f ty l x h e b =
      let z = looked_type q t l ty x e in
      let r = row_known (IsForm t f) (slice_get t.rows ty.0) h in
      fresh_is f r.0.kind z.0 x r.2 (ap (λ (s : TypeRow). kind_answer q t (looked q t z.0) s.kind) (some_inj r.0 z.1 (sym r.1 ∙ z.2)) ∙ z.3) b

  pub new_row_is : (f : Form) (ty : TypeId) (n l : ℕ) (x : Tree) → OfRow (IsForm t f) (slice_get t.rows ty.0) → looked q t l (ask.OfType ty) ≡ Some x → (b : ℕ) → tree.Row (copies n x) ≡ tree_of (Row n f) (all_fresh p) b
  new_row_is f ty n l x h e b = ap tree.Row (copies_row n x (tree_of f (all_fresh p)) (size f) (b + 1) (λ a. new_tree_is f ty l x h e a))
