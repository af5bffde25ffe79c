-- A new tree of a type is that of the type's form.
use Rattle.std.proofs.Common.{◌≡◌, ℕ, zero, suc, true, false, List, [], ◌∷◌, map, Option, None, Some, sym, ap, ◌∙◌, slice_get}
use Rattle.std.specs.Prelude.{option_and_then}
use Rattle.cx_type_defs.specs.declared.ids.TypeId.{TypeId}
use Rattle.cx_type_defs.specs.declared.ids.ClassId.{ClassId}
use Rattle.cx_type_defs.specs.declared.kind.TypeRow.{TypeRow}
use Rattle.cx_type_defs.specs.declared.kind.TypeKind.{TypeKind}
use Rattle.cx_type_defs.specs.declared.kind.TypeKind.TheVariants as kind
use Rattle.cx_type_defs.specs.declared.decl.Field.{Field}
use Rattle.cx_type_defs.specs.declared.decl.ClassBody.{ClassBody}
use Rattle.cx_type_defs.specs.declared.decl.ClassDecl.{ClassDecl}
use Rattle.cx_type_defs.specs.declared.decl.ClassKey.{ClassKey}
use Rattle.cx_type_defs.specs.declared.decl.ClassKey.TheVariants as key
use Rattle.cx_type_defs.specs.Tables.{Tables}
use Rattle.cx_type_defs.specs.Questions.{Part, OfType, OfClass, each, body_answer, class_answer, address_answer, kind_answer, part_answer, looked, asked, most_levels, is_complete}
use Rattle.cx_type_defs.proofs.Lists.{both-some, joined-some, option_map-some, option_and_then-some}
use Rattle.cx_state.specs.declared.kind.Phase.{Phase}
use Rattle.cx_state.specs.Objects.{Tree, Trees, trees, copies}
use Rattle.cx_state.specs.Objects as tree
use Rattle.cx_state.specs.Steps.{blank, new_in, new_tree}
use Rattle.cx_state.specs.Counts.{whole_tree}
use Rattle.cx_state.proofs.Complete.{complete-tree}
use Rattle.cx_layout.specs.Forms.{Form, Forms, Leaf, Row, End}
use Rattle.cx_layout.specs.TypeForms.{each_form, member_parts, body_form, class_form, kind_form, part_form, form_in, object_of, object_form}
use Rattle.cx_layout.proofs.Options.{some_inj, map_some}
use Rattle.cx_layout.proofs.Laying.{both_some}
use Rattle.cx_layout.proofs.Forming.{with_some}
use Rattle.cx_slots.specs.Fresh.{fresh, all_fresh}

-- a pointer or reference, whatever it leads to
address_new : (p : Phase) (d : Option Tree) (k : TypeKind) (y : Tree) → address_answer (new_in p) d k ≡ Some y → y ≡ blank
address_new p d (kind.Class c) y e = sym (some_inj blank y e)
address_new p d kind.Void y e = sym (some_inj blank y e)
address_new p d kind.Nullptr y e = sym (some_inj blank y e)
address_new p d (kind.Int _) y e = sym (some_inj blank y e)
address_new p d (kind.Enum _) y e = sym (some_inj blank y e)
address_new p d (kind.Pointer _) y e = sym (some_inj blank y e)
address_new p d (kind.Reference _) y e = sym (some_inj blank y e)
address_new p d (kind.Array _ _) y e = sym (some_inj blank y e)

-- one level, where it is so of the parts
module _ (t : Tables) (p : Phase) (f : Part → Option Form) (c : Part → Option Tree) (same : (q : Part) (x : Form) (y : Tree) → f q ≡ Some x → c q ≡ Some y → y ≡ fresh p x) where
  abbrev Parts : List Tree → Forms → Type 0
  Parts ys fs = trees ys ≡ all_fresh p fs

  each_new : {A : Type 0} (g : A → Part) (xs : List A) (fs : Forms) (ys : List Tree) → each_form f (map g xs) ≡ Some fs → each (λ x. c (g x)) xs ≡ Some ys → Parts ys fs
  each_new g [] fs ys e h = ap trees (sym (some_inj [] ys h)) ∙ ap (all_fresh p) (some_inj End fs e)
  each_new g (x ∷ xs) fs ys e h =
      let a = both_some (f (g x)) (each_form f (map g xs)) fs e in
      let b = both-some (c (g x)) (each (λ x. c (g x)) xs) ys h in
      ap trees (sym b.4) ∙ ap (λ z. tree.More z (trees b.1)) (same (g x) a.0 b.0 a.2 b.2) ∙ ap (tree.More (fresh p a.0)) (each_new g xs a.1 b.1 a.3 b.3) ∙ ap (all_fresh p) a.4

  both_new : (b : ClassBody) (bs ms : Forms) (xs ys : List Tree) → each_form f (map OfClass b.bases) ≡ Some bs → each_form f (member_parts b) ≡ Some ms → each (λ q. c (OfClass q)) b.bases ≡ Some xs → each (λ (z : Field). c (OfType z.ty)) b.fields ≡ Some ys
      → tree.Class p (trees xs) (trees ys) ≡ tree.Class p (all_fresh p bs) (all_fresh p ms)
  both_new b bs ms xs ys e1 e2 h1 h2 = ap (λ z. tree.Class p z (trees ys)) (each_new OfClass b.bases bs xs e1 h1) ∙ ap (tree.Class p (all_fresh p bs)) (each_new (λ (z : Field). OfType z.ty) b.fields ms ys e2 h2)

  body_new : (i : ClassId) (k : ClassKey) (b : ClassBody) (x : Form) (y : Tree) → body_form f i k b ≡ Some x → body_answer (new_in p) c k b ≡ Some y → y ≡ fresh p x
  body_new i key.Union b x y e h =
      let a = with_some i true (Some End) (each_form f (member_parts b)) x e in
      let d = joined-some ((new_in p).of_class key.Union b.flags) (each (λ q. c (OfClass q)) b.bases) (each (λ (z : Field). c (OfType z.ty)) b.fields) y h in
      sym d.4 ∙ ap (fresh p) a.4
  body_new i key.Struct b x y e h =
      let a = with_some i false (each_form f (map OfClass b.bases)) (each_form f (member_parts b)) x e in
      let d = joined-some ((new_in p).of_class key.Struct b.flags) (each (λ q. c (OfClass q)) b.bases) (each (λ (z : Field). c (OfType z.ty)) b.fields) y h in
      sym d.4 ∙ both_new b a.0 a.1 d.0 d.1 a.2 a.3 d.2 d.3 ∙ ap (fresh p) a.4
  body_new i key.Class b x y e h =
      let a = with_some i false (each_form f (map OfClass b.bases)) (each_form f (member_parts b)) x e in
      let d = joined-some ((new_in p).of_class key.Class b.flags) (each (λ q. c (OfClass q)) b.bases) (each (λ (z : Field). c (OfType z.ty)) b.fields) y h in
      sym d.4 ∙ both_new b a.0 a.1 d.0 d.1 a.2 a.3 d.2 d.3 ∙ ap (fresh p) a.4

  decl_new : (i : ClassId) (d : Option ClassDecl) (x : Form) (y : Tree) → class_form f i d ≡ Some x → class_answer (new_in p) c d ≡ Some y → y ≡ fresh p x
  decl_new i None x y e h = absurd (cc)
  decl_new i (Some d) x y e h = go d.body e h
    where
      go : (b : Option ClassBody) → option_and_then (body_form f i d.key) b ≡ Some x → option_and_then (body_answer (new_in p) c d.key) b ≡ Some y → y ≡ fresh p x
      go None e h = absurd (cc)
      go (Some b) e h = body_new i d.key b x y e h

  kind_new : (k : TypeKind) (x : Form) (y : Tree) → kind_form t f k ≡ Some x → kind_answer (new_in p) t c k ≡ Some y → y ≡ fresh p x
  kind_new kind.Void x y e h = absurd (cc)
  kind_new kind.Nullptr x y e h = sym (some_inj blank y h) ∙ ap (fresh p) (some_inj Leaf x e)
  kind_new (kind.Int _) x y e h = sym (some_inj blank y h) ∙ ap (fresh p) (some_inj Leaf x e)
  kind_new (kind.Enum _) x y e h = sym (some_inj blank y h) ∙ ap (fresh p) (some_inj Leaf x e)
  kind_new (kind.Pointer to) x y e h =
      let m = option_and_then-some (λ (r : TypeRow). address_answer (new_in p) (c (OfType to)) r.kind) (slice_get t.rows to.0) y h in
      address_new p (c (OfType to)) m.0.kind y m.2 ∙ ap (fresh p) (some_inj Leaf x e)
  kind_new (kind.Reference to) x y e h =
      let m = option_and_then-some (λ (r : TypeRow). address_answer (new_in p) (c (OfType to)) r.kind) (slice_get t.rows to.0) y h in
      address_new p (c (OfType to)) m.0.kind y m.2 ∙ ap (fresh p) (some_inj Leaf x e)
  kind_new (kind.Array of n) x y e h =
      let a = map_some (Row n) (f (OfType of)) x e in
      let b = option_map-some ((new_in p).of_array n) (c (OfType of)) y h in
      sym b.2 ∙ ap (λ z. tree.Row (copies n z)) (same (OfType of) a.0 b.0 a.1 b.1) ∙ ap (fresh p) a.2
  kind_new (kind.Class i) x y e h = decl_new i (slice_get t.classes i.0) x y e h

  part_new : (q : Part) (x : Form) (y : Tree) → part_form t f q ≡ Some x → part_answer (new_in p) t c q ≡ Some y → y ≡ fresh p x
  part_new (OfType id) x y e h = go (slice_get t.rows id.0) e h
    where
      go : (o : Option TypeRow) → option_and_then (λ (r : TypeRow). kind_form t f r.kind) o ≡ Some x → option_and_then (λ (r : TypeRow). kind_answer (new_in p) t c r.kind) o ≡ Some y → y ≡ fresh p x
      go None e h = absurd (cc)
      go (Some r) e h = kind_new r.kind x y e h
  part_new (OfClass i) x y e h = decl_new i (slice_get t.classes i.0) x y e h

looked_new : (t : Tables) (p : Phase) (l : ℕ) (q : Part) (x : Form) (y : Tree) → form_in t l q ≡ Some x → looked (new_in p) t l q ≡ Some y → y ≡ fresh p x
unfolding form_in looked
looked_new t p zero q x y e h = absurd (cc)
looked_new t p (suc l) q x y e h = part_new t p (form_in t l) (looked (new_in p) t l) (looked_new t p l) q x y e h

pub type_new : (t : Tables) (p : Phase) (ty : TypeId) (x : Form) → is_complete t ty ≡ true → form_in t most_levels (OfType ty) ≡ Some x → new_tree t p ty ≡ fresh p x
unfolding asked
type_new t p ty x h e = looked_new t p most_levels (OfType ty) x (new_tree t p ty) e (complete-tree t p ty h)

pub object_new : (t : Tables) (p : Phase) (ty : TypeId) (n : Option ℕ) (x : Form) → is_complete t ty ≡ true → object_form t ty n ≡ Some x → whole_tree n (new_tree t p ty) ≡ fresh p x
unfolding object_form
object_new t p ty None x h e = let a = map_some (object_of None) (form_in t most_levels (OfType ty)) x e in type_new t p ty a.0 h a.1 ∙ ap (fresh p) a.2
object_new t p ty (Some n) x h e = let a = map_some (object_of (Some n)) (form_in t most_levels (OfType ty)) x e in ap (λ z. tree.Row (copies n z)) (type_new t p ty a.0 h a.1) ∙ ap (fresh p) a.2
