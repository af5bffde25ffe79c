-- A complete type of sound tables has a form, small enough and with no empty array in it, and the form stays.
use Rattle.std.proofs.Common.{◌≡◌, ℕ, zero, suc, ◌-◌, ◌≤◌, Bool, true, false, List, [], ◌∷◌, map, Option, None, Some, refl, sym, ap, subst, ◌∙◌, arith, slice_get, if◌then◌else◌}
use Rattle.std.specs.Prelude.{option_map, option_and_then, is_some, unwrap_or}
use Rattle.cx_type_defs.specs.declared.ids.TypeId.{TypeId}
use Rattle.cx_type_defs.specs.declared.ids.ClassId.{ClassId}
use Rattle.cx_type_defs.specs.declared.kind.TypeRow.{TypeRow}
use Rattle.cx_type_defs.specs.declared.kind.TypeKind.{TypeKind}
use Rattle.cx_type_defs.specs.declared.kind.TypeKind.TheVariants as kind
use Rattle.cx_type_defs.specs.declared.decl.Field.{Field}
use Rattle.cx_type_defs.specs.declared.decl.Extent.{Extent}
use Rattle.cx_type_defs.specs.declared.decl.ClassBody.{ClassBody}
use Rattle.cx_type_defs.specs.declared.decl.ClassDecl.{ClassDecl}
use Rattle.cx_type_defs.specs.declared.decl.ClassKey.{ClassKey}
use Rattle.cx_type_defs.specs.Tables.{Tables, IsKnown}
use Rattle.cx_type_defs.specs.Questions.{Part, OfType, OfClass, each, body_answer, class_answer, kind_answer, part_answer, looked, asked, most_levels, cells_of, nodes_of, extent_of, is_complete}
use Rattle.cx_type_defs.specs.Sound.{Sound, HasBody}
use Rattle.cx_type_defs.proofs.Lists.{both-some, joined-some, option_map-some, option_and_then-some}
use Rattle.cx_layout.specs.Forms.{Form, Forms, Leaf, Row, Class, End, More, nodes, cells, Full, AllFull}
use Rattle.cx_layout.specs.TypeForms.{both, each_form, is_union, base_parts, member_parts, with_parts, body_form, class_form, kind_form, part_form, form_in}
use Rattle.cx_layout.proofs.Options.{some_inj, some_of, and_then_some, map_some}
use Rattle.cx_layout.proofs.Laying.{both_some}
use Rattle.cx_layout.proofs.Forming.{with_some, form_type, form_levels, class_told, told_body}
use Rattle.cx_layout.proofs.Measures.{few}

-- what has an extent, or is known to have none, has a form

module _ (t : Tables) (f : Part → Option Form) (e : Part → Option (Option Extent)) (has : (p : Part) (x : Option Extent) → e p ≡ Some x → (y : Form) × (f p ≡ Some y)) where
  each_has : {A : Type 0} (g : A → Part) (xs : List A) (ys : List (Option Extent)) → each (λ x. e (g x)) xs ≡ Some ys → (fs : Forms) × (each_form f (map g xs) ≡ Some fs)
  each_has g [] ys h = (End, refl)
  each_has g (x ∷ xs) ys h =
      let a = both-some (e (g x)) (each (λ x. e (g x)) xs) ys h in
      let b = has (g x) a.0 a.2 in
      let c = each_has g xs a.1 a.3 in
      (More b.0 c.0, ap (λ o. both o (each_form f (map g xs))) b.1 ∙ ap (both (Some b.0)) c.1)

  bases_have : (u : Bool) (xs : List ClassId) (ys : List (Option Extent)) → each (λ c. e (OfClass c)) xs ≡ Some ys → (fs : Forms) × (each_form f (if u then [] else map OfClass xs) ≡ Some fs)
  bases_have true xs ys h = (End, refl)
  bases_have false xs ys h = each_has OfClass xs ys h

  body_has : (i : ClassId) (k : ClassKey) (b : ClassBody) (x : Option Extent) → body_answer extent_of e k b ≡ Some x → (y : Form) × (body_form f i k b ≡ Some y)
  body_has i k b x h =
      let d = joined-some (extent_of.of_class k b.flags) (each (λ c. e (OfClass c)) b.bases) (each (λ (f : Field). e (OfType f.ty)) b.fields) x h in
      let bs = bases_have (is_union k) b.bases d.0 d.2 in
      let ms = each_has (λ (f : Field). OfType f.ty) b.fields d.1 d.3 in
      (Class i (is_union k) bs.0 ms.0, ap (λ o. with_parts i (is_union k) o (each_form f (member_parts b))) bs.1 ∙ ap (with_parts i (is_union k) (Some bs.0)) ms.1)

  class_has : (i : ClassId) (o : Option ClassDecl) (x : Option Extent) → class_answer extent_of e o ≡ Some x → (y : Form) × (class_form f i o ≡ Some y)
  class_has i None x h = absurd (cc)
  class_has i (Some d) x h =
      let a = option_and_then-some (body_answer extent_of e d.key) d.body x h in
      let b = body_has i d.key a.0 x a.2 in
      (b.0, ap (option_and_then (body_form f i d.key)) a.1 ∙ b.1)

  kind_has : (k : TypeKind) (x : Option Extent) → kind_answer extent_of t e k ≡ Some x → (y : Form) × (kind_form t f k ≡ Some y)
  kind_has kind.Void x h = absurd (cc)
  kind_has kind.Nullptr x h = (Leaf, refl)
  kind_has (kind.Int _) x h = (Leaf, refl)
  kind_has (kind.Enum _) x h = (Leaf, refl)
  kind_has (kind.Pointer to) x h = (Leaf, refl)
  kind_has (kind.Reference to) x h = (Leaf, refl)
  kind_has (kind.Array of n) x h =
      let a = option_map-some (extent_of.of_array n) (e (OfType of)) x h in
      let b = has (OfType of) a.0 a.1 in
      (Row n b.0, ap (option_map (Row n)) b.1)
  kind_has (kind.Class i) x h = class_has i (slice_get t.classes i.0) x h

  part_has : (p : Part) (x : Option Extent) → part_answer extent_of t e p ≡ Some x → (y : Form) × (part_form t f p ≡ Some y)
  part_has (OfType id) x h =
      let a = option_and_then-some (λ (r : TypeRow). kind_answer extent_of t e r.kind) (slice_get t.rows id.0) x h in
      let b = kind_has a.0.kind x a.2 in
      (b.0, ap (option_and_then (λ (r : TypeRow). kind_form t f r.kind)) a.1 ∙ b.1)
  part_has (OfClass i) x h = class_has i (slice_get t.classes i.0) x h

has_form : (t : Tables) (l : ℕ) (p : Part) (x : Option Extent) → looked extent_of t l p ≡ Some x → (y : Form) × (form_in t l p ≡ Some y)
unfolding looked form_in
has_form t zero p x h = absurd (cc)
has_form t (suc l) p x h = part_has t (form_in t l) (looked extent_of t l) (has_form t l) p x h

-- no array in it is empty

module _ (t : Tables) (known : (i : ℕ) (r : TypeRow) → slice_get t.rows i ≡ Some r → IsKnown t r.kind) (f : Part → Option Form) (full : (p : Part) (x : Form) → f p ≡ Some x → Full x) where
  each_full : (ps : List Part) (fs : Forms) → each_form f ps ≡ Some fs → AllFull fs
  each_full [] fs e = subst AllFull (some_inj End fs e) tt
  each_full (p ∷ ps) fs e =
      let a = both_some (f p) (each_form f ps) fs e in
      subst AllFull a.4 (full p a.0 a.2, each_full ps a.1 a.3)

  class_full : (i : ClassId) (o : Option ClassDecl) (x : Form) → class_form f i o ≡ Some x → Full x
  class_full i o x e =
      let a = and_then_some (λ (d : ClassDecl). option_and_then (body_form f i d.key) d.body) o x e in
      let b = and_then_some (body_form f i a.0.key) a.0.body x a.2 in
      let c = with_some i (is_union a.0.key) (each_form f (base_parts a.0.key b.0)) (each_form f (member_parts b.0)) x b.2 in
      subst Full c.4 (each_full (base_parts a.0.key b.0) c.0 c.2, each_full (member_parts b.0) c.1 c.3)

  kind_full : (k : TypeKind) (x : Form) → IsKnown t k → kind_form t f k ≡ Some x → Full x
  kind_full kind.Void x h e = absurd (cc)
  kind_full kind.Nullptr x h e = subst Full (some_inj Leaf x e) tt
  kind_full (kind.Int _) x h e = subst Full (some_inj Leaf x e) tt
  kind_full (kind.Enum _) x h e = subst Full (some_inj Leaf x e) tt
  kind_full (kind.Pointer _) x h e = subst Full (some_inj Leaf x e) tt
  kind_full (kind.Reference _) x h e = subst Full (some_inj Leaf x e) tt
  kind_full (kind.Array of n) x h e =
      let a = map_some (Row n) (f (OfType of)) x e in
      subst Full a.2 (h.1, full (OfType of) a.0 a.1)
  kind_full (kind.Class i) x h e = class_full i (slice_get t.classes i.0) x e

  part_full : (p : Part) (x : Form) → part_form t f p ≡ Some x → Full x
  part_full (OfType id) x e =
      let a = and_then_some (λ (r : TypeRow). kind_form t f r.kind) (slice_get t.rows id.0) x e in
      kind_full a.0.kind x (known id.0 a.0 a.1) a.2
  part_full (OfClass i) x e = class_full i (slice_get t.classes i.0) x e

form_full : (t : Tables) (known : (i : ℕ) (r : TypeRow) → slice_get t.rows i ≡ Some r → IsKnown t r.kind) (l : ℕ) (p : Part) (x : Form) → form_in t l p ≡ Some x → Full x
unfolding form_in
form_full t known zero p x e = absurd (cc)
form_full t known (suc l) p x e = part_full t known (form_in t l) (form_full t known l) p x e

-- what is told of a complete type

pub record FormTold (t : Tables) (ty : TypeId) : Type 0 where
  pub form : Form
  pub is_form : form_in t most_levels (OfType ty) ≡ Some form
  pub full : Full form
  pub few_cells : cells form ≤ unwrap_or (asked cells_of t (OfType ty)) 0
  pub most_cells : cells form ≤ 1073741824
  pub few_nodes : nodes form ≤ 1048576

has_body : (t : Tables) (l : ℕ) (k : TypeKind) (f : Form) → kind_form t (form_in t l) k ≡ Some f → HasBody t k
has_body t l kind.Void f e = tt
has_body t l kind.Nullptr f e = tt
has_body t l (kind.Int _) f e = tt
has_body t l (kind.Enum _) f e = tt
has_body t l (kind.Pointer _) f e = tt
has_body t l (kind.Reference _) f e = tt
has_body t l (kind.Array _ _) f e = tt
has_body t l (kind.Class c) f e = ap is_some (told_body t l c f (class_told t l c f e))

pub form_told : (t : Tables) (ty : TypeId) → Sound t → is_complete t ty ≡ true → FormTold t ty
unfolding asked
form_told t ty s h =
    let x = some_of (asked extent_of t (OfType ty)) h in
    let f = has_form t most_levels (OfType ty) x.0 x.1 in
    let l = form_levels t most_levels (OfType ty) f.0 f.1 in
    let r = and_then_some (λ (r : TypeRow). kind_form t (form_in t (most_levels - 1)) r.kind) (slice_get t.rows ty.0) f.0 (sym (form_type t most_levels ty l) ∙ f.1) in
    let m = s.types_measured ty r.0 r.1 (has_body t (most_levels - 1) r.0.kind f.0 r.2) in
    let c = some_of (asked cells_of t (OfType ty)) m.cells_known in
    let n = some_of (asked nodes_of t (OfType ty)) m.nodes_known in
    let small = few t most_levels (OfType ty) f.0 f.1 in
    let c1 = small.0 c.0 c.1 in
    let n1 = small.1 n.0 n.1 in
    let c2 = s.few_cells (OfType ty) c.0 c.1 in
    let n2 = s.few_nodes (OfType ty) n.0 n.1 in
    record {
      form = f.0;
      is_form = f.1;
      full = form_full t s.rows_known most_levels (OfType ty) f.0 f.1;
      few_cells = subst (λ (o : Option ℕ). cells f.0 ≤ unwrap_or o 0) (sym c.1) c1;
      most_cells = omega arith;
      few_nodes = omega arith;
    }
