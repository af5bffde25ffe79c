-- The form of a type stays where the tables grow.
use Rattle.std.proofs.Common.{◌≡◌, ℕ, zero, suc, List, [], ◌∷◌, Option, Some, ap, ◌∙◌, slice_get}
use Rattle.std.specs.Prelude.{option_map, option_and_then}
use Rattle.cx_type_defs.specs.declared.ids.TypeId.{TypeId}
use Rattle.cx_type_defs.specs.declared.ids.ClassId.{ClassId}
use Rattle.cx_type_defs.specs.declared.kind.TypeRow.{TypeRow}
use Rattle.cx_type_defs.specs.declared.kind.TypeKind.{TypeKind}
use Rattle.cx_type_defs.specs.declared.kind.TypeKind.TheVariants as kind
use Rattle.cx_type_defs.specs.declared.decl.ClassDecl.{ClassDecl}
use Rattle.cx_type_defs.specs.Tables.{Tables, Grows, ClassGrows}
use Rattle.cx_type_defs.specs.Questions.{Part, OfType, OfClass, most_levels}
use Rattle.cx_type_defs.proofs.Lists.{Along-at}
use Rattle.cx_type_defs.proofs.Looking.{Stays-some, row-grows}
use Rattle.cx_layout.specs.declared.columns.Descriptor.{Descriptor}
use Rattle.cx_layout.specs.Forms.{Form, Forms, Row}
use Rattle.cx_layout.specs.TypeForms.{both, each_form, is_union, base_parts, member_parts, with_parts, body_form, class_form, kind_form, part_form, form_in, object_of, object_form}
use Rattle.cx_layout.specs.Described.{AreOf}
use Rattle.cx_layout.proofs.Options.{and_then_some, map_some}
use Rattle.cx_layout.proofs.Laying.{both_some}
use Rattle.cx_layout.proofs.Forming.{with_some}

module _ (t u : Tables) (grows : Grows t u) (f g : Part → Option Form) (keep : (p : Part) (x : Form) → f p ≡ Some x → g p ≡ Some x) where
  each_keep : (ps : List Part) (fs : Forms) → each_form f ps ≡ Some fs → each_form g ps ≡ Some fs
  each_keep [] fs e = e
  each_keep (p ∷ ps) fs e =
      let a = both_some (f p) (each_form f ps) fs e in
      ap (λ o. both o (each_form g ps)) (keep p a.0 a.2) ∙ ap (both (Some a.0)) (each_keep ps a.1 a.3) ∙ ap Some a.4

  class_keep : (i : ClassId) (x : Form) → class_form f i (slice_get t.classes i.0) ≡ Some x → class_form g i (slice_get u.classes i.0) ≡ Some x
  class_keep i x e =
      let a = and_then_some (λ (d : ClassDecl). option_and_then (body_form f i d.key) d.body) (slice_get t.classes i.0) x e in
      let b = and_then_some (body_form f i a.0.key) a.0.body x a.2 in
      let c = with_some i (is_union a.0.key) (each_form f (base_parts a.0.key b.0)) (each_form f (member_parts b.0)) x b.2 in
      let d = Along-at ClassGrows t.classes u.classes grows.class_list i.0 a.0 a.1 in
      ap (class_form g i) d.1
      ∙ ap (option_and_then (body_form g i d.0.key)) (Stays-some a.0.body d.0.body b.0 d.2.body_stays b.1)
      ∙ ap (λ k. body_form g i k b.0) d.2.same_key
      ∙ ap (λ o. with_parts i (is_union a.0.key) o (each_form g (member_parts b.0))) (each_keep (base_parts a.0.key b.0) c.0 c.2)
      ∙ ap (with_parts i (is_union a.0.key) (Some c.0)) (each_keep (member_parts b.0) c.1 c.3)
      ∙ ap Some c.4

  kind_keep : (k : TypeKind) (x : Form) → kind_form t f k ≡ Some x → kind_form u g k ≡ Some x
  kind_keep kind.Void x e = e
  kind_keep kind.Nullptr x e = e
  kind_keep (kind.Int _) x e = e
  kind_keep (kind.Enum _) x e = e
  kind_keep (kind.Pointer _) x e = e
  kind_keep (kind.Reference _) x e = e
  kind_keep (kind.Array of n) x e = let a = map_some (Row n) (f (OfType of)) x e in ap (option_map (Row n)) (keep (OfType of) a.0 a.1) ∙ ap Some a.2
  kind_keep (kind.Class i) x e = class_keep i x e

  part_keep : (p : Part) (x : Form) → part_form t f p ≡ Some x → part_form u g p ≡ Some x
  part_keep (OfType id) x e =
      let a = and_then_some (λ (r : TypeRow). kind_form t f r.kind) (slice_get t.rows id.0) x e in
      ap (option_and_then (λ (r : TypeRow). kind_form u g r.kind)) (row-grows t u grows id.0 a.0 a.1) ∙ kind_keep a.0.kind x a.2
  part_keep (OfClass i) x e = class_keep i x e

form_keep : (t u : Tables) → Grows t u → (l : ℕ) (p : Part) (x : Form) → form_in t l p ≡ Some x → form_in u l p ≡ Some x
unfolding form_in
form_keep t u grows zero p x e = e
form_keep t u grows (suc l) p x e = part_keep t u grows (form_in t l) (form_in u l) (form_keep t u grows l) p x e

pub object_keep : (t u : Tables) → Grows t u → (ty : TypeId) (n : Option ℕ) (x : Form) → object_form t ty n ≡ Some x → object_form u ty n ≡ Some x
unfolding object_form
object_keep t u grows ty n x e =
    let a = map_some (object_of n) (form_in t most_levels (OfType ty)) x e in
    ap (option_map (object_of n)) (form_keep t u grows most_levels (OfType ty) a.0 a.1) ∙ ap Some a.2

pub are_of_grow : (t u : Tables) → Grows t u → (ds : List Descriptor) → AreOf t ds → AreOf u ds
are_of_grow t u grows [] h = tt
are_of_grow t u grows (d ∷ ds) h = (object_keep t u grows d.ty d.length _ h.0, are_of_grow t u grows ds h.1)
