-- The forms of scalars, classes and unions.
use Rattle.std.proofs.Common.{◌≡◌, ℕ, Bool, true, false, not, List, [], ◌∷◌, map, Option, None, Some, refl, sym, ap, subst, ◌∙◌, slice_get, if◌then◌else◌}
use Rattle.std.specs.Prelude.{option_map, option_and_then, unwrap_or}
use Rattle.cx_type_defs.specs.declared.ids.ClassId.{ClassId}
use Rattle.cx_type_defs.specs.declared.ids.Step.{Step}
use Rattle.cx_type_defs.specs.declared.ids.Step.TheVariants as step
use Rattle.cx_type_defs.specs.declared.kind.TypeRow.{TypeRow}
use Rattle.cx_type_defs.specs.declared.kind.TypeKind.{TypeKind}
use Rattle.cx_type_defs.specs.declared.kind.TypeKind.TheVariants as kind
use Rattle.cx_type_defs.specs.declared.decl.ClassDecl.{ClassDecl}
use Rattle.cx_type_defs.specs.declared.decl.ClassBody.{ClassBody}
use Rattle.cx_type_defs.specs.declared.decl.ClassKey.{ClassKey}
use Rattle.cx_type_defs.specs.declared.decl.ClassKey.TheVariants as key
use Rattle.cx_type_defs.specs.Tables.{Tables}
use Rattle.cx_type_defs.specs.Questions.{OfClass}
use Rattle.cx_type_defs.specs.Sound.{Sound}
use Rattle.cx_state.specs.Pointers.{is_union_key, is_union_kind}
use Rattle.cx_state.specs.Forms.{HoldsValue}
use Rattle.cx_store.specs.Stores.{is_class_kind}
use Rattle.cx_layout.specs.Forms.{Form, Forms, Leaf, Row, Class, End}
use Rattle.cx_layout.specs.TypeForms.{is_union, base_parts, member_parts, each_form, body_form, class_form, kind_form, form_in}
use Rattle.cx_layout.proofs.Options.{some_inj, and_then_some}
use Rattle.cx_layout.proofs.Forming.{with_some}
use Rattle.cx_layout.proofs.Agreeing.{Has}

module _ (t : Tables) (sound : Sound t) where
  pub leaf_form : (k : TypeKind) (g : Form) → HoldsValue k → Has t sound k g → g ≡ Leaf
  leaf_form kind.Nullptr g v h = sym (some_inj Leaf g h.1)
  leaf_form (kind.Int x) g v h = sym (some_inj Leaf g h.1)
  leaf_form (kind.Enum x) g v h = sym (some_inj Leaf g h.1)
  leaf_form (kind.Pointer x) g v h = sym (some_inj Leaf g h.1)
  leaf_form (kind.Reference x) g v h = sym (some_inj Leaf g h.1)
  leaf_form kind.Void g v h = absurd v
  leaf_form (kind.Array of n) g v h = absurd v
  leaf_form (kind.Class c) g v h = absurd v

  -- a class by its declaration
  pub record ClassHas (c : ClassId) (g : Form) (m : ℕ) : Type 0 where
    pub decl : ClassDecl
    pub is_decl : slice_get t.classes c.0 ≡ Some decl
    pub body : ClassBody
    pub is_body : decl.body ≡ Some body
    pub bases : Forms
    pub members : Forms
    pub has_bases : each_form (form_in t m) (base_parts decl.key body) ≡ Some bases
    pub has_members : each_form (form_in t m) (member_parts body) ≡ Some members
    pub form : Class c (is_union decl.key) bases members ≡ g

  pub class_has : (c : ClassId) (g : Form) → (h : Has t sound (kind.Class c) g) → ClassHas c g h.0
  class_has c g h =
      let a = and_then_some (λ (d : ClassDecl). option_and_then (body_form (form_in t h.0) c d.key) d.body) (slice_get t.classes c.0) g h.1 in
      let b = and_then_some (body_form (form_in t h.0) c a.0.key) a.0.body g a.2 in
      let w = with_some c (is_union a.0.key) (each_form (form_in t h.0) (base_parts a.0.key b.0)) (each_form (form_in t h.0) (member_parts b.0)) g b.2 in
      record { decl = a.0; is_decl = a.1; body = b.0; is_body = b.1; bases = w.0; members = w.1; has_bases = w.2; has_members = w.3; form = w.4 }

  same_key : (k : ClassKey) → is_union k ≡ is_union_key k
  same_key key.Union = refl
  same_key key.Class = refl
  same_key key.Struct = refl

  of_decl : (test : ClassDecl → Bool) (o : Option ClassDecl) (d : ClassDecl) → o ≡ Some d → unwrap_or (option_map test o) false ≡ true → test d ≡ true
  of_decl test o d e h = ap (λ x. unwrap_or (option_map test x) false) (sym e) ∙ h

  flip : (b : Bool) → not b ≡ true → b ≡ false
  flip true e = absurd (cc)
  flip false e = refl

  pub plain_class : (k : TypeKind) (g : Form) → is_class_kind t k ≡ true → Has t sound k g → (c : ClassId) × (bs : Forms) × (ms : Forms) × (g ≡ Class c false bs ms)
  plain_class (kind.Class c) g e h =
      let w = class_has c g h in
      let u : is_union w.decl.key ≡ false = same_key w.decl.key ∙ flip (is_union_key w.decl.key) (of_decl (λ (d : ClassDecl). not (is_union_key d.key)) (slice_get t.classes c.0) w.decl w.is_decl e) in
      (c, w.bases, w.members, sym w.form ∙ ap (λ b. Class c b w.bases w.members) u)
  plain_class kind.Void g e h = absurd (cc)
  plain_class kind.Nullptr g e h = absurd (cc)
  plain_class (kind.Int x) g e h = absurd (cc)
  plain_class (kind.Enum x) g e h = absurd (cc)
  plain_class (kind.Pointer x) g e h = absurd (cc)
  plain_class (kind.Reference x) g e h = absurd (cc)
  plain_class (kind.Array of n) g e h = absurd (cc)

  pub union_class : (k : TypeKind) (g : Form) → is_union_kind t k ≡ true → Has t sound k g → (c : ClassId) × (ms : Forms) × (k ≡ kind.Class c) × (g ≡ Class c true End ms)
  union_class (kind.Class c) g e h =
      let w = class_has c g h in
      let u : is_union w.decl.key ≡ true = same_key w.decl.key ∙ of_decl (λ (d : ClassDecl). is_union_key d.key) (slice_get t.classes c.0) w.decl w.is_decl e in
      let none : Some End ≡ Some w.bases = sym (ap (λ b. each_form (form_in t h.0) (if b then [] else map OfClass w.body.bases)) u) ∙ w.has_bases in
      (c, w.members, refl, sym w.form ∙ ap (λ b. Class c b w.bases w.members) u ∙ ap (λ bs. Class c true bs w.members) (sym (some_inj End w.bases none)))
  union_class kind.Void g e h = absurd (cc)
  union_class kind.Nullptr g e h = absurd (cc)
  union_class (kind.Int x) g e h = absurd (cc)
  union_class (kind.Enum x) g e h = absurd (cc)
  union_class (kind.Pointer x) g e h = absurd (cc)
  union_class (kind.Reference x) g e h = absurd (cc)
  union_class (kind.Array of n) g e h = absurd (cc)
