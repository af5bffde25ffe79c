-- That a form is that of a type ([basic.types], [class.mem], [dcl.array]).
use Rattle.std.specs.Prelude.{◌≡◌, ℕ, true, false, List, [], ◌∷◌, map, Option, None, Some, slice_get, option_map, is_some}
use Rattle.cx_type_defs.specs.declared.ids.ClassId.{ClassId}
use Rattle.cx_type_defs.specs.declared.kind.TypeRow.{TypeRow}
use Rattle.cx_type_defs.specs.declared.kind.TypeKind.{TypeKind}
use Rattle.cx_type_defs.specs.declared.kind.TypeKind.TheVariants as kind
use Rattle.cx_type_defs.specs.declared.decl.Field.{Field}
use Rattle.cx_type_defs.specs.declared.decl.ClassBody.{ClassBody}
use Rattle.cx_type_defs.specs.declared.decl.ClassDecl.{ClassDecl}
use Rattle.cx_type_defs.specs.declared.decl.ClassKey.{ClassKey}
use Rattle.cx_type_defs.specs.Tables.{Tables}
use Rattle.cx_type_defs.specs.Questions.{Part, looked, cells_of}
use Rattle.cx_state.specs.Pointers.{is_union_key}
use Rattle.cx_shapes.specs.Forms.{Form, Forms, Leaf, Row, Class, Union, End, More}

abbrev pub HasNoParts : TypeKind → Type 0
HasNoParts (kind.Array of n) = ⊥
HasNoParts (kind.Class c) = ⊥
HasNoParts _ = Unit {0}

-- of what the bases and members are
abbrev pub base_kinds : ClassBody → List (Option TypeKind)
base_kinds b = map (λ (c : ClassId). Some (kind.Class c)) b.bases

abbrev pub field_kind : Tables → Field → Option TypeKind
field_kind t f = option_map (λ (r : TypeRow). r.kind) (slice_get t.rows f.ty.0)

abbrev pub field_kinds : Tables → ClassBody → List (Option TypeKind)
field_kinds t b = map (field_kind t) b.fields

abbrev pub OfKind : (TypeKind → Type 0) → Option TypeKind → Type 0
OfKind P None = ⊥
OfKind P (Some k) = P k

abbrev pub OfRow : (TypeKind → Type 0) → Option TypeRow → Type 0
OfRow P None = ⊥
OfRow P (Some r) = P r.kind

abbrev pub OfBody : (ClassBody → Type 0) → Option ClassBody → Type 0
OfBody P None = ⊥
OfBody P (Some b) = P b

-- a complete class of which this is so
abbrev pub OfClass : (ClassKey → ClassBody → Type 0) → Option ClassDecl → Type 0
OfClass P None = ⊥
OfClass P (Some d) = OfBody (P d.key) d.body

abbrev mutual
  pub IsForm : Tables → Form → TypeKind → Type 0
  IsForm t Leaf k = HasNoParts k
  IsForm t (Row n f) (kind.Array of m) = (m ≡ n) × OfRow (IsForm t f) (slice_get t.rows of.0)
  IsForm t (Class bs ms) (kind.Class c) = OfClass (λ k b. (is_union_key k ≡ false) × AreForms t bs (base_kinds b) × AreForms t ms (field_kinds t b)) (slice_get t.classes c.0)
  IsForm t (Union ms) (kind.Class c) = OfClass (λ k b. (is_union_key k ≡ true) × (b.bases ≡ []) × AreForms t ms (field_kinds t b)) (slice_get t.classes c.0)
  IsForm t f k = ⊥

  pub AreForms : Tables → Forms → List (Option TypeKind) → Type 0
  AreForms t End [] = Unit {0}
  AreForms t (More f fs) (k ∷ ks) = OfKind (IsForm t f) k × AreForms t fs ks
  AreForms t fs ks = ⊥

-- its cells are told within so many levels, so it is complete
abbrev pub IsTold : Tables → ℕ → Part → Type 0
IsTold t n p = is_some (looked cells_of t n p) ≡ true
