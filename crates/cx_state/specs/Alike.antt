-- When two types are the same, const at any level aside ([basic.compound], [conv.qual]).
use Rattle.std.specs.Prelude.{◌≡◌, ℕ, Some, slice_get}
use Rattle.cx_type_defs.specs.declared.ids.TypeId.{TypeId}
use Rattle.cx_type_defs.specs.declared.kind.TypeRow.{TypeRow}
use Rattle.cx_type_defs.specs.declared.kind.TypeKind.{TypeKind}
use Rattle.cx_type_defs.specs.declared.kind.TypeKind.TheVariants as kind
use Rattle.cx_type_defs.specs.Tables.{Tables}

-- a type as one writes it out without const, in place of the numbers of its parts
pub data Plain : Type 0 where
  Itself : TypeKind → Plain
  PointerTo : Plain → Plain
  ReferenceTo : Plain → Plain
  ArrayOf : Plain → ℕ → Plain

-- it is made of no other type, or is a class
abbrev pub IsSimple : TypeKind → Type 0
IsSimple (kind.Pointer to) = ⊥
IsSimple (kind.Reference to) = ⊥
IsSimple (kind.Array of n) = ⊥
IsSimple _ = Unit {0}

-- it is made of a type that has the property
pub record IsMadeOf (t : Tables) (make : TypeId → TypeKind) (P : TypeKind → Type 0) (k : TypeKind) : Type 0 where
  pub part : TypeId
  pub is_made : k ≡ make part
  pub row : TypeRow
  pub is_row : slice_get t.rows part.0 ≡ Some row
  pub part_is : P row.kind

-- written out it is so
abbrev pub Is : Tables → TypeKind → Plain → Type 0
Is t k (Itself l) = IsSimple l × (k ≡ l)
Is t k (PointerTo p) = IsMadeOf t kind.Pointer (λ q. Is t q p) k
Is t k (ReferenceTo p) = IsMadeOf t kind.Reference (λ q. Is t q p) k
Is t k (ArrayOf p n) = IsMadeOf t (λ of. kind.Array of n) (λ q. Is t q p) k

-- the same type, const at any level aside
pub record Alike (t : Tables) (a b : TypeKind) : Type 0 where
  pub plain : Plain
  pub left : Is t a plain
  pub right : Is t b plain
