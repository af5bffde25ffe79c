-- What holds of the tables whatever was put into them: what they name is known and was there before, no type stands in
-- them twice, and what they measure is within the limits.
use Rattle.std.specs.Prelude.{◌≡◌, ℕ, ◌<◌, ◌≤◌, ◌^◌, Some, IsSome, length, slice_get}
use Rattle.cx_type_defs.specs.declared.ids.TypeId.{TypeId}
use Rattle.cx_type_defs.specs.declared.ids.ClassId.{ClassId}
use Rattle.cx_type_defs.specs.declared.kind.TypeRow.{TypeRow}
use Rattle.cx_type_defs.specs.declared.kind.TypeKind.{TypeKind}
use Rattle.cx_type_defs.specs.declared.kind.TypeKind.TheVariants as kind
use Rattle.cx_type_defs.specs.declared.decl.ClassBody.{ClassBody}
use Rattle.cx_type_defs.specs.declared.decl.Field.{Field}
use Rattle.cx_type_defs.specs.declared.decl.ClassDecl.{ClassDecl}
use Rattle.cx_type_defs.specs.declared.decl.EnumDecl.{EnumDecl}
use Rattle.cx_type_defs.specs.declared.decl.EnumEnd.{EnumEnd}
use Rattle.cx_type_defs.specs.declared.ids.EnumId.{EnumId}
use Rattle.cx_type_defs.specs.Tables.{Tables, IsKnown, body_at}
use Rattle.cx_type_defs.specs.Questions.{Part, OfType, OfClass, asked, depth_of, cells_of, nodes_of, literal_of, extent_of}
use Rattle.cx_type_defs.specs.Levels.{part_of}
use Rattle.cx_type_defs.specs.Slots.{base_slots}
use Rattle.cx_type_defs.specs.Same.{AreNormal}
use Rattle.cx_type_defs.specs.Bodies.{IsFit}
use Rattle.cx_type_defs.specs.Enums.{IsFixedIfScoped, IsUnder}

-- each question but that for the extent has an answer
pub record IsMeasured (t : Tables) (p : Part) : Type 0 where
  pub levels_known : IsSome (asked depth_of t p)
  pub cells_known : IsSome (asked cells_of t p)
  pub nodes_known : IsSome (asked nodes_of t p)
  pub literal_known : IsSome (asked literal_of t p)

-- a type is an incomplete class only where the class has no body
abbrev pub HasBody : Tables → TypeKind → Type 0
HasBody t (kind.Class c) = IsSome (body_at t c)
HasBody t _ = Unit {0}

pub record Sound (t : Tables) : Type 0 where
  -- what a type names is of the tables, and an array has an element
  pub rows_known : (i : ℕ) (r : TypeRow) → slice_get t.rows i ≡ Some r → IsKnown t r.kind
  -- what a type leads to or consists of was there before it
  pub parts_older : (i : ℕ) (r : TypeRow) (part : TypeId) → slice_get t.rows i ≡ Some r → part_of r.kind ≡ Some part → part.0 < i
  -- a type has one number
  pub one_id : (i j : ℕ) (r : TypeRow) → slice_get t.rows i ≡ Some r → slice_get t.rows j ≡ Some r → i ≡ j
  -- and is written in one way
  pub rows_normal : AreNormal t
  -- the bases of a complete class are classes of the tables, and complete; so are the types of its members
  pub bases_known : (c : ClassId) (b : ClassBody) (i : ℕ) (base : ClassId) → body_at t c ≡ Some b → slice_get b.bases i ≡ Some base → base.0 < length t.classes
  pub bases_complete : (c : ClassId) (b : ClassBody) (i : ℕ) (base : ClassId) → body_at t c ≡ Some b → slice_get b.bases i ≡ Some base → IsSome (body_at t base)
  pub fields_known : (c : ClassId) (b : ClassBody) (i : ℕ) (f : Field) → body_at t c ≡ Some b → slice_get b.fields i ≡ Some f → f.ty.0 < length t.rows
  pub fields_complete : (c : ClassId) (b : ClassBody) (i : ℕ) (f : Field) → body_at t c ≡ Some b → slice_get b.fields i ≡ Some f → IsSome (asked extent_of t (OfType f.ty))
  -- all but an incomplete class is measured, and a complete class has an extent or is known to have none
  pub types_measured : (id : TypeId) (r : TypeRow) → slice_get t.rows id.0 ≡ Some r → HasBody t r.kind → IsMeasured t (OfType id)
  pub classes_measured : (c : ClassId) → IsSome (body_at t c) → IsMeasured t (OfClass c)
  pub classes_extended : (c : ClassId) → IsSome (body_at t c) → IsSome (asked extent_of t (OfClass c))
  -- what is measured is within the limits
  pub few_levels : (p : Part) (n : ℕ) → asked depth_of t p ≡ Some n → n ≤ 512
  pub few_cells : (p : Part) (n : ℕ) → asked cells_of t p ≡ Some n → n ≤ 1073741824
  pub few_nodes : (p : Part) (n : ℕ) → asked nodes_of t p ≡ Some n → n ≤ 1048576
  -- a class has slots for those of its bases
  pub slots_cover : (c : ClassId) (b : ClassBody) → body_at t c ≡ Some b → base_slots t b ≤ length b.slots
  pub few_slots : (c : ClassId) (b : ClassBody) → body_at t c ≡ Some b → length b.slots < 2 ^ 32
  -- a union has no bases, and a class that has virtual functions says so
  pub bodies_fit : (c : ClassId) (d : ClassDecl) (b : ClassBody) → slice_get t.classes c.0 ≡ Some d → d.body ≡ Some b → IsFit t d.key b
  -- a scoped enumeration has a fixed type, and a list ended as it might
  pub scoped_fixed : (e : EnumId) (d : EnumDecl) → slice_get t.enums e.0 ≡ Some d → IsFixedIfScoped d.scoped d.fixed
  pub ends_fit : (e : EnumId) (d : EnumDecl) (end : EnumEnd) → slice_get t.enums e.0 ≡ Some d → d.end ≡ Some end → IsUnder d.fixed end.under end.low end.high
