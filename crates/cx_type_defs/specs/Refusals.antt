-- When a type or a class's body isn't taken: first where a part is incomplete ([basic.types.general]), then where it is
-- larger than the limits.
use Rattle.std.specs.Prelude.{◌≡◌, ℕ, ◌<◌, Bool, true, false, not, ◌||◌, length, Option, None, Some, slice_get, option_and_then, is_none, nat_lt, ◌⊎◌, if◌then◌else◌}
use Rattle.std.specs.List.{list_any}
use Rattle.cx_type_defs.specs.declared.ids.ClassId.{ClassId}
use Rattle.cx_type_defs.specs.declared.decl.Field.{Field}
use Rattle.cx_type_defs.specs.declared.decl.ClassDecl.{ClassDecl}
use Rattle.cx_type_defs.specs.declared.answer.TypeAnswer.{TypeAnswer}
use Rattle.cx_type_defs.specs.declared.answer.TypeAnswer.TheVariants as answer
use Rattle.cx_type_defs.specs.declared.kind.TypeRow.{TypeRow}
use Rattle.cx_type_defs.specs.declared.kind.TypeKind.{TypeKind}
use Rattle.cx_type_defs.specs.declared.kind.TypeKind.TheVariants as kind
use Rattle.cx_type_defs.specs.declared.decl.ClassBody.{ClassBody}
use Rattle.cx_type_defs.specs.declared.decl.ClassKey.{ClassKey}
use Rattle.cx_type_defs.specs.Tables.{Tables, body_at}
use Rattle.cx_type_defs.specs.Questions.{body_answer, kind_answer, asked, is_complete, depth_of, cells_of, nodes_of}

abbrev pub over : ℕ → Option ℕ → Bool
over limit None = false
over limit (Some n) = nat_lt limit n

-- deeper than 512, or of more than 2^30 cells or 1,048,576 nodes
abbrev pub is_large : Option ℕ → Option ℕ → Option ℕ → Bool
is_large depth cells nodes = over 512 depth || over 1073741824 cells || over 1048576 nodes

abbrev pub large_kind : Tables → TypeKind → Bool
large_kind t k = is_large (kind_answer depth_of t (asked depth_of t) k) (kind_answer cells_of t (asked cells_of t) k) (kind_answer nodes_of t (asked nodes_of t) k)

-- void, a reference and an incomplete class are no type of elements
abbrev pub no_element : Tables → TypeKind → Bool
no_element t kind.Void = true
no_element t (kind.Reference to) = true
no_element t (kind.Class c) = is_none (body_at t c)
no_element t _ = false

abbrev pub lacks_element : Tables → TypeKind → Bool
lacks_element t (kind.Array of n) = is_none (option_and_then (λ (r : TypeRow). if no_element t r.kind then None else Some r) (slice_get t.rows of.0))
lacks_element t _ = false

-- why a type of this kind isn't interned, if it isn't
abbrev pub kind_refusal : Tables → TypeKind → Option TypeAnswer
kind_refusal t k = if lacks_element t k then Some answer.Incomplete else if large_kind t k then Some answer.TooLarge else None

-- refused exactly so: only want of memory is free
abbrev pub Refuses : Option TypeAnswer → TypeAnswer → Type 0
Refuses refusal e = (e ≡ answer.Memory) ⊎ (refusal ≡ Some e)

-- a base or a member's type is incomplete
abbrev pub lacks_part : Tables → ClassBody → Bool
lacks_part t b = list_any (λ c. is_none (body_at t c)) b.bases || list_any (λ (f : Field). not (is_complete t f.ty)) b.fields

abbrev pub large_body : Tables → ClassKey → ClassBody → Bool
large_body t k b = is_large (body_answer depth_of (asked depth_of t) k b) (body_answer cells_of (asked cells_of t) k b) (body_answer nodes_of (asked nodes_of t) k b)

abbrev pub body_refusal : Tables → ClassBody → ClassKey → Option TypeAnswer
body_refusal t b k = if lacks_part t b then Some answer.Incomplete else if large_body t k b then Some answer.TooLarge else None

-- why a class isn't completed with this body, if it isn't
abbrev pub class_refusal : Tables → ClassId → ClassBody → Option TypeAnswer
class_refusal t c b = option_and_then (λ (d : ClassDecl). body_refusal t b d.key) (slice_get t.classes c.0)

-- the ids that a body names are those of the tables
pub record IsKnownBody (t : Tables) (b : ClassBody) : Type 0 where
  pub known_bases : (i : ℕ) (c : ClassId) → slice_get b.bases i ≡ Some c → c.0 < length t.classes
  pub known_fields : (i : ℕ) (f : Field) → slice_get b.fields i ≡ Some f → f.ty.0 < length t.rows

-- the class is known, and incomplete
abbrev pub IsIncomplete : Option ClassDecl → Type 0
IsIncomplete None = ⊥
IsIncomplete (Some d) = d.body ≡ None
