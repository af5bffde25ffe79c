-- The form of a type ([basic.types], [dcl.array], [class.mem]). As each question of a type, it looks 512 levels deep at
-- most, and no type is deeper.
use Rattle.std.specs.Prelude.{ℕ, zero, suc, ◌*◌, Bool, true, false, List, [], ◌∷◌, Option, None, Some, slice_get, option_map, option_and_then, unwrap_or, map, if◌then◌else◌}
use Rattle.cx_type_defs.specs.declared.ids.ClassId.{ClassId}
use Rattle.cx_type_defs.specs.declared.ids.TypeId.{TypeId}
use Rattle.cx_type_defs.specs.declared.kind.TypeRow.{TypeRow}
use Rattle.cx_type_defs.specs.declared.kind.TypeKind.{TypeKind}
use Rattle.cx_type_defs.specs.declared.kind.TypeKind.TheVariants as kind
use Rattle.cx_type_defs.specs.declared.decl.Field.{Field}
use Rattle.cx_type_defs.specs.declared.decl.ClassBody.{ClassBody}
use Rattle.cx_type_defs.specs.declared.decl.ClassDecl.{ClassDecl}
use Rattle.cx_type_defs.specs.declared.decl.ClassKey.{ClassKey}
use Rattle.cx_type_defs.specs.declared.decl.ClassKey.TheVariants as key
use Rattle.cx_type_defs.specs.Tables.{Tables}
use Rattle.cx_type_defs.specs.Questions.{Part, OfType, OfClass, most_levels, asked, cells_of}
use Rattle.cx_layout.specs.Forms.{Form, Forms, Row, Leaf, Class, End, More}

abbrev pub both : Option Form → Option Forms → Option Forms
both (Some f) (Some fs) = Some (More f fs)
both _ _ = None

-- the forms of some parts, where all have one
abbrev pub each_form : (Part → Option Form) → List Part → Option Forms
each_form f [] = Some End
each_form f (x ∷ xs) = both (f x) (each_form f xs)

abbrev pub with_parts : ClassId → Bool → Option Forms → Option Forms → Option Form
with_parts c u (Some bs) (Some ms) = Some (Class c u bs ms)
with_parts c u _ _ = None

abbrev pub is_union : ClassKey → Bool
is_union key.Union = true
is_union _ = false

-- the bases and the members of a class, each as a part; a union has no bases ([class.union])
abbrev pub base_parts : ClassKey → ClassBody → List Part
base_parts k b = if is_union k then [] else map OfClass b.bases

abbrev pub member_parts : ClassBody → List Part
member_parts b = map (λ (f : Field). OfType f.ty) b.fields

abbrev pub body_form : (Part → Option Form) → ClassId → ClassKey → ClassBody → Option Form
body_form below c k b = with_parts c (is_union k) (each_form below (base_parts k b)) (each_form below (member_parts b))

abbrev pub class_form : (Part → Option Form) → ClassId → Option ClassDecl → Option Form
class_form below c d = option_and_then (λ (d : ClassDecl). option_and_then (body_form below c d.key) d.body) d

abbrev pub kind_form : Tables → (Part → Option Form) → TypeKind → Option Form
kind_form t below kind.Void = None
kind_form t below (kind.Array of n) = option_map (Row n) (below (OfType of))
kind_form t below (kind.Class c) = class_form below c (slice_get t.classes c.0)
kind_form t below _ = Some Leaf

abbrev pub part_form : Tables → (Part → Option Form) → Part → Option Form
part_form t below (OfType id) = option_and_then (λ (r : TypeRow). kind_form t below r.kind) (slice_get t.rows id.0)
part_form t below (OfClass c) = class_form below c (slice_get t.classes c.0)

-- the form that one finds by looking so many levels deep
unfoldable pub form_in : Tables → ℕ → Part → Option Form
form_in t zero p = None
form_in t (suc n) p = part_form t (form_in t n) p

-- a type, or an array of so many of it that a new-expression makes ([expr.new])
abbrev pub object_of : Option ℕ → Form → Form
object_of None f = f
object_of (Some n) f = Row n f

unfoldable pub object_form : Tables → TypeId → Option ℕ → Option Form
object_form t ty length = option_map (object_of length) (form_in t most_levels (OfType ty))

-- the cells of such an object
abbrev pub cells_for : Option ℕ → ℕ → ℕ
cells_for None c = c
cells_for (Some n) c = n * c

abbrev pub object_cells : Tables → TypeId → Option ℕ → ℕ
object_cells t ty length = cells_for length (unwrap_or (asked cells_of t (OfType ty)) 0)
