-- Worked cases: where the steps of some types lead, and what encloses their parts.
use Rattle.std.proofs.Common.{◌≡◌, ℕ, Bool, true, false, List, [], ◌∷◌, map, Option, None, Some, refl}
use Rattle.std.specs.Prelude.{option_map}
use Rattle.cx_base.specs.declared.diag.Mark.{Mark}
use Rattle.cx_base.specs.declared.int_type.IntType.TheVariants as int
use Rattle.cx_type_defs.specs.declared.ids.Step.{Step}
use Rattle.cx_type_defs.specs.declared.ids.Step.TheVariants.{Base, Field, Elem}
use Rattle.cx_type_defs.specs.declared.ids.TypeId.{TypeId}
use Rattle.cx_type_defs.specs.declared.ids.ClassId.{ClassId}
use Rattle.cx_type_defs.specs.declared.kind.TypeRow.{TypeRow}
use Rattle.cx_type_defs.specs.declared.kind.TypeKind.{TypeKind}
use Rattle.cx_type_defs.specs.declared.kind.TypeKind.TheVariants as kind
use Rattle.cx_type_defs.specs.declared.decl.ClassKey.{ClassKey}
use Rattle.cx_type_defs.specs.declared.decl.ClassKey.TheVariants as key
use Rattle.cx_type_defs.specs.declared.decl.ClassFlags.{ClassFlags}
use Rattle.cx_type_defs.specs.declared.decl.ClassDecl.{ClassDecl}
use Rattle.cx_type_defs.specs.declared.decl.Field.{Field as Member}
use Rattle.cx_type_defs.specs.Tables.{Tables}
use Rattle.cx_type_defs.specs.Questions.{most_levels}
use Rattle.cx_layout.specs.declared.columns.Columns.{Columns}
use Rattle.cx_layout.specs.declared.columns.Descriptor.{Descriptor}
use Rattle.cx_layout.specs.declared.place.Place.{Place}
use Rattle.cx_layout.specs.Forms.{Form, nodes, cells}
use Rattle.cx_layout.specs.TypeForms.{form_in, object_form}
use Rattle.cx_layout.specs.Places.{place_of, nearest}
use Rattle.cx_layout.specs.Described.{number_in}

abbrev ty : ℕ → TypeId
ty n = record { 0 = n }

abbrev id : ℕ → ClassId
id n = record { 0 = n }

abbrev row : TypeKind → TypeRow
row k = record { kind = k; konst = false }

abbrev start : Mark
start = record { byte = 0; line = 1; col = 1 }

abbrev member : ℕ → Member
member n = record { name = []; ty = ty n; at = record { start = start; end = start }; init = None }

abbrev flags : ClassFlags
flags = record { aggregate = true; constexpr_ctor = false; constexpr_dtor = true; trivial_ctor = true; trivial_copy = true; trivial_dtor = true; virtual_dtor = false; has_virtual = false }

abbrev class : ClassKey → List ClassId → List Member → ClassDecl
class k bs fs = record { name = []; key = k; body = Some (record { bases = bs; fields = fs; slots = []; pures = []; flags = flags }) }

-- struct B { int seen; }; struct D : B { int t[3]; }; union V { int w; int x; }; union U { int k; V v; }; struct O { U u; };
-- struct E { }; struct F : E, B { int a[2][3]; E e; }; struct G : D, B { int x; }; struct H { U u; int z; };
abbrev sample : Tables
sample = record {
  rows = row (kind.Int int.Int) ∷ row (kind.Array (ty 0) 3) ∷ row (kind.Class (id 1)) ∷ row (kind.Class (id 2)) ∷ row (kind.Class (id 3)) ∷ row (kind.Class (id 4)) ∷ row (kind.Array (ty 1) 2) ∷ row (kind.Class (id 5)) ∷ row (kind.Class (id 6)) ∷ row (kind.Class (id 7)) ∷ row (kind.Class (id 8)) ∷ [];
  classes = class key.Struct [] (member 0 ∷ []) ∷ class key.Struct (id 0 ∷ []) (member 1 ∷ []) ∷ class key.Union [] (member 0 ∷ member 0 ∷ []) ∷ class key.Union [] (member 0 ∷ member 3 ∷ []) ∷ class key.Class [] (member 4 ∷ [])
      ∷ class key.Struct [] [] ∷ class key.Struct (id 5 ∷ id 0 ∷ []) (member 6 ∷ member 7 ∷ []) ∷ class key.Struct (id 1 ∷ id 0 ∷ []) (member 0 ∷ []) ∷ class key.Struct [] (member 4 ∷ member 0 ∷ []) ∷ [];
  enums = [];
}

-- an object of a type: its nodes and cells
abbrev measure : TypeId → Option ℕ → Option (ℕ × ℕ)
measure of length = option_map (λ f. (nodes f, cells f)) (object_form sample of length)

measures : measure (ty 2) None ∷ measure (ty 5) None ∷ measure (ty 7) None ∷ measure (ty 8) None ∷ measure (ty 9) None ∷ measure (ty 10) None ∷ measure (ty 6) (Some 0) ∷ measure (ty 2) (Some 4) ∷ []
    ≡ Some (5, 6) ∷ Some (6, 4) ∷ Some (1, 1) ∷ Some (8, 11) ∷ Some (9, 10) ∷ Some (7, 5) ∷ Some (4, 0) ∷ Some (6, 24) ∷ []
unfolding object_form form_in most_levels
measures = refl

-- where steps lead in an object of a type: cell, node and mark
abbrev found : Option Place → Option (ℕ × ℕ × Bool)
found at = option_map (λ (p : Place). (p.slot, p.node, p.past)) at

abbrev led : Option Form → List Step → Option (ℕ × ℕ × Bool)
led None ss = None
led (Some f) ss = found (place_of f 0 ss)

abbrev leads : TypeId → Option ℕ → List Step → Option (ℕ × ℕ × Bool)
leads of length ss = led (object_form sample of length) ss

-- in a D: through its base, and to its array, an element and its end; a union's members share their cells in an O
parts : map (leads (ty 2) None) ((Base 0 ∷ Field 0 ∷ []) ∷ (Field 0 ∷ []) ∷ (Field 0 ∷ Elem 0 ∷ []) ∷ (Field 0 ∷ Elem 2 ∷ []) ∷ (Field 0 ∷ Elem 3 ∷ []) ∷ [])
    ≡ Some (2, 2, false) ∷ Some (3, 3, false) ∷ Some (3, 4, false) ∷ Some (5, 4, false) ∷ Some (6, 4, true) ∷ []
unfolding object_form form_in most_levels
parts = refl

union_parts : map (leads (ty 5) None) ((Field 0 ∷ Field 0 ∷ []) ∷ (Field 0 ∷ Field 1 ∷ []) ∷ (Field 0 ∷ Field 1 ∷ Field 1 ∷ []) ∷ []) ≡ Some (2, 2, false) ∷ Some (2, 3, false) ∷ Some (3, 5, false) ∷ []
unfolding object_form form_in most_levels
union_parts = refl

-- no member, no element of a class, beyond the end of an array
no_parts : map (leads (ty 2) None) ((Field 1 ∷ []) ∷ (Elem 0 ∷ []) ∷ (Field 0 ∷ Elem 4 ∷ []) ∷ (Field 0 ∷ Elem 3 ∷ Elem 0 ∷ []) ∷ []) ≡ None ∷ None ∷ None ∷ None ∷ []
unfolding object_form form_in most_levels
no_parts = refl

-- in an int[2][3], the end of row 0 is at the cell and node of the first element of row 1, and differs by its mark
rows : map (leads (ty 6) None) ((Elem 0 ∷ Elem 3 ∷ []) ∷ (Elem 1 ∷ Elem 0 ∷ []) ∷ (Elem 1 ∷ []) ∷ (Elem 2 ∷ []) ∷ (Elem 2 ∷ Elem 0 ∷ []) ∷ [])
    ≡ Some (3, 2, true) ∷ Some (3, 2, false) ∷ Some (3, 1, false) ∷ Some (6, 1, true) ∷ None ∷ []
unfolding object_form form_in most_levels
rows = refl

-- an array of no elements has its end alone
no_elements : map (leads (ty 2) (Some 0)) ([] ∷ (Elem 0 ∷ []) ∷ (Elem 1 ∷ []) ∷ []) ≡ Some (0, 0, false) ∷ Some (0, 1, true) ∷ None ∷ []
unfolding object_form form_in most_levels
no_elements = refl

-- an empty base has a header; the second base and the members stand behind it
empty_base : map (leads (ty 8) None) ((Base 0 ∷ []) ∷ (Base 1 ∷ Field 0 ∷ []) ∷ (Field 0 ∷ Elem 1 ∷ Elem 2 ∷ []) ∷ (Field 1 ∷ []) ∷ []) ≡ Some (1, 1, false) ∷ Some (3, 3, false) ∷ Some (9, 6, false) ∷ Some (10, 7, false) ∷ []
unfolding object_form form_in most_levels
empty_base = refl

-- the second base and the member stand behind all parts of the first base
second_base : map (leads (ty 9) None) ((Base 0 ∷ Base 0 ∷ Field 0 ∷ []) ∷ (Base 1 ∷ []) ∷ (Base 1 ∷ Field 0 ∷ []) ∷ (Field 0 ∷ []) ∷ []) ≡ Some (3, 3, false) ∷ Some (7, 6, false) ∷ Some (8, 7, false) ∷ Some (9, 8, false) ∷ []
unfolding object_form form_in most_levels
second_base = refl

-- a member behind a union stands behind the union's widest member
behind_a_union : map (leads (ty 10) None) ((Field 0 ∷ []) ∷ (Field 0 ∷ Field 1 ∷ Field 0 ∷ []) ∷ (Field 1 ∷ []) ∷ []) ≡ Some (1, 1, false) ∷ Some (3, 4, false) ∷ Some (4, 6, false) ∷ []
unfolding object_form form_in most_levels
behind_a_union = refl

-- one number for one type and length, and none for another length
abbrev descriptor : Columns → TypeId → Option ℕ → Descriptor
descriptor c of length = record { ty = of; length = length; columns = c }

numbers : (c : Columns) → map (λ (l : Option ℕ). number_in (descriptor c (ty 0) None ∷ descriptor c (ty 2) None ∷ descriptor c (ty 2) (Some 4) ∷ []) (ty 2) l) (None ∷ Some 4 ∷ Some 0 ∷ []) ≡ Some 1 ∷ Some 2 ∷ None ∷ []
numbers c = refl

-- enclosing objects through bases: itself, the derived one, none of another class, none through a member
abbrev enclosed : Option Form → ClassId → List Step → Option (List Step)
enclosed None c ss = None
enclosed (Some f) c ss = nearest f c ss

abbrev encloses : TypeId → ClassId → List Step → Option (List Step)
encloses of c ss = enclosed (object_form sample of None) c ss

enclosing_objects : encloses (ty 8) (id 0) (Base 1 ∷ []) ∷ encloses (ty 8) (id 6) (Base 1 ∷ []) ∷ encloses (ty 8) (id 1) (Base 1 ∷ []) ∷ encloses (ty 8) (id 6) (Field 1 ∷ []) ∷ encloses (ty 5) (id 3) (Field 0 ∷ []) ∷ []
    ≡ Some (Base 1 ∷ []) ∷ Some [] ∷ None ∷ None ∷ Some (Field 0 ∷ []) ∷ []
unfolding object_form form_in most_levels
enclosing_objects = refl
