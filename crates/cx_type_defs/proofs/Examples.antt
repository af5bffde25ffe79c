-- Small theorems on the definitions: what they give for a few types, by computation.
use Rattle.std.proofs.Common.{◌≡◌, ℕ, zero, suc, ◌^◌, ◌-◌, true, false, List, [], ◌∷◌, Option, None, Some, Ok, Err, refl, pos, negsuc}
use Rattle.cx_base.specs.declared.diag.Mark.{Mark}
use Rattle.cx_base.specs.declared.rule.Rule.TheVariants as rule
use Rattle.cx_base.specs.declared.int_type.IntType.TheVariants as int
use Rattle.cx_type_defs.specs.declared.ids.TypeId.{TypeId}
use Rattle.cx_type_defs.specs.declared.ids.ClassId.{ClassId}
use Rattle.cx_type_defs.specs.declared.ids.FuncId.{FuncId}
use Rattle.cx_type_defs.specs.declared.kind.TypeRow.{TypeRow}
use Rattle.cx_type_defs.specs.declared.kind.TypeKind.{TypeKind}
use Rattle.cx_type_defs.specs.declared.kind.TypeKind.TheVariants as kind
use Rattle.cx_type_defs.specs.declared.decl.ClassKey.{ClassKey}
use Rattle.cx_type_defs.specs.declared.decl.ClassKey.TheVariants as key
use Rattle.cx_type_defs.specs.declared.decl.ClassFlags.{ClassFlags}
use Rattle.cx_type_defs.specs.declared.decl.ClassDecl.{ClassDecl}
use Rattle.cx_type_defs.specs.declared.decl.Field.{Field}
use Rattle.cx_type_defs.specs.declared.answer.TypeAnswer.TheVariants as answer
use Rattle.cx_ints.specs.Ranges.{least, greatest, is_signed, width}
use Rattle.cx_type_defs.specs.Tables.{Tables, overrider}
use Rattle.cx_type_defs.specs.Questions.{OfType, asked, looked, most_levels, depth_of, nodes_of, size_answer, align_answer, cells_answer, literal_answer}
use Rattle.cx_type_defs.specs.Levels.{led_to}
use Rattle.cx_type_defs.specs.Same.{Int, Pointer, Array, Const, form_within, form_of, SameType, SameAside, is_normal}
use Rattle.cx_type_defs.specs.Refusals.{kind_refusal}
use Rattle.cx_type_defs.specs.Enums.{first_from, field_values, type_values, underlying}
use Rattle.cx_type_defs.specs.Slots.{slot_among}

abbrev ty : ℕ → TypeId
ty n = record { 0 = n }

abbrev row : TypeKind → TypeRow
row k = record { kind = k; konst = false }

abbrev place : Mark
place = record { byte = 0; line = 1; col = 1 }

abbrev member : ℕ → Field
member n = record { name = []; ty = ty n; at = record { start = place; end = place }; init = None }

abbrev flags : ClassFlags
flags = record { aggregate = true; constexpr_ctor = false; constexpr_dtor = true; trivial_ctor = true; trivial_copy = true; trivial_dtor = true; virtual_dtor = false; has_virtual = false }

abbrev class : ClassKey → List ClassId → List Field → List FuncId → ClassDecl
class k bs fs slots = record { name = []; key = k; body = Some (record { bases = bs; fields = fs; slots = slots; pures = []; flags = flags }) }

-- struct Pair { char; int; }; struct Empty { }; union Either { char; Pair[5]; }; struct Derived : Pair { int; }; struct Open;
abbrev sample : Tables
sample = record {
  rows = row kind.Void ∷ row (kind.Int int.Char) ∷ row (kind.Int int.Int) ∷ row (kind.Class (record { 0 = 0 })) ∷ row (kind.Array (ty 3) 5) ∷ row (kind.Class (record { 0 = 1 })) ∷ row (kind.Class (record { 0 = 2 })) ∷ row (kind.Class (record { 0 = 3 })) ∷ row (kind.Class (record { 0 = 4 })) ∷ row (kind.Pointer (ty 4)) ∷ row (kind.Pointer (ty 8)) ∷ [];
  classes = class key.Struct [] (member 1 ∷ member 2 ∷ []) [] ∷ class key.Struct [] [] [] ∷ class key.Union [] (member 1 ∷ member 4 ∷ []) [] ∷ class key.Struct (record { 0 = 0 } ∷ []) (member 2 ∷ []) (record { 0 = 7 } ∷ []) ∷ record { name = []; key = key.Struct; body = None } ∷ [];
  enums = [];
}

pair_size : size_answer sample (ty 3) ≡ Ok 8
unfolding asked looked most_levels
pair_size = refl

pair_alignment : align_answer sample (ty 3) ≡ Ok 4
unfolding asked looked most_levels
pair_alignment = refl

pair_cells : cells_answer sample (ty 3) ≡ Ok 3
unfolding asked looked most_levels
pair_cells = refl

pairs_size : size_answer sample (ty 4) ≡ Ok 40
unfolding asked looked most_levels
pairs_size = refl

empty_size : size_answer sample (ty 5) ≡ Ok 1
unfolding asked looked most_levels
empty_size = refl

union_size : size_answer sample (ty 6) ≡ Ok 40
unfolding asked looked most_levels
union_size = refl

union_cells : cells_answer sample (ty 6) ≡ Ok 16
unfolding asked looked most_levels
union_cells = refl

union_nodes : asked nodes_of sample (OfType (ty 6)) ≡ Some 6
unfolding asked looked most_levels
union_nodes = refl

union_depth : asked depth_of sample (OfType (ty 6)) ≡ Some 4
unfolding asked looked most_levels
union_depth = refl

union_literal : literal_answer sample (ty 6) ≡ true
unfolding asked looked most_levels
union_literal = refl

derived_size : size_answer sample (ty 7) ≡ Err rule.SizeProfile
unfolding asked looked most_levels
derived_size = refl

open_size : size_answer sample (ty 8) ≡ Err rule.Incomplete
unfolding asked looked most_levels
open_size = refl

-- a pointer to an array is one deeper than it, one to a class has depth 1
pointer_depths : (asked depth_of sample (OfType (ty 9)) ≡ Some 4) × (asked depth_of sample (OfType (ty 10)) ≡ Some 1)
unfolding asked looked most_levels
pointer_depths = (refl, refl)

array_of_void : kind_refusal sample (kind.Array (ty 0) 3) ≡ Some answer.Incomplete
array_of_void = refl

slot_of_derived : overrider sample (record { 0 = 3 }) 0 ≡ Some (record { 0 = 7 })
slot_of_derived = refl

fields_of_enumerations : (field_values (pos 0) (pos 0) ≡ (pos 0, pos 1)) × (field_values (pos 5) (pos 8) ≡ (pos 0, pos 15)) × (field_values (negsuc 0) (pos 1) ≡ (negsuc 1, pos 1))
unfolding first_from
fields_of_enumerations = (refl, refl, refl)

widest_field : field_values (pos 0) (pos (2 ^ 64 - 1)) ≡ (pos 0, pos (2 ^ 64 - 1))
unfolding first_from
widest_field = refl

fixed_bool : type_values int.Bool ≡ (pos 0, pos 1)
unfolding least greatest is_signed width
fixed_bool = refl

-- the slots of bases that have two and three
abbrev of_two : ℕ → ℕ → Option ℕ
of_two i k = slot_among (λ c. c.0) (record { 0 = 2 } ∷ record { 0 = 3 } ∷ []) i k

slots_of_bases : (of_two 0 1 ≡ Some 1) × (of_two 0 2 ≡ None) × (of_two 1 0 ≡ Some 2) × (of_two 1 2 ≡ Some 4) × (of_two 1 3 ≡ None) × (of_two 2 0 ≡ None)
slots_of_bases = (refl, refl, refl, refl, refl, refl)

underlying_types :
    (underlying (negsuc (2 ^ 31 - 1)) (pos (2 ^ 31 - 1)) ≡ Some int.Int) × (underlying (pos 0) (pos (2 ^ 31)) ≡ Some int.UInt) × (underlying (negsuc 0) (pos (2 ^ 31)) ≡ Some int.Long)
    × (underlying (pos 0) (pos (2 ^ 63)) ≡ Some int.ULong) × (underlying (negsuc 0) (pos (2 ^ 63)) ≡ None) × (underlying (pos 0) (pos (2 ^ 64)) ≡ None)
unfolding least greatest is_signed width
underlying_types = (refl, refl, refl, refl, refl, refl)

-- so many pointers, the first to the type of this number, each further one to the one before it
abbrev pointers : ℕ → ℕ → List TypeRow
pointers zero to = []
pointers (suc n) to = row (kind.Pointer (ty to)) ∷ pointers n (suc to)

-- a class that isn't complete, and 512 pointers on it
abbrev stacked : Tables
stacked = record { rows = row (kind.Class (record { 0 = 0 })) ∷ pointers 512 0; classes = record { name = []; key = key.Struct; body = None } ∷ []; enums = [] }

-- the last of them has as many levels as a type may have, and is taken: 512 steps lead to the class, so that a walk of
-- 512 types would not meet it
most_pointers : asked depth_of stacked (OfType (ty 512)) ≡ Some 512
unfolding asked looked most_levels
most_pointers = refl

class_behind_them : led_to stacked 512 (ty 512) ≡ Some (ty 0)
unfolding led_to
class_behind_them = refl

-- int, const int, int[3], const int [3], an int[3] marked const, int*, const int*, int&
abbrev marked : Tables
marked = record {
  rows = row (kind.Int int.Int) ∷ record { kind = kind.Int int.Int; konst = true } ∷ row (kind.Array (ty 0) 3) ∷ row (kind.Array (ty 1) 3) ∷ record { kind = kind.Array (ty 0) 3; konst = true } ∷ row (kind.Pointer (ty 0)) ∷ row (kind.Pointer (ty 1)) ∷ row (kind.Reference (ty 0)) ∷ row kind.Void ∷ [];
  classes = [];
  enums = [];
}

-- const of an array is const of its elements
const_array : (SameType marked (ty 3) (ty 4)) × (form_of true marked (ty 2) ≡ Array (Int int.Int) 3) × (form_of true marked (ty 4) ≡ Array (Const (Int int.Int)) 3)
unfolding form_of form_within
const_array = (refl, refl, refl)

-- pointers to int and to const int differ in const alone
pointers_aside : (SameAside marked (kind.Pointer (ty 0)) (kind.Pointer (ty 1))) × (form_of true marked (ty 5) ≡ Pointer (Int int.Int)) × (form_of true marked (ty 6) ≡ Pointer (Const (Int int.Int)))
unfolding form_of form_within
pointers_aside = (refl, refl, refl)

written_once :
    (is_normal marked (record { kind = kind.Array (ty 0) 3; konst = true }) ≡ false) × (is_normal marked (record { kind = kind.Reference (ty 0); konst = true }) ≡ false)
    × (is_normal marked (row (kind.Pointer (ty 7))) ≡ false) × (is_normal marked (row (kind.Reference (ty 7))) ≡ false) × (is_normal marked (row (kind.Reference (ty 8))) ≡ false)
    × (is_normal marked (row (kind.Pointer (ty 8))) ≡ true) × (is_normal marked (record { kind = kind.Pointer (ty 0); konst = true }) ≡ true)
written_once = (refl, refl, refl, refl, refl, refl, refl)
