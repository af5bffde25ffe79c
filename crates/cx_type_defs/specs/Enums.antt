-- The values of integer types and of enumerations ([basic.fundamental], [dcl.enum]).
use Rattle.std.specs.Prelude.{◌≡◌, ℕ, zero, suc, ◌+◌, ◌-◌, ◌^◌, Bool, true, false, ◌&&◌, [], ◌∷◌, Option, None, Some, IsSome, ℤ, pos, negsuc, ◌≤ℤ◌, int_le, neg_ℤ, slice_get, option_and_then, option_map, if◌then◌else◌}
use Rattle.std.specs.List.{find}
use Rattle.cx_base.specs.declared.int_type.IntType.{IntType}
use Rattle.cx_base.specs.declared.int_type.IntType.TheVariants as int
use Rattle.cx_ints.specs.Ranges.{least, greatest}
use Rattle.cx_type_defs.specs.declared.ids.EnumId.{EnumId}
use Rattle.cx_type_defs.specs.declared.decl.EnumDecl.{EnumDecl}
use Rattle.cx_type_defs.specs.declared.decl.EnumEnd.{EnumEnd}
use Rattle.cx_type_defs.specs.Tables.{Tables}

-- the values of so many bits, in two's complement where they are signed
abbrev pub bit_values : Bool → ℕ → ℤ × ℤ
bit_values true bits = (neg_ℤ (pos (2 ^ (bits - 1))), pos (2 ^ (bits - 1) - 1))
bit_values false bits = (pos 0, pos (2 ^ bits - 1))

-- the least and the greatest value of an integer type
abbrev pub type_values : IntType → ℤ × ℤ
type_values ty = (least ty, greatest ty)

-- both numbers are among the values
abbrev pub Holds : ℤ × ℤ → ℤ → ℤ → Type 0
Holds values low high = (values.0 ≤ℤ low) × (high ≤ℤ values.1)

abbrev pub holds : ℤ × ℤ → ℤ → ℤ → Bool
holds values low high = int_le values.0 low && int_le high values.1

-- the underlying type of an enumeration that fixes none: the first of these that holds the least and the greatest
-- enumerator
abbrev pub underlying : ℤ → ℤ → Option IntType
underlying low high = find (λ ty. holds (type_values ty) low high) (int.Int ∷ int.UInt ∷ int.Long ∷ int.ULong ∷ [])

-- A scoped enumeration has a fixed type: where none is written, that is int.
abbrev pub IsFixedIfScoped : Bool → Option IntType → Type 0
IsFixedIfScoped scoped fixed = scoped ≡ true → IsSome fixed

-- the underlying type: the one that the declaration fixes, which then holds the least and the greatest enumerator, or
-- else the first one that holds them
unfoldable pub IsUnder : Option IntType → IntType → ℤ → ℤ → Type 0
IsUnder None under low high = underlying low high ≡ Some under
IsUnder (Some fixed) under low high = (under ≡ fixed) × Holds (type_values fixed) low high

-- the enumeration is known, its list may end so: it hasn't ended before
abbrev pub MayEnd : Option EnumDecl → IntType → ℤ → ℤ → Type 0
MayEnd None under low high = ⊥
MayEnd (Some d) under low high = (d.end ≡ None) × (low ≤ℤ high) × IsUnder d.fixed under low high

-- the least of so many numbers, `from` and those behind it, that passes; if none does, the number behind them
unfoldable pub first_from : (ℕ → Bool) → ℕ → ℕ → ℕ
first_from test zero from = from
first_from test (suc n) from = if test from then from else first_from test n (from + 1)

-- the values of a bit-field of so many bits, which is signed where the least enumerator is below 0
abbrev pub field_of_bits : ℤ → ℕ → ℤ × ℤ
field_of_bits low bits = bit_values (int_le low (negsuc 0)) bits

-- the bits, from 1 to 64, of the smallest bit-field that holds both numbers
abbrev pub field_bits : ℤ → ℤ → ℕ
field_bits low high = first_from (λ bits. holds (field_of_bits low bits) low high) 64 1

abbrev pub field_values : ℤ → ℤ → ℤ × ℤ
field_values low high = field_of_bits low (field_bits low high)

-- the least and the greatest value of an enumeration, once its underlying type is known: those of the fixed type, or
-- of the smallest bit-field that holds the enumerators
abbrev pub enum_values : Option IntType → Option EnumEnd → Option (ℤ × ℤ)
enum_values (Some fixed) end = Some (type_values fixed)
enum_values None end = option_map (λ e. field_values e.low e.high) end

abbrev pub values_at : Tables → EnumId → Option (ℤ × ℤ)
values_at t id = option_and_then (λ (d : EnumDecl). enum_values d.fixed d.end) (slice_get t.enums id.0)
