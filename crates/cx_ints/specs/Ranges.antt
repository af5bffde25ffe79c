-- How wide an integer type is, and which values it has ([basic.fundamental]). The profile's target has chars of 8 bits, of which plain char is signed.
use Rattle.std.specs.Prelude.{ℕ, ◌-◌, ◌^◌, Bool, true, false, ◌&&◌, if◌then◌else◌, ℤ, pos, negsuc, neg_ℤ, ◌≤ℤ◌, int_le}
use Rattle.cx_base.specs.declared.int_type.IntType.{IntType}
use Rattle.cx_base.specs.declared.int_type.IntType.TheVariants as type

-- how many bits a value takes; bool has the values of one bit
unfoldable pub width : IntType → ℕ
width type.Bool = 1
width type.Char = 8
width type.SChar = 8
width type.UChar = 8
width type.Short = 16
width type.UShort = 16
width type.Int = 32
width type.UInt = 32
width type.Long = 64
width type.ULong = 64
width type.LongLong = 64
width type.ULongLong = 64

unfoldable pub is_signed : IntType → Bool
is_signed type.Bool = false
is_signed type.Char = true
is_signed type.SChar = true
is_signed type.UChar = false
is_signed type.Short = true
is_signed type.UShort = false
is_signed type.Int = true
is_signed type.UInt = false
is_signed type.Long = true
is_signed type.ULong = false
is_signed type.LongLong = true
is_signed type.ULongLong = false

-- The values of a type of N bits go from 0 to 2 ^ N - 1, those of a signed one from -2 ^ (N - 1) to 2 ^ (N - 1) - 1.
unfoldable pub least : IntType → ℤ
least t = if is_signed t then neg_ℤ (pos (2 ^ (width t - 1))) else pos 0

unfoldable pub greatest : IntType → ℤ
greatest t = if is_signed t then pos (2 ^ (width t - 1) - 1) else pos (2 ^ width t - 1)

-- the value is one of the type's, as a fact and as a test
unfoldable pub Fits : IntType → ℤ → Type 0
Fits t z = (least t ≤ℤ z) × (z ≤ℤ greatest t)

unfoldable pub fits : IntType → ℤ → Bool
fits t z = int_le (least t) z && int_le z (greatest t)

-- the values of all types are among these
abbrev pub InWord : ℤ → Type 0
InWord z = (negsuc 9223372036854775807 ≤ℤ z) × (z ≤ℤ pos 18446744073709551615)
