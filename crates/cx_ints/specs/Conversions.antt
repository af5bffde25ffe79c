-- Conversions, promotions and the common type ([conv.integral], [conv.bool], [conv.prom], [expr.arith.conv], [conv.rank]).
use Rattle.std.specs.Prelude.{ℕ, zero, suc, ◌^◌, Bool, true, false, not, nat_lt, nat_le, if◌then◌else◌, ℤ, pos, negsuc, ◌+ℤ◌, ◌-ℤ◌, int_le}
use Rattle.std.specs.Int.{int_rem_euclid}
use Rattle.cx_base.specs.declared.int_type.IntType.{IntType}
use Rattle.cx_base.specs.declared.int_type.IntType.TheVariants as type
use Rattle.cx_ints.specs.declared.int.Int.{Int}
use Rattle.cx_ints.specs.Ranges.{width, is_signed, least, greatest}

-- The value of the type's range that is congruent to z modulo 2 ^ N: it lies above the least one by what is left of the distance.
unfoldable pub reduce : IntType → ℤ → ℤ
reduce t z = least t +ℤ int_rem_euclid (z -ℤ least t) (pos (2 ^ width t))

-- to bool: 0 is false, and everything else is true
abbrev pub truth : Bool → ℤ
truth true = pos 1
truth false = pos 0

abbrev pub is_zero : ℤ → Bool
is_zero (pos zero) = true
is_zero (pos (suc n)) = false
is_zero (negsuc n) = false

-- A conversion is defined on every whole number, so no definition below asks that an operand is in its type's range.
unfoldable pub converted : IntType → ℤ → ℤ
converted type.Bool z = truth (not (is_zero z))
converted t z = reduce t z

abbrev pub convert : Int → IntType → Int
convert a t = record { ty = t; value = converted t a.value }

-- a type that is narrower than int becomes int
unfoldable pub promote : IntType → IntType
promote t = if nat_lt (width t) (width type.Int) then type.Int else t

-- An unsigned type has its signed type's rank.
unfoldable pub rank : IntType → ℕ
rank type.Bool = 0
rank type.Char = 1
rank type.SChar = 1
rank type.UChar = 1
rank type.Short = 2
rank type.UShort = 2
rank type.Int = 3
rank type.UInt = 3
rank type.Long = 4
rank type.ULong = 4
rank type.LongLong = 5
rank type.ULongLong = 5

unfoldable pub unsigned_of : IntType → IntType
unsigned_of type.Char = type.UChar
unsigned_of type.SChar = type.UChar
unsigned_of type.Short = type.UShort
unsigned_of type.Int = type.UInt
unsigned_of type.Long = type.ULong
unsigned_of type.LongLong = type.ULongLong
unsigned_of t = t

unfoldable pub higher : IntType → IntType → IntType
higher t u = if nat_lt (rank t) (rank u) then u else t

-- the common type of a signed and an unsigned type: an unsigned one of no lower rank wins, then a signed one that has all values of the other
unfoldable pub mixed : IntType → IntType → IntType
mixed signed unsigned =
    if nat_le (rank signed) (rank unsigned) then unsigned
    else (if int_le (greatest unsigned) (greatest signed) then signed else unsigned_of signed)

-- the common type of two promoted types; where both are signed or both unsigned the higher rank wins, and equal ones stay
unfoldable pub common_promoted : IntType → IntType → IntType
common_promoted t u =
    if is_signed t then (if is_signed u then higher t u else mixed t u) else (if is_signed u then mixed u t else higher t u)

unfoldable pub common : IntType → IntType → IntType
common t u = common_promoted (promote t) (promote u)
