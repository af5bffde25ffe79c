-- Operations on integers and their answers, worked out by hand from the rules of the standard and the widths of the target.
use Rattle.std.proofs.Common.{◌≡◌, ◌-◌, ℕ, List, [], ◌∷◌, map, refl, ℤ, pos, negsuc, Result, Ok, Err}
use Rattle.cx_base.specs.declared.int_type.IntType.TheVariants as type
use Rattle.cx_base.specs.declared.rule.Rule.{Rule}
use Rattle.cx_base.specs.declared.rule.Rule.TheVariants as rule
use Rattle.cx_ints.specs.declared.int.Int.{Int}
use Rattle.cx_ints.specs.declared.operators.BinOp.{BinOp}
use Rattle.cx_ints.specs.declared.operators.BinOp.TheVariants as op
use Rattle.cx_ints.specs.Ranges.{width, is_signed, least, greatest, fits}
use Rattle.cx_ints.specs.Conversions.{reduce, converted, promote, common, common_promoted, mixed, higher, rank, unsigned_of}
use Rattle.cx_ints.specs.Bits.{with_bits, of_bits}
use Rattle.cx_ints.specs.Operations.{int, delivered, quotient, counted, operation}

-- an operator, two operands and the answer
abbrev Case : Type 0
Case = BinOp × Int × Int × Result Int Rule

-- the operations give these answers
abbrev Hold : List Case → Type 0
Hold cases = map (λ c. operation c.0 c.1 c.2) cases ≡ map (λ c. c.3) cases

-- a number below zero, from 1 on
abbrev minus : ℕ → ℤ
minus n = negsuc (n - 1)

abbrev truth : ℤ → Int
truth z = int type.Bool z

abbrev char : ℤ → Int
char z = int type.Char z

abbrev signed_char : ℤ → Int
signed_char z = int type.SChar z

abbrev unsigned_char : ℤ → Int
unsigned_char z = int type.UChar z

abbrev short : ℤ → Int
short z = int type.Short z

abbrev unsigned_short : ℤ → Int
unsigned_short z = int type.UShort z

abbrev number : ℤ → Int
number z = int type.Int z

abbrev unsigned : ℤ → Int
unsigned z = int type.UInt z

abbrev long : ℤ → Int
long z = int type.Long z

abbrev unsigned_long : ℤ → Int
unsigned_long z = int type.ULong z

abbrev long_long : ℤ → Int
long_long z = int type.LongLong z

abbrev unsigned_long_long : ℤ → Int
unsigned_long_long z = int type.ULongLong z

-- one case for each rule, and for each way to a common type
abbrev chosen : List Case
chosen =
    (op.Add, short (pos 32767), short (pos 1), Ok (number (pos 32768))) ∷
    (op.Add, number (pos 2147483647), truth (pos 1), Err rule.Overflow) ∷
    (op.Add, long_long (minus 1), unsigned_long (pos 0), Ok (unsigned_long_long (pos 18446744073709551615))) ∷
    (op.Sub, unsigned (pos 0), number (pos 1), Ok (unsigned (pos 4294967295))) ∷
    (op.Div, number (minus 7), number (pos 2), Ok (number (minus 3))) ∷
    (op.Rem, number (minus 7), number (pos 2), Ok (number (minus 1))) ∷
    (op.Div, unsigned (pos 7), number (minus 1), Ok (unsigned (pos 0))) ∷
    (op.Rem, long (minus 9223372036854775808), number (minus 1), Err rule.Quotient) ∷
    (op.Shl, unsigned_char (pos 255), number (pos 24), Ok (number (minus 16777216))) ∷
    (op.Shl, number (pos 1), number (pos 32), Err rule.ShiftCount) ∷
    (op.Shr, number (minus 9), number (pos 1), Ok (number (minus 5))) ∷
    (op.Xor, long (minus 1), unsigned (pos 1), Ok (long (minus 2))) ∷
    (op.Lt, number (minus 1), unsigned (pos 1), Ok (truth (pos 0))) ∷ []

chosen_hold : Hold chosen
unfolding operation delivered quotient counted fits least greatest is_signed width converted reduce common common_promoted mixed higher rank promote unsigned_of with_bits of_bits
chosen_hold = refl

-- sums, differences and products at the ends of int and unsigned
abbrev int_sums : List Case
int_sums =
    (op.Add, number (pos 2147483646), number (pos 1), Ok (number (pos 2147483647))) ∷
    (op.Add, number (pos 2147483647), number (pos 1), Err rule.Overflow) ∷
    (op.Add, number (minus 2147483647), number (minus 1), Ok (number (minus 2147483648))) ∷
    (op.Add, number (minus 2147483648), number (minus 1), Err rule.Overflow) ∷
    (op.Sub, number (minus 2147483647), number (pos 1), Ok (number (minus 2147483648))) ∷
    (op.Sub, number (minus 2147483648), number (pos 1), Err rule.Overflow) ∷
    (op.Sub, number (pos 0), number (minus 2147483648), Err rule.Overflow) ∷
    (op.Mul, number (pos 46340), number (pos 46340), Ok (number (pos 2147395600))) ∷
    (op.Mul, number (pos 46341), number (pos 46341), Err rule.Overflow) ∷
    (op.Mul, number (minus 65536), number (pos 32768), Ok (number (minus 2147483648))) ∷
    (op.Mul, number (pos 65536), number (pos 32768), Err rule.Overflow) ∷
    (op.Add, unsigned (pos 4294967295), unsigned (pos 1), Ok (unsigned (pos 0))) ∷
    (op.Sub, unsigned (pos 0), unsigned (pos 4294967295), Ok (unsigned (pos 1))) ∷
    (op.Mul, unsigned (pos 65536), unsigned (pos 65536), Ok (unsigned (pos 0))) ∷
    (op.Mul, unsigned (pos 4294967295), unsigned (pos 4294967295), Ok (unsigned (pos 1))) ∷ []

int_sums_hold : Hold int_sums
unfolding operation delivered quotient counted fits least greatest is_signed width converted reduce common common_promoted mixed higher rank promote unsigned_of with_bits of_bits
int_sums_hold = refl

-- the same at wider and at narrower types; an operand past its range is converted first
abbrev other_sums : List Case
other_sums =
    (op.Add, long (pos 9223372036854775807), number (minus 1), Ok (long (pos 9223372036854775806))) ∷
    (op.Add, long (pos 9223372036854775807), number (pos 1), Err rule.Overflow) ∷
    (op.Sub, long (minus 9223372036854775808), number (pos 1), Err rule.Overflow) ∷
    (op.Mul, long (minus 4294967296), long (pos 2147483648), Ok (long (minus 9223372036854775808))) ∷
    (op.Mul, long (pos 4294967296), long (pos 2147483648), Err rule.Overflow) ∷
    (op.Add, unsigned_long (pos 18446744073709551615), number (pos 1), Ok (unsigned_long (pos 0))) ∷
    (op.Sub, unsigned_long (pos 0), number (pos 1), Ok (unsigned_long (pos 18446744073709551615))) ∷
    (op.Mul, unsigned_long (pos 4294967297), unsigned_long (pos 4294967297), Ok (unsigned_long (pos 8589934593))) ∷
    (op.Mul, unsigned_long (pos 18446744073709551615), unsigned_long (pos 18446744073709551615), Ok (unsigned_long (pos 1))) ∷
    (op.Add, long_long (pos 9223372036854775807), long_long (pos 1), Err rule.Overflow) ∷
    (op.Sub, unsigned_long_long (pos 0), unsigned_long (pos 1), Ok (unsigned_long_long (pos 18446744073709551615))) ∷
    (op.Add, truth (pos 1), truth (pos 1), Ok (number (pos 2))) ∷
    (op.Add, char (minus 128), unsigned_char (pos 255), Ok (number (pos 127))) ∷
    (op.Add, unsigned_short (pos 65535), short (pos 1), Ok (number (pos 65536))) ∷
    (op.Mul, unsigned_short (pos 65535), unsigned_short (pos 65535), Err rule.Overflow) ∷
    (op.Sub, signed_char (minus 128), unsigned_char (pos 255), Ok (number (minus 383))) ∷
    (op.Add, number (pos 4294967296), number (pos 1), Ok (number (pos 1))) ∷ []

other_sums_hold : Hold other_sums
unfolding operation delivered quotient counted fits least greatest is_signed width converted reduce common common_promoted mixed higher rank promote unsigned_of with_bits of_bits
other_sums_hold = refl

-- the common type of a signed and an unsigned operand, at each rank
abbrev mixed_signs : List Case
mixed_signs =
    (op.Add, number (minus 1), unsigned (pos 0), Ok (unsigned (pos 4294967295))) ∷
    (op.Add, number (minus 1), unsigned_long (pos 0), Ok (unsigned_long (pos 18446744073709551615))) ∷
    (op.Add, number (minus 1), unsigned_long_long (pos 0), Ok (unsigned_long_long (pos 18446744073709551615))) ∷
    (op.Add, long (minus 1), unsigned (pos 0), Ok (long (minus 1))) ∷
    (op.Add, long (minus 1), unsigned_long (pos 0), Ok (unsigned_long (pos 18446744073709551615))) ∷
    (op.Add, long_long (minus 1), unsigned (pos 0), Ok (long_long (minus 1))) ∷
    (op.Add, unsigned_long (pos 1), long_long (minus 2), Ok (unsigned_long_long (pos 18446744073709551615))) ∷
    (op.Add, long_long (minus 1), unsigned_long_long (pos 0), Ok (unsigned_long_long (pos 18446744073709551615))) ∷
    (op.Add, long (pos 1), long_long (pos 1), Ok (long_long (pos 2))) ∷ []

mixed_signs_hold : Hold mixed_signs
unfolding operation delivered quotient counted fits least greatest is_signed width converted reduce common common_promoted mixed higher rank promote unsigned_of with_bits of_bits
mixed_signs_hold = refl

-- quotients and remainders at int and unsigned
abbrev int_quotients : List Case
int_quotients =
    (op.Div, number (minus 2147483648), number (minus 1), Err rule.Quotient) ∷
    (op.Rem, number (minus 2147483648), number (minus 1), Err rule.Quotient) ∷
    (op.Div, number (minus 2147483648), number (pos 1), Ok (number (minus 2147483648))) ∷
    (op.Div, number (pos 2147483647), number (minus 1), Ok (number (minus 2147483647))) ∷
    (op.Div, number (pos 7), number (minus 2), Ok (number (minus 3))) ∷
    (op.Rem, number (pos 7), number (minus 2), Ok (number (pos 1))) ∷
    (op.Div, number (minus 7), number (minus 2), Ok (number (pos 3))) ∷
    (op.Rem, number (minus 7), number (minus 2), Ok (number (minus 1))) ∷
    (op.Div, number (pos 1), number (pos 0), Err rule.DivideByZero) ∷
    (op.Rem, number (minus 2147483648), truth (pos 0), Err rule.DivideByZero) ∷
    (op.Div, unsigned_long (pos 1), number (pos 0), Err rule.DivideByZero) ∷ []

int_quotients_hold : Hold int_quotients
unfolding operation delivered quotient counted fits least greatest is_signed width converted reduce common common_promoted mixed higher rank promote unsigned_of with_bits of_bits
int_quotients_hold = refl

-- the same at wider and at narrower types
abbrev other_quotients : List Case
other_quotients =
    (op.Div, unsigned (pos 4294967295), unsigned (pos 2), Ok (unsigned (pos 2147483647))) ∷
    (op.Rem, unsigned (pos 4294967295), unsigned (pos 2), Ok (unsigned (pos 1))) ∷
    (op.Rem, unsigned (pos 7), number (minus 1), Ok (unsigned (pos 7))) ∷
    (op.Div, unsigned (pos 2147483648), number (minus 1), Ok (unsigned (pos 0))) ∷
    (op.Div, long (minus 9223372036854775808), number (minus 1), Err rule.Quotient) ∷
    (op.Div, long (minus 9223372036854775808), long (pos 10), Ok (long (minus 922337203685477580))) ∷
    (op.Rem, long (minus 9223372036854775808), long (pos 10), Ok (long (minus 8))) ∷
    (op.Div, unsigned_long (pos 18446744073709551615), number (pos 10), Ok (unsigned_long (pos 1844674407370955161))) ∷
    (op.Rem, unsigned_long (pos 18446744073709551615), number (pos 10), Ok (unsigned_long (pos 5))) ∷
    (op.Div, unsigned_long (pos 18446744073709551615), number (minus 1), Ok (unsigned_long (pos 1))) ∷
    (op.Div, short (minus 32768), short (minus 1), Ok (number (pos 32768))) ∷ []

other_quotients_hold : Hold other_quotients
unfolding operation delivered quotient counted fits least greatest is_signed width converted reduce common common_promoted mixed higher rank promote unsigned_of with_bits of_bits
other_quotients_hold = refl

-- shifts to the left: the count is promoted by itself, and tested against the left operand's width
abbrev left_shifts : List Case
left_shifts =
    (op.Shl, number (pos 1), number (pos 31), Ok (number (minus 2147483648))) ∷
    (op.Shl, number (minus 1), number (pos 31), Ok (number (minus 2147483648))) ∷
    (op.Shl, number (pos 2147483647), number (pos 1), Ok (number (minus 2))) ∷
    (op.Shl, number (minus 1), number (pos 3), Ok (number (minus 8))) ∷
    (op.Shl, number (minus 2147483648), number (pos 1), Ok (number (pos 0))) ∷
    (op.Shl, number (pos 1), number (minus 1), Err rule.ShiftCount) ∷
    (op.Shl, number (pos 1), long (pos 32), Err rule.ShiftCount) ∷
    (op.Shl, number (pos 1), unsigned_long (pos 4294967296), Err rule.ShiftCount) ∷
    (op.Shl, truth (pos 1), long (pos 5), Ok (number (pos 32))) ∷
    (op.Shl, unsigned (pos 1), unsigned (pos 31), Ok (unsigned (pos 2147483648))) ∷
    (op.Shl, unsigned (pos 3), number (pos 31), Ok (unsigned (pos 2147483648))) ∷
    (op.Shl, unsigned (pos 1), number (pos 32), Err rule.ShiftCount) ∷
    (op.Shl, long (pos 1), number (pos 63), Ok (long (minus 9223372036854775808))) ∷
    (op.Shl, long (pos 1), number (pos 64), Err rule.ShiftCount) ∷
    (op.Shl, unsigned_long (pos 18446744073709551615), number (pos 63), Ok (unsigned_long (pos 9223372036854775808))) ∷
    (op.Shl, unsigned_long (pos 1), char (minus 1), Err rule.ShiftCount) ∷ []

left_shifts_hold : Hold left_shifts
unfolding operation delivered quotient counted fits least greatest is_signed width converted reduce common common_promoted mixed higher rank promote unsigned_of with_bits of_bits
left_shifts_hold = refl

-- shifts to the right
abbrev right_shifts : List Case
right_shifts =
    (op.Shr, number (minus 1), number (pos 31), Ok (number (minus 1))) ∷
    (op.Shr, number (minus 2147483648), number (pos 31), Ok (number (minus 1))) ∷
    (op.Shr, number (pos 2147483647), number (pos 30), Ok (number (pos 1))) ∷
    (op.Shr, number (minus 9), number (pos 0), Ok (number (minus 9))) ∷
    (op.Shr, number (minus 8), number (pos 32), Err rule.ShiftCount) ∷
    (op.Shr, number (pos 5), number (minus 1), Err rule.ShiftCount) ∷
    (op.Shr, unsigned (pos 4294967295), number (pos 31), Ok (unsigned (pos 1))) ∷
    (op.Shr, long (minus 9223372036854775808), number (pos 63), Ok (long (minus 1))) ∷
    (op.Shr, long (minus 1), unsigned_long (pos 1), Ok (long (minus 1))) ∷
    (op.Shr, unsigned_long (pos 18446744073709551615), number (pos 63), Ok (unsigned_long (pos 1))) ∷
    (op.Shr, char (minus 128), number (pos 7), Ok (number (minus 1))) ∷
    (op.Shr, unsigned_char (pos 255), number (pos 7), Ok (number (pos 1))) ∷ []

right_shifts_hold : Hold right_shifts
unfolding operation delivered quotient counted fits least greatest is_signed width converted reduce common common_promoted mixed higher rank promote unsigned_of with_bits of_bits
right_shifts_hold = refl

-- operations bit by bit
abbrev bits : List Case
bits =
    (op.And, number (minus 1), number (pos 255), Ok (number (pos 255))) ∷
    (op.And, number (minus 2147483648), number (pos 2147483647), Ok (number (pos 0))) ∷
    (op.Or, number (minus 2147483648), number (pos 2147483647), Ok (number (minus 1))) ∷
    (op.Xor, number (minus 1), number (pos 2147483647), Ok (number (minus 2147483648))) ∷
    (op.And, unsigned (pos 4294967295), number (minus 2), Ok (unsigned (pos 4294967294))) ∷
    (op.Or, unsigned (pos 0), number (minus 1), Ok (unsigned (pos 4294967295))) ∷
    (op.Xor, unsigned (pos 4294967295), unsigned (pos 4294967295), Ok (unsigned (pos 0))) ∷
    (op.And, long (minus 1), unsigned (pos 4294967295), Ok (long (pos 4294967295))) ∷
    (op.Or, long (minus 9223372036854775808), number (pos 1), Ok (long (minus 9223372036854775807))) ∷
    (op.Xor, long (minus 9223372036854775808), long (pos 9223372036854775807), Ok (long (minus 1))) ∷
    (op.And, unsigned_long (pos 18446744073709551615), number (minus 1), Ok (unsigned_long (pos 18446744073709551615))) ∷
    (op.Or, unsigned_long (pos 9223372036854775808), number (pos 1), Ok (unsigned_long (pos 9223372036854775809))) ∷
    (op.Xor, unsigned_long (pos 18446744073709551615), number (pos 1), Ok (unsigned_long (pos 18446744073709551614))) ∷
    (op.Or, truth (pos 1), char (minus 2), Ok (number (minus 1))) ∷
    (op.And, char (minus 1), unsigned_char (pos 255), Ok (number (pos 255))) ∷ []

bits_hold : Hold bits
unfolding operation delivered quotient counted fits least greatest is_signed width converted reduce common common_promoted mixed higher rank promote unsigned_of with_bits of_bits
bits_hold = refl

-- comparisons at int and unsigned
abbrev int_comparisons : List Case
int_comparisons =
    (op.Eq, number (minus 1), unsigned (pos 4294967295), Ok (truth (pos 1))) ∷
    (op.Ne, number (minus 1), unsigned (pos 4294967295), Ok (truth (pos 0))) ∷
    (op.Lt, number (minus 1), unsigned (pos 0), Ok (truth (pos 0))) ∷
    (op.Le, number (minus 1), unsigned (pos 4294967295), Ok (truth (pos 1))) ∷
    (op.Gt, number (minus 1), unsigned (pos 0), Ok (truth (pos 1))) ∷
    (op.Ge, number (minus 1), unsigned (pos 4294967295), Ok (truth (pos 1))) ∷
    (op.Lt, number (minus 2147483648), number (pos 2147483647), Ok (truth (pos 1))) ∷
    (op.Gt, number (minus 2147483648), number (pos 2147483647), Ok (truth (pos 0))) ∷
    (op.Le, number (pos 2147483647), number (pos 2147483647), Ok (truth (pos 1))) ∷
    (op.Lt, number (pos 2147483647), number (pos 2147483647), Ok (truth (pos 0))) ∷
    (op.Lt, unsigned (pos 0), unsigned (pos 4294967295), Ok (truth (pos 1))) ∷
    (op.Ge, unsigned (pos 0), unsigned (pos 4294967295), Ok (truth (pos 0))) ∷ []

int_comparisons_hold : Hold int_comparisons
unfolding operation delivered quotient counted fits least greatest is_signed width converted reduce common common_promoted mixed higher rank promote unsigned_of with_bits of_bits
int_comparisons_hold = refl

-- comparisons at wider and at narrower types
abbrev other_comparisons : List Case
other_comparisons =
    (op.Lt, long (minus 1), unsigned (pos 0), Ok (truth (pos 1))) ∷
    (op.Eq, long (minus 1), unsigned (pos 4294967295), Ok (truth (pos 0))) ∷
    (op.Eq, long (minus 1), unsigned_long (pos 18446744073709551615), Ok (truth (pos 1))) ∷
    (op.Ge, long (minus 9223372036854775808), long (minus 9223372036854775808), Ok (truth (pos 1))) ∷
    (op.Gt, long (pos 9223372036854775807), long (minus 9223372036854775808), Ok (truth (pos 1))) ∷
    (op.Le, unsigned_long (pos 18446744073709551615), unsigned_long (pos 0), Ok (truth (pos 0))) ∷
    (op.Ne, unsigned_long (pos 18446744073709551615), unsigned_long (pos 0), Ok (truth (pos 1))) ∷
    (op.Gt, char (minus 1), unsigned_char (pos 255), Ok (truth (pos 0))) ∷
    (op.Ne, truth (pos 1), number (pos 2), Ok (truth (pos 1))) ∷
    (op.Eq, truth (pos 1), number (pos 1), Ok (truth (pos 1))) ∷ []

other_comparisons_hold : Hold other_comparisons
unfolding operation delivered quotient counted fits least greatest is_signed width converted reduce common common_promoted mixed higher rank promote unsigned_of with_bits of_bits
other_comparisons_hold = refl
