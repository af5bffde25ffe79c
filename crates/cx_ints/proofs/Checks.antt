-- Small theorems: what the definitions give at numerals, by computation.
use Rattle.std.proofs.Common.{◌≡◌, true, false, refl, pos, negsuc}
use Rattle.cx_base.specs.declared.int_type.IntType.TheVariants as type
use Rattle.cx_ints.specs.Ranges.{width, is_signed, least, greatest, fits}
use Rattle.cx_ints.specs.Conversions.{reduce, converted, promote, common, common_promoted, mixed, higher, rank, unsigned_of}

int_range : fits type.Int (negsuc 2147483647) ≡ true
unfolding fits least greatest is_signed width
int_range = refl

int_past : fits type.Int (pos 2147483648) ≡ false
unfolding fits least greatest is_signed width
int_past = refl

char_of_200 : converted type.Char (pos 200) ≡ negsuc 55
unfolding converted reduce least is_signed width
char_of_200 = refl

long_of_greatest : converted type.Long (pos 18446744073709551615) ≡ negsuc 0
unfolding converted reduce least is_signed width
long_of_greatest = refl

ulong_of_minus_one : converted type.ULong (negsuc 0) ≡ pos 18446744073709551615
unfolding converted reduce least is_signed width
ulong_of_minus_one = refl

bool_of_two : converted type.Bool (pos 2) ≡ pos 1
unfolding converted
bool_of_two = refl

long_and_unsigned : common type.Long type.UInt ≡ type.Long
unfolding common common_promoted mixed higher rank promote width is_signed greatest
long_and_unsigned = refl

long_long_and_unsigned_long : common type.ULong type.LongLong ≡ type.ULongLong
unfolding common common_promoted mixed higher rank promote width is_signed greatest unsigned_of
long_long_and_unsigned_long = refl

int_and_unsigned : common type.Short type.UInt ≡ type.UInt
unfolding common common_promoted mixed higher rank promote width is_signed greatest
int_and_unsigned = refl

two_chars : common type.Char type.UChar ≡ type.Int
unfolding common common_promoted mixed higher rank promote width is_signed greatest
two_chars = refl
