-- Small theorems on the operations: what the definitions give at numerals, by computation.
use Rattle.std.proofs.Common.{◌≡◌, ℕ, ◌^◌, ◌<◌, refl, sym, ap, ◌∙◌, arith, ℤ, pos, negsuc, ◌+ℤ◌, ◌-ℤ◌, ◌*ℤ◌, ◌≤ℤ◌, ◌<ℤ◌, Ok, Err}
use Rattle.std.specs.Int.{bit_at}
use Rattle.std.proofs.lemmas.Int.{ints}
use Rattle.std.proofs.Math.Nat.{div-add-mod', mod-lt}
use Rattle.std.proofs.Math.Pow.{pow_pos}
use Rattle.cx_base.specs.declared.int_type.IntType.{IntType}
use Rattle.cx_base.specs.declared.int_type.IntType.TheVariants as type
use Rattle.cx_base.specs.declared.rule.Rule.TheVariants as rule
use Rattle.cx_ints.specs.declared.operators.BinOp.TheVariants as op
use Rattle.cx_ints.specs.declared.operators.UnOp.TheVariants as un
use Rattle.cx_ints.specs.Ranges.{width, is_signed, least, greatest, fits}
use Rattle.cx_ints.specs.Conversions.{reduce, converted, promote, common, common_promoted, mixed, higher, rank, unsigned_of}
use Rattle.cx_ints.specs.Bits.{bit, floor_div, with_bits, of_bits}
use Rattle.cx_ints.specs.Operations.{int, delivered, quotient, counted, operation, unary_operation}
use Rattle.cx_ints.proofs.Residues.{rest, rest_differs, rest_same}
use Rattle.cx_ints.proofs.Patterns.{AreBits, bit_of_with_bits, rest_is, bits_are}

short_sum : operation op.Add (int type.Short (pos 32767)) (int type.Short (pos 1)) ≡ Ok (int type.Int (pos 32768))
unfolding operation delivered fits least greatest is_signed width converted reduce common common_promoted mixed higher rank promote
short_sum = refl

int_overflow : operation op.Add (int type.Int (pos 2147483647)) (int type.Bool (pos 1)) ≡ Err rule.Overflow
unfolding operation delivered fits least greatest is_signed width converted reduce common common_promoted mixed higher rank promote
int_overflow = refl

long_long_with_unsigned_long : operation op.Add (int type.LongLong (negsuc 0)) (int type.ULong (pos 0)) ≡ Ok (int type.ULongLong (pos 18446744073709551615))
unfolding operation delivered fits least greatest is_signed width converted reduce common common_promoted mixed higher rank promote unsigned_of
long_long_with_unsigned_long = refl

towards_zero : operation op.Div (int type.Int (negsuc 6)) (int type.Int (pos 2)) ≡ Ok (int type.Int (negsuc 2))
unfolding operation quotient fits least greatest is_signed width converted reduce common common_promoted mixed higher rank promote
towards_zero = refl

remainder_of_negative : operation op.Rem (int type.Int (negsuc 6)) (int type.Int (pos 2)) ≡ Ok (int type.Int (negsuc 0))
unfolding operation quotient fits least greatest is_signed width converted reduce common common_promoted mixed higher rank promote
remainder_of_negative = refl

remainder_of_least : operation op.Rem (int type.Long (negsuc 9223372036854775807)) (int type.Int (negsuc 0)) ≡ Err rule.Quotient
unfolding operation quotient fits least greatest is_signed width converted reduce common common_promoted mixed higher rank promote
remainder_of_least = refl

shift_into_sign : operation op.Shl (int type.UChar (pos 255)) (int type.Int (pos 24)) ≡ Ok (int type.Int (negsuc 16777215))
unfolding operation counted least is_signed width converted reduce promote
shift_into_sign = refl

shift_past : operation op.Shl (int type.Int (pos 1)) (int type.Int (pos 32)) ≡ Err rule.ShiftCount
unfolding operation counted least is_signed width converted reduce promote
shift_past = refl

shift_down : operation op.Shr (int type.Int (negsuc 8)) (int type.Int (pos 1)) ≡ Ok (int type.Int (negsuc 4))
unfolding operation counted least is_signed width converted reduce promote
shift_down = refl

long_with_unsigned : operation op.Xor (int type.Long (negsuc 0)) (int type.UInt (pos 1)) ≡ Ok (int type.Long (negsuc 1))
unfolding operation with_bits of_bits least greatest is_signed width converted reduce common common_promoted mixed higher rank promote
long_with_unsigned = refl

minus_one_below : operation op.Lt (int type.Int (negsuc 0)) (int type.UInt (pos 1)) ≡ Ok (int type.Bool (pos 0))
unfolding operation least greatest is_signed width converted reduce common common_promoted mixed higher rank promote
minus_one_below = refl

complement_of_char : unary_operation un.Complement (int type.UChar (pos 1)) ≡ Ok (int type.Int (negsuc 1))
unfolding unary_operation with_bits of_bits least is_signed width converted reduce promote
complement_of_char = refl

complement_of_unsigned : unary_operation un.Complement (int type.UInt (pos 1)) ≡ Ok (int type.UInt (pos 4294967294))
unfolding unary_operation with_bits of_bits least is_signed width converted reduce promote
complement_of_unsigned = refl

-- ---- laws that tell what the definitions are

-- the quotient rounded down is the greatest number whose product isn't above
floor_from : (z : ℤ) (d : ℕ) → 0 < d → (floor_div z d *ℤ pos d) ≤ℤ z
floor_from (pos a) d some = let h = div-add-mod' a d in omega (arith, ints)
floor_from (negsuc a) d some = let h = div-add-mod' a d in let l = mod-lt a some in omega (arith, ints)

floor_below : (z : ℤ) (d : ℕ) → 0 < d → z <ℤ (floor_div z d *ℤ pos d +ℤ pos d)
floor_below (pos a) d some = let h = div-add-mod' a d in let l = mod-lt a some in omega (arith, ints)
floor_below (negsuc a) d some = let h = div-add-mod' a d in omega (arith, ints)

-- a reduced number is congruent to the number
reduced_rest : (t : IntType) (z : ℤ) → rest (reduce t z) (2 ^ width t) ≡ rest z (2 ^ width t)
unfolding reduce
reduced_rest t z =
    let d = rest_differs (z -ℤ least t) (2 ^ width t) (pow_pos (width t)) in
    rest_same (reduce t z) z (2 ^ width t) d.0 d.1 (pow_pos (width t)) (omega (arith, ints, d.2))

-- the type's value with the bits of f has those bits
has_its_bits : (t : IntType) (f : ℕ → ℕ) (k : ℕ) → AreBits f → k < width t → bit (of_bits t f) k ≡ f k
unfolding of_bits
has_its_bits t f k bits l =
    let n = width t in
    let m = with_bits n f in
    let same : pos (with_bits n (λ j. bit (reduce t (pos m)) j)) ≡ pos (with_bits n (λ j. bit (pos m) j)) = sym (rest_is n (reduce t (pos m))) ∙ reduced_rest t (pos m) ∙ rest_is n (pos m) in
    let naturals : with_bits n (λ j. bit (reduce t (pos m)) j) ≡ with_bits n (λ j. bit (pos m) j) = cc in
    sym (bit_of_with_bits n (λ j. bit (reduce t (pos m)) j) k (bits_are (reduce t (pos m))) l)
    ∙ ap (λ (v : ℕ). bit_at v k) naturals
    ∙ bit_of_with_bits n (λ j. bit (pos m) j) k (bits_are (pos m)) l
    ∙ bit_of_with_bits n f k bits l
