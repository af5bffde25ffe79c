-- The bits of whole numbers in two's complement ([basic.fundamental]).
use Rattle.std.specs.Prelude.{ℕ, zero, suc, ◌+◌, ◌-◌, ◌*◌, ◌/◌, ◌%◌, ◌^◌, ℤ, pos, negsuc}
use Rattle.cx_base.specs.declared.int_type.IntType.{IntType}
use Rattle.cx_ints.specs.Ranges.{width}
use Rattle.cx_ints.specs.Conversions.{reduce}

-- the quotient, rounded down
abbrev pub floor_div : ℤ → ℕ → ℤ
floor_div (pos a) d = pos (a / d)
floor_div (negsuc a) d = negsuc (a / d)

-- 1 for an odd number: -(a + 1) is odd where a is even
abbrev pub parity : ℤ → ℕ
parity (pos a) = a % 2
parity (negsuc a) = 1 - a % 2

-- bit k, where bit 0 is the lowest
abbrev pub bit : ℤ → ℕ → ℕ
bit z k = parity (floor_div z (2 ^ k))

-- the number that has these bits below bit n, and no others
unfoldable pub with_bits : ℕ → (ℕ → ℕ) → ℕ
with_bits zero f = 0
with_bits (suc n) f = f n * 2 ^ n + with_bits n f

-- the type's value that has these bits
unfoldable pub of_bits : IntType → (ℕ → ℕ) → ℤ
of_bits t f = reduce t (pos (with_bits (width t) f))
