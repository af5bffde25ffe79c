-- Values that the code computes in 64 bits.
use Rattle.std.specs.Prelude.{ℕ, ◌+◌, ◌*◌, ◌^◌, ◌==◌, nat_lt, Option, Some, None, if◌then◌else◌}
use Rattle.cx_tokens.specs.Numbers.{digit_value}

-- a number that takes no more than 64 bits
abbrev pub fits64 : ℕ → Option ℕ
fits64 n = if nat_lt n (2 ^ 64) then Some n else None

abbrev pub checked_digit : ℕ → Option ℕ → ℕ → Option ℕ
checked_digit radix None b = None
checked_digit radix (Some value) b = if b == 39 then Some value else fits64 (radix * value + digit_value b)
