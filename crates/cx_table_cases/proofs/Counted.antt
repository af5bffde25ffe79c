-- Where a class leads to another by one way or more, the ways are not none.
use Rattle.std.specs.Prelude.{◌≡◌, ℕ, zero, suc, ◌≤◌}
use Rattle.std.proofs.Common.{arith}
use Rattle.cx_derived.specs.declared.walk.Ways.{Ways}
use Rattle.cx_derived.specs.declared.walk.Ways.TheVariants as ways
use Rattle.cx_derived.specs.Ways.{as_ways}

pub one_way : (n : ℕ) → ways.One ≡ as_ways n → 1 ≤ n
one_way zero e = absurd (cc)
one_way (suc n) e = omega arith

pub several_ways : (n : ℕ) → ways.Several ≡ as_ways n → 1 ≤ n
several_ways zero e = absurd (cc)
several_ways (suc n) e = omega arith
