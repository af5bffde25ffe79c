use Rattle.std.proofs.Common.{◌≡◌, take}
use Rattle.cx_tokens.specs.Numbers.{value_of}
use Rattle.cx_tokens.specs.Values.{fits64}
use Rattle.cx_tokens.proofs.numbers.value_of.Given as goal

abbrev pub invariant-digits : goal.invariant-digits
invariant-digits l = l.value ≡ fits64 (value_of l.radix (take l.b-index l.digits))
