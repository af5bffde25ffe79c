use Rattle.std.proofs.Common.{◌≡◌, drop}
use Rattle.cx_tokens.specs.Numbers.{are_separated}
use Rattle.cx_tokens.proofs.numbers.are_digits.Given as goal

abbrev pub invariant-loop-b : goal.invariant-loop-b
invariant-loop-b l = are_separated l.last (drop l.b-index l.digits) ≡ are_separated 39 l.digits
