use Rattle.std.proofs.Common.{◌≡◌, ◌+◌, ◌-◌, ◌≤◌, length, drop}
use Rattle.cx_tokens.specs.Literals.{inner_size}
use Rattle.cx_tokens.proofs.literals.inner_size.Given as goal

abbrev pub invariant-parts : goal.invariant-parts
invariant-parts l = (l.at ≤ length l.body) × (l.at + inner_size l.quote (drop l.at l.body) ≡ inner_size l.quote l.body)

abbrev pub decreases-parts : goal.decreases-parts
decreases-parts l = length l.body - l.at
