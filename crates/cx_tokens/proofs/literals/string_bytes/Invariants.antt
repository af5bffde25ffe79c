use Rattle.std.proofs.Common.{◌≡◌, ◌-◌, ◌≤◌, ◌++◌, length, drop, map}
use Rattle.cx_tokens.specs.Literals.{part_value, parts}
use Rattle.cx_tokens.proofs.literals.string_bytes.Given as goal

abbrev pub invariant-parts : goal.invariant-parts
invariant-parts l = (l.at ≤ length l.body) × (l.text ++ map part_value (parts 34 (drop l.at l.body)) ≡ map part_value (parts 34 l.body))

abbrev pub decreases-parts : goal.decreases-parts
decreases-parts l = length l.body - l.at
