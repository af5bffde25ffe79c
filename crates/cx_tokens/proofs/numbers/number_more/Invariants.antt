use Rattle.std.proofs.Common.{◌≡◌, ◌+◌, ◌-◌, ◌≤◌, length, drop}
use Rattle.cx_tokens.specs.Numbers.{number_more}
use Rattle.cx_tokens.proofs.numbers.number_more.Given as goal

abbrev pub invariant-run : goal.invariant-run
invariant-run l = (l.at ≤ length l.bytes) × (l.at + number_more l.before l.last (drop l.at l.bytes) ≡ number_more 0 l.first l.bytes)

abbrev pub decreases-run : goal.decreases-run
decreases-run l = length l.bytes - l.at
