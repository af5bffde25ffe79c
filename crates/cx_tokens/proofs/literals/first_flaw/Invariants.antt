use Rattle.std.proofs.Common.{◌≡◌, ◌-◌, ◌≤◌, length, drop}
use Rattle.cx_tokens.specs.Scanning.{flaw_from}
use Rattle.cx_tokens.proofs.literals.first_flaw.Given as goal

abbrev pub invariant-parts : goal.invariant-parts
invariant-parts l = (l.at ≤ length l.body) × (flaw_from l.look l.quote l.body (drop l.at l.body) ≡ flaw_from l.look l.quote l.body l.body)

abbrev pub decreases-parts : goal.decreases-parts
decreases-parts l = length l.body - l.at
