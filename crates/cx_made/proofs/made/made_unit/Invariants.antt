use Rattle.std.proofs.Common.{◌≡◌, ◌+◌, ◌*◌, ◌≤◌, length}
use Rattle.cx_made.specs.Unit.{state_after, unit}
use Rattle.cx_made.proofs.made.made_unit.Given as goal

abbrev pub invariant-lines : goal.invariant-lines
invariant-lines l = (l.text.items ≡ unit l.seed l.number) × (l.state ≡ state_after l.seed l.number)
    × (length l.text.items ≤ 200 + 80 * l.number)
