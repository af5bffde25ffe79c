use Rattle.std.proofs.Common.{◌≤◌}
use Rattle.cx_record_unions.specs.Members.{Cleared}
use Rattle.cx_record_unions.proofs.renew.clear.Given as goal

abbrev pub invariant-loop-number : goal.invariant-loop-number
invariant-loop-number l = (l.from ≤ l.number) × (l.number ≤ l.to) × Cleared l.from l.number l.phase l.fn.contents l.contents
