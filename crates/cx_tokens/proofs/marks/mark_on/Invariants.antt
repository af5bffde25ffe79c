use Rattle.std.proofs.Common.{◌≡◌, ◌+◌, ◌≤◌, drop}
use Rattle.cx_tokens.specs.Marks.{marks_on}
use Rattle.cx_tokens.proofs.marks.mark_on.Given as goal

abbrev pub invariant-loop-b : goal.invariant-loop-b
invariant-loop-b l = (marks_on l.mark (drop l.b-index l.bytes) ≡ marks_on l.fn.start l.bytes) × (l.mark.byte ≤ l.fn.start.byte + l.b-index)
    × (l.mark.line ≤ l.fn.start.line + l.b-index) × (l.mark.col ≤ l.fn.start.col + l.b-index)
