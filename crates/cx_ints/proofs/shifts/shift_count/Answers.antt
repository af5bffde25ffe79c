use Rattle.std.proofs.Common.{arith}
use Rattle.std.proofs.lemmas.Int.{ints}
use Rattle.cx_ints.proofs.Shifting.{counted_ok, counted_negative, counted_past}
use Rattle.cx_ints.proofs.shifts.shift_count.Goals as goal
use Rattle.cx_ints.proofs.shifts.shift_count.Goals.{else-count-ge0-via-then-count-ge0+else-count-from, else-count-ge0-via-else-count-ge0}

pub returns-then-count-from-clause-value : goal.returns-then-count-from-clause-value
returns-then-count-from-clause-value c = counted_ok c.args.count c.args.ty _ (omega (arith, ints)) (omega (arith, ints))

pub returns-else-count-ge0-clause-value : goal.returns-else-count-ge0-clause-value
returns-else-count-ge0-clause-value c =
    elim c.else-count-ge0.branch [
      | else-count-ge0-via-then-count-ge0+else-count-from w ↦ counted_past c.args.count c.args.ty (omega (arith, ints))
      | else-count-ge0-via-else-count-ge0 w ↦ counted_negative c.args.count c.args.ty (omega (arith, ints))
    ]
