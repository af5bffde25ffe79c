use Rattle.std.proofs.Common.{◌≡◌, min, ◌+◌, ◌-◌, take, sum_by}
use Rattle.cx_derived.specs.Ways.{bases_at, ways_within}
use Rattle.cx_derived.proofs.Counting.{here}
use Rattle.cx_derived.proofs.walk.+ways_below.Given as goal

abbrev pub decreases-ways_below : goal.decreases-ways_below
decreases-ways_below l = l.levels

abbrev pub invariant-loop-i : goal.invariant-loop-i
invariant-loop-i l = l.total ≡ min (here l.class l.base + sum_by (ways_within l.types l.base (l.levels - 1)) (take l.i (bases_at l.types l.class))) 2
