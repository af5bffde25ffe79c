use Rattle.std.proofs.Common.{◌≡◌, take, sum_by}
use Rattle.cx_derived.specs.Ways.{bases_at, ways_within}
use Rattle.cx_derived.proofs.path.step_to.Given as goal

abbrev pub invariant-loop-i : goal.invariant-loop-i
invariant-loop-i l = sum_by (ways_within l.types l.base l.levels) (take l.i (bases_at l.types l.class)) ≡ 0
