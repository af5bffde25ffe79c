use Rattle.std.proofs.Common.{◌≡◌, ◌-◌, ◌<◌, ◌≤◌, length, Some}
use Rattle.cx_derived.specs.Ways.{led, ways_within}
use Rattle.cx_derived.proofs.path.steps.Given as goal

abbrev pub invariant-loop-taken : goal.invariant-loop-taken
invariant-loop-taken l = record {
  led_here : led l.types l.fn.class l.steps ≡ Some l.at;
  known_here : l.at.0 < length l.types.classes;
  leads_on : 1 ≤ ways_within l.types l.base (512 - l.taken) l.at;
}
