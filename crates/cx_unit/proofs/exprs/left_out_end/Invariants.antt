use Rattle.std.proofs.Common.{◌≡◌, map, drop}
use Rattle.std.specs.Option.{option_or}
use Rattle.cx_unit.specs.Exprs as spec
use Rattle.cx_unit.proofs.exprs.left_out_end.Given as goal

abbrev pub invariant-loop-operation : goal.invariant-loop-operation
invariant-loop-operation l = option_or (spec.left_out_end (map spec.step_of (drop l.operation-index l.operations))) l.end ≡ spec.left_out_end (map spec.step_of l.operations)
