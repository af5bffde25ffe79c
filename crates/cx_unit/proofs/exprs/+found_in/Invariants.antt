use Rattle.std.proofs.Common.{◌≡◌, map, drop}
use Rattle.cx_unit.specs.Exprs as spec
use Rattle.cx_unit.proofs.exprs.+found_in.Given as goal

abbrev pub invariant-loop-operation : goal.invariant-loop-operation
invariant-loop-operation l = spec.chained l.fn.values l.start l.found (map spec.step_of (drop l.operation-index l.operations))
    ≡ spec.chained l.fn.values l.start l.initial.found (map spec.step_of l.operations)
