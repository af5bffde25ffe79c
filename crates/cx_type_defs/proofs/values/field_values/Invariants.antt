use Rattle.cx_type_defs.proofs.Fields.{Sought}
use Rattle.cx_type_defs.proofs.values.field_values.Given as goal

abbrev pub invariant-loop-bits : goal.invariant-loop-bits
invariant-loop-bits l = Sought l.fn.low l.fn.high l.bits
