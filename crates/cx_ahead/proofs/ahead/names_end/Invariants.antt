use Rattle.std.proofs.Common.{◌≡◌, length}
use Rattle.cx_syntax.specs.Ahead as spec
use Rattle.cx_ahead.proofs.ahead.names_end.Given as goal

abbrev pub invariant-loop-rest : goal.invariant-loop-rest
invariant-loop-rest l = spec.names_end l.rest ≡ spec.names_end l.fn.tokens

abbrev pub decreases-loop-rest : goal.decreases-loop-rest
decreases-loop-rest l = length l.rest
