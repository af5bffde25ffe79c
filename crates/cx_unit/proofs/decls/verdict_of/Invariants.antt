use Rattle.std.proofs.Common.{◌≡◌, [], length}
use Rattle.cx_unit.specs.Decls as spec
use Rattle.cx_unit.proofs.decls.verdict_of.Given as goal

abbrev pub invariant-loop-rest : goal.invariant-loop-rest
invariant-loop-rest l = spec.walked l.values l.lines l.rest ≡ spec.walked [] [] l.fn.unit.decls

abbrev pub decreases-loop-rest : goal.decreases-loop-rest
decreases-loop-rest l = length l.rest
