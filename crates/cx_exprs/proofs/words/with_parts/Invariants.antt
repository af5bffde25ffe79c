use Rattle.std.proofs.Common.{◌≡◌, drop}
use Rattle.cx_exprs.specs.TypeWords as spec
use Rattle.cx_exprs.proofs.words.with_parts.Given as goal

abbrev pub invariant-loop-part : goal.invariant-loop-part
invariant-loop-part l = spec.with_parts l.words (drop l.part-index l.parts) ≡ spec.with_parts l.fn.first l.parts
