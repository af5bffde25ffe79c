use Rattle.std.proofs.Common.{◌≡◌, drop}
use Rattle.cx_exprs.specs.TypeWords as spec
use Rattle.cx_exprs.proofs.words.modifiers_in.Given as goal

abbrev pub invariant-loop-part : goal.invariant-loop-part
invariant-loop-part l = spec.modifiers_in l.consts (drop l.part-index l.parts) ≡ spec.modifiers_in l.fn.first l.parts
