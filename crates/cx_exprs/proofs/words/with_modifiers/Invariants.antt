use Rattle.std.proofs.Common.{◌≡◌, drop}
use Rattle.cx_exprs.specs.TypeWords as spec
use Rattle.cx_exprs.proofs.words.with_modifiers.Given as goal

abbrev pub invariant-loop-modifier : goal.invariant-loop-modifier
invariant-loop-modifier l = spec.with_modifiers l.consts (drop l.modifier-index l.modifiers) ≡ spec.with_modifiers l.fn.first l.modifiers
