use Rattle.std.proofs.Common.{◌≡◌, drop}
use Rattle.cx_decls.specs.Specifiers as spec
use Rattle.cx_decls.proofs.specifiers.with_words.Given as goal

abbrev pub invariant-loop-modifier : goal.invariant-loop-modifier
invariant-loop-modifier l = spec.with_words l.all (drop l.modifier-index l.modifiers) ≡ spec.with_words l.fn.specifiers l.modifiers
