use Rattle.std.proofs.Common.{◌≡◌, drop}
use Rattle.cx_decls.specs.Specifiers as spec
use Rattle.cx_decls.proofs.specifiers.with_parts.Given as goal

abbrev pub invariant-loop-part : goal.invariant-loop-part
invariant-loop-part l = spec.with_parts l.all (drop l.part-index l.parts) ≡ spec.with_parts l.fn.specifiers l.parts
