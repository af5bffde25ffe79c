use Rattle.std.proofs.Common.{◌≡◌, map, take}
use Rattle.cx_types.specs.declared.facts.Measure.{Measure}
use Rattle.cx_type_defs.specs.Questions.{any_true}
use Rattle.cx_types.proofs.sums.any_literal.Given as goal

abbrev pub invariant-loop-part : goal.invariant-loop-part
invariant-loop-part l = l.any ≡ any_true (map (λ (m : Measure). m.facts.literal) (take l.part-index l.parts))
