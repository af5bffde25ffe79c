use Rattle.std.proofs.Common.{◌≡◌, map, take}
use Rattle.cx_types.specs.declared.facts.Measure.{Measure}
use Rattle.cx_type_defs.specs.Questions.{all_true}
use Rattle.cx_types.proofs.sums.all_literal.Given as goal

abbrev pub invariant-loop-part : goal.invariant-loop-part
invariant-loop-part l = l.all ≡ all_true (map (λ (m : Measure). m.facts.literal) (take l.part-index l.parts))
