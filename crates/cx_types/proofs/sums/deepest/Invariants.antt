use Rattle.std.proofs.Common.{◌≡◌, map, take}
use Rattle.cx_types.specs.declared.facts.Measure.{Measure}
use Rattle.cx_type_defs.specs.Questions.{most}
use Rattle.cx_types.proofs.sums.deepest.Given as goal

abbrev pub invariant-loop-part : goal.invariant-loop-part
invariant-loop-part l = l.depth ≡ most (map (λ (m : Measure). m.facts.depth) (take l.part-index l.parts))
