use Rattle.std.proofs.Common.{◌≡◌, map, take}
use Rattle.cx_types.specs.declared.facts.Measure.{Measure}
use Rattle.cx_type_defs.specs.Questions.{most}
use Rattle.cx_types.specs.Parts.{laid}
use Rattle.cx_types.proofs.sums.strictest_align.Given as goal

abbrev pub invariant-loop-part : goal.invariant-loop-part
invariant-loop-part l = l.align ≡ most (map (λ (m : Measure). (laid m).align) (take l.part-index l.parts))
