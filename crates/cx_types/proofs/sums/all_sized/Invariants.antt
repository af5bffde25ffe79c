use Rattle.std.proofs.Common.{◌≡◌, map, take}
use Rattle.std.specs.Prelude.{is_some}
use Rattle.cx_types.specs.declared.facts.Measure.{Measure}
use Rattle.cx_type_defs.specs.Questions.{all_true}
use Rattle.cx_types.proofs.sums.all_sized.Given as goal

abbrev pub invariant-loop-part : goal.invariant-loop-part
invariant-loop-part l = l.all ≡ all_true (map (λ (m : Measure). is_some m.extent) (take l.part-index l.parts))
