use Rattle.std.proofs.Common.{ap, ◌∙◌, sym, get_or, ◌&&◌}
use Rattle.std.specs.Prelude.{is_some}
use Rattle.cx_types.specs.declared.facts.Measure.{Measure}
use Rattle.cx_types.proofs.Totals.{all-more, no_part}
use Rattle.cx_types.proofs.sums.all_sized.Goals as goal

pub loop-part-preserved : goal.loop-part-preserved
loop-part-preserved c = ap (λ b. c.loop-part.all && b) c.is_some-all.ensures ∙ ap (λ b. b && is_some (get_or c.args.parts.now c.loop-part.part-index no_part).extent) c.loop-part.invariant ∙ sym (all-more (λ (m : Measure). is_some m.extent) c.args.parts.now c.loop-part.part-index c.loop-part-test.true)
