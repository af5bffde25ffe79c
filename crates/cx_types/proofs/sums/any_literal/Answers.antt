use Rattle.std.proofs.Common.{ap, ◌∙◌, sym, get_or, ◌||◌}
use Rattle.cx_types.specs.declared.facts.Measure.{Measure}
use Rattle.cx_types.proofs.Totals.{any-more, no_part}
use Rattle.cx_types.proofs.sums.any_literal.Goals as goal

pub loop-part-preserved : goal.loop-part-preserved
loop-part-preserved c = ap (λ b. b || (get_or c.args.parts.now c.loop-part.part-index no_part).facts.literal) c.loop-part.invariant ∙ sym (any-more (λ (m : Measure). m.facts.literal) c.args.parts.now c.loop-part.part-index c.loop-part-test.true)
