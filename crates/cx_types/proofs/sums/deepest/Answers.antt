use Rattle.std.proofs.Common.{ap, ◌∙◌, sym, get_or, max}
use Rattle.cx_types.specs.declared.facts.Measure.{Measure}
use Rattle.cx_types.proofs.Totals.{most-more, no_part}
use Rattle.cx_types.proofs.sums.deepest.Goals as goal

pub loop-part-preserved : goal.loop-part-preserved
loop-part-preserved c = c.max-depth.ensures ∙ ap (λ n. max (get_or c.args.parts.now c.loop-part.part-index no_part).facts.depth n) c.loop-part.invariant ∙ sym (most-more (λ (m : Measure). m.facts.depth) c.args.parts.now c.loop-part.part-index c.loop-part-test.true)
