use Rattle.std.proofs.Common.{ap, ◌∙◌, sym, get_or, max}
use Rattle.cx_types.specs.declared.facts.Measure.{Measure}
use Rattle.cx_types.proofs.Totals.{most-more, no_part}
use Rattle.cx_types.proofs.sums.largest.Goals as goal

pub loop-part-preserved : goal.loop-part-preserved
loop-part-preserved c = c.max-cells.ensures ∙ ap (λ n. max (get_or c.args.parts.now c.loop-part.part-index no_part).facts.cells n) c.loop-part.invariant ∙ sym (most-more (λ (m : Measure). m.facts.cells) c.args.parts.now c.loop-part.part-index c.loop-part-test.true)
