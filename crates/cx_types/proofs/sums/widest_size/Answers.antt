use Rattle.std.proofs.Common.{ap, ◌∙◌, sym, get_or, max}
use Rattle.cx_types.specs.declared.facts.Measure.{Measure}
use Rattle.cx_type_defs.specs.declared.decl.Extent.{Extent}
use Rattle.cx_types.specs.Parts.{laid}
use Rattle.cx_types.proofs.Totals.{most-more, no_part}
use Rattle.cx_types.proofs.sums.widest_size.Goals as goal

pub loop-part-preserved : goal.loop-part-preserved
loop-part-preserved c = c.max-size.ensures ∙ ap (λ (e : Extent). max e.size c.loop-part.size) c.laid_extent.ensures ∙ ap (λ n. max (laid (get_or c.args.parts.now c.loop-part.part-index no_part)).size n) c.loop-part.invariant ∙ sym (most-more (λ (m : Measure). (laid m).size) c.args.parts.now c.loop-part.part-index c.loop-part-test.true)
