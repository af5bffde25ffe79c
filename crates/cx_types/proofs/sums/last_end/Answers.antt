use Rattle.std.proofs.Common.{◌+◌, ap, ◌∙◌, sym, subst, get_or, map, take, arith}
use Rattle.cx_types.specs.declared.facts.Measure.{Measure}
use Rattle.cx_type_defs.specs.declared.decl.Extent.{Extent}
use Rattle.cx_type_defs.specs.Questions.{end_of, rounded}
use Rattle.cx_types.specs.Kept.{Fitting}
use Rattle.cx_types.specs.Parts.{laid}
use Rattle.cx_types.proofs.Totals.{sum-more, sum-take, end-more, good-at, no_part}
use Rattle.cx_types.proofs.sums.last_end.Goals as goal

pub round_up-requires-clause-some : goal.round_up-requires-clause-some
round_up-requires-clause-some c = let f = subst (Fitting (get_or c.args.parts.now c.loop-part.part-index no_part).facts.cells) (sym c.laid_extent-extent.ensures) (good-at c.args.parts.now c.requires.good c.requires.sized c.loop-part.part-index c.loop-part-test.true) in f.least_align

pub round_up-requires-clause-few : goal.round_up-requires-clause-few
round_up-requires-clause-few c = let f = subst (Fitting (get_or c.args.parts.now c.loop-part.part-index no_part).facts.cells) (sym c.laid_extent-extent.ensures) (good-at c.args.parts.now c.requires.good c.requires.sized c.loop-part.part-index c.loop-part-test.true) in f.most_align

pub round_up-requires-clause-room : goal.round_up-requires-clause-room
round_up-requires-clause-room c = let a = c.loop-part.invariant.1 in let b = sum-take (λ (m : Measure). m.facts.cells) c.args.parts.now c.loop-part.part-index in let w = c.requires.few in omega arith

pub overflow_add-at : goal.overflow_add-at
overflow_add-at c =
    let f = subst (Fitting (get_or c.args.parts.now c.loop-part.part-index no_part).facts.cells) (sym c.laid_extent-extent.ensures) (good-at c.args.parts.now c.requires.good c.requires.sized c.loop-part.part-index c.loop-part-test.true) in
    let s = f.size_fits in let a = c.loop-part.invariant.1 in let b = sum-take (λ (m : Measure). m.facts.cells) c.args.parts.now (c.loop-part.part-index + 1) in let m = sum-more (λ (m : Measure). m.facts.cells) c.args.parts.now c.loop-part.part-index c.loop-part-test.true in let w = c.requires.few in let n = c.round_up.ensures.near in
    omega arith

pub loop-part-preserved : goal.loop-part-preserved
loop-part-preserved c =
    let f = subst (Fitting (get_or c.args.parts.now c.loop-part.part-index no_part).facts.cells) (sym c.laid_extent-extent.ensures) (good-at c.args.parts.now c.requires.good c.requires.sized c.loop-part.part-index c.loop-part-test.true) in
    let s = f.size_fits in let a = c.loop-part.invariant.1 in let m = sum-more (λ (m : Measure). m.facts.cells) c.args.parts.now c.loop-part.part-index c.loop-part-test.true in let n = c.round_up.ensures.near in (
      ap (λ n. n + c.laid_extent-extent.result.size) c.round_up.ensures.exact
          ∙ ap (λ n. rounded n c.laid_extent-extent.result.align + c.laid_extent-extent.result.size) c.loop-part.invariant.0
          ∙ ap (λ (x : Extent). rounded (end_of 0 (map laid (take c.loop-part.part-index c.args.parts.now))) x.align + x.size) c.laid_extent-extent.ensures
          ∙ sym (end-more c.args.parts.now c.loop-part.part-index c.loop-part-test.true),
      omega arith,
    )
