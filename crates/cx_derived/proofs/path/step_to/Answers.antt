use Rattle.std.proofs.Common.{◌∙◌, sym, ap, sum_by, arith}
use Rattle.std.proofs.lemmas.List.{take_all}
use Rattle.cx_derived.specs.Ways.{bases_at, ways_within}
use Rattle.cx_derived.proofs.Counting.{no-bases, none-more, many-bases}
use Rattle.cx_derived.proofs.path.step_to.Goals as goal

pub loop-i-preserved : goal.loop-i-preserved
loop-i-preserved c = none-more c.args.types.now c.args.base c.args.class c.args.levels c.loop-i.i c.base_at-next.result c.ways_below.result c.base_at-next.ensures c.loop-i.invariant c.ways_below.ensures c.if-ways_below-gt0.false

pub returns-then-not-complete : goal.returns-then-not-complete
returns-then-not-complete c = ap (sum_by (ways_within c.args.types.now c.args.base c.args.levels)) (no-bases c.args.types.now c.args.class (sym c.complete.ensures ∙ c.if-not-complete.true))

pub returns : goal.returns
returns c =
    let l = many-bases c.args.types.now c.args.class c.bases-i-end.result c.bases-i-end.ensures in
    let all = take_all c.loop-i.i (bases_at c.args.types.now c.args.class) (omega (arith, l, c.loop-i-test.false)) in
    sym (ap (sum_by (ways_within c.args.types.now c.args.base c.args.levels)) all) ∙ c.loop-i.invariant
