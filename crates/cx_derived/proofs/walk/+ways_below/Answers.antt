use Rattle.std.proofs.Common.{◌+◌, ◌-◌, ◌∙◌, min, ap, sym, arith, sum_by}
use Rattle.std.proofs.lemmas.List.{take_all}
use Rattle.std.proofs.lemmas.List.Sums.{sum_by-take-le}
use Rattle.cx_derived.specs.Ways.{bases_at, ways_within}
use Rattle.cx_derived.proofs.Counting.{here, no-bases, no-more, many-bases, base-stands, ways-open, more, byte-is}
use Rattle.cx_derived.proofs.walk.+ways_below.Goals as goal

pub returns-then-levels-eq0 : goal.returns-then-levels-eq0
unfolding ways_within
returns-then-levels-eq0 t c = ap (λ n. min (ways_within c.args.types.now c.args.base n c.args.class) 2) (sym c.if-levels-eq0.true)

pub returns-then-not-complete : goal.returns-then-not-complete
returns-then-not-complete t c =
    let none = no-bases c.args.types.now c.args.class (sym c.complete.ensures ∙ c.if-not-complete.true) in
    let e = no-more c.args.types.now c.args.base c.args.class c.args.levels (omega (arith, c.if-levels-eq0.false)) none in
    let h = byte-is c.args.class c.args.base c.from-here.result c.from-here.ensures in
    omega (arith, e, h.0, h.1)

pub loop-i-init : goal.loop-i-init
loop-i-init t c =
    let h = byte-is c.args.class c.args.base c.from-here.result c.from-here.ensures in
    omega (arith, h.0, h.1)

pub base_at-next-requires : goal.base_at-next-requires
base_at-next-requires t c = base-stands c.args.types.now c.args.class c.bases-i-end.result c.loop-i.i c.bases-i-end.ensures c.loop-i-test.true

pub overflow_add-total : goal.overflow_add-total
overflow_add-total t c = omega (arith, c.loop-i.invariant, c.ways_below.ensures)

pub loop-i-preserved : goal.loop-i-preserved
loop-i-preserved t c = c.min-total.ensures ∙ more c.args.types.now c.args.base c.args.class (c.args.levels - 1) c.loop-i.i (here c.args.class c.args.base) c.base_at-next.result c.loop-i.total c.ways_below.result c.base_at-next.ensures c.loop-i.invariant c.ways_below.ensures

pub returns : goal.returns
returns t c =
    let l = many-bases c.args.types.now c.args.class c.bases-i-end.result c.bases-i-end.ensures in
    let all = take_all c.loop-i.i (bases_at c.args.types.now c.args.class) (omega (arith, l, c.loop-i-test.false)) in
    let s = ap (sum_by (ways_within c.args.types.now c.args.base (c.args.levels - 1))) all in
    let o = ways-open c.args.types.now c.args.base c.args.class c.args.levels (omega (arith, c.if-levels-eq0.false)) in
    omega (arith, s, o, c.loop-i.invariant)

pub returns-then-total-eq2 : goal.returns-then-total-eq2
returns-then-total-eq2 t c =
    let m = more c.args.types.now c.args.base c.args.class (c.args.levels - 1) c.loop-i.i (here c.args.class c.args.base) c.base_at-next.result c.loop-i.total c.ways_below.result c.base_at-next.ensures c.loop-i.invariant c.ways_below.ensures in
    let le = sum_by-take-le (ways_within c.args.types.now c.args.base (c.args.levels - 1)) (bases_at c.args.types.now c.args.class) (c.loop-i.i + 1) in
    let o = ways-open c.args.types.now c.args.base c.args.class c.args.levels (omega (arith, c.if-levels-eq0.false)) in
    omega (arith, m, le, o, c.min-total.ensures, c.if-total-eq2.true)
