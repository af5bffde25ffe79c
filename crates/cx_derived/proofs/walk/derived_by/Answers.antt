use Rattle.std.proofs.Common.{sym, arith}
use Rattle.cx_derived.specs.Ways.{ways_to}
use Rattle.cx_derived.proofs.Counting.{ways-all, as-none, as-one, as-several}
use Rattle.cx_derived.proofs.walk.derived_by.Goals as goal

pub returns-then-count-eq0 : goal.returns-then-count-eq0
returns-then-count-eq0 c = let e = ways-all c.args.types.now c.args.class c.args.base in sym (as-none (ways_to c.args.types.now c.args.class c.args.base) (omega (arith, e, c.ways_below-count.ensures, c.if-count-eq0.true)))

pub returns-then-count-eq1 : goal.returns-then-count-eq1
returns-then-count-eq1 c = let e = ways-all c.args.types.now c.args.class c.args.base in sym (as-one (ways_to c.args.types.now c.args.class c.args.base) (omega (arith, e, c.ways_below-count.ensures, c.if-count-eq1.true)))

pub returns-else-count-eq1 : goal.returns-else-count-eq1
returns-else-count-eq1 c = let e = ways-all c.args.types.now c.args.class c.args.base in sym (as-several (ways_to c.args.types.now c.args.class c.args.base) c.ways_below-count.result (omega (arith, e, c.ways_below-count.ensures)) c.if-count-eq0.false c.if-count-eq1.false)
