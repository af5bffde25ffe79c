use Rattle.std.proofs.Common.{arith}
use Rattle.std.proofs.lemmas.Int.{ints}
use Rattle.cx_ints.proofs.Exact.{zero_bits, not_zero, quotient_by_zero, quotient_ok, quotient_err, quot_value}
use Rattle.cx_ints.proofs.arithmetic.divide_exactly.Goals as goal

pub returns-then-pair-eq0 : goal.returns-then-pair-eq0
returns-then-pair-eq0 c = quotient_by_zero c.args.pair.ty c.args.pair.left c.args.pair.right (zero_bits c.args.pair.right c.requires.right c.if-pair-eq0.true)

pub returns-then-fits : goal.returns-then-fits
returns-then-fits c =
    let value = quot_value c.args.pair.left c.args.pair.right c.requires.left c.requires.right in
    quotient_ok c.args.pair.ty c.args.pair.left c.args.pair.right _ _ c.fits.result (not_zero c.args.pair.right c.if-pair-eq0.false) value (omega (arith, ints, value)) c.fits.ensures.test c.if-fits.true

pub returns-else-fits : goal.returns-else-fits
returns-else-fits c =
    let value = quot_value c.args.pair.left c.args.pair.right c.requires.left c.requires.right in
    quotient_err c.args.pair.ty c.args.pair.left c.args.pair.right _ c.fits.result (not_zero c.args.pair.right c.if-pair-eq0.false) (omega (arith, ints, value)) c.fits.ensures.test c.if-fits.false
