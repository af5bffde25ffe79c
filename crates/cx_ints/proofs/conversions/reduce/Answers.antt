-- The sum is what `reduce` defines, and so in the range.
use Rattle.std.proofs.Common.{sym, subst, ◌∙◌, arith}
use Rattle.std.proofs.lemmas.Int.{ints}
use Rattle.cx_ints.specs.Ranges.{Fits}
use Rattle.cx_ints.proofs.TypeLaws.{reduced, reduce_fits, reduce_same}
use Rattle.cx_ints.proofs.conversions.reduce.Goals as goal

pub returns-clause-value : goal.returns-clause-value
returns-clause-value c =
    let r = c.rem_euclid.ensures.value in
    let s = c.rem_euclid-2.ensures.value in
    let sum = reduced c.args.ty c.args.value c.least-low.result c.size-size.result c.rem_euclid.result c.rem_euclid-2.result _ _ _ c.least-low.ensures.value c.size-size.ensures.value (omega (arith, ints)) (omega (arith, ints)) r (omega (arith, ints)) s in
    omega (arith, ints, sum)

pub returns-clause-in_range : goal.returns-clause-in_range
returns-clause-in_range c = subst (Fits c.args.ty) (sym (returns-clause-value c)) (reduce_fits c.args.ty c.args.value)

pub returns-clause-same : goal.returns-clause-same
returns-clause-same c fit = returns-clause-value c ∙ reduce_same c.args.ty c.args.value fit
