-- Each arm's value is what `converted` defines, and so in the range.
use Rattle.std.proofs.Common.{sym, subst, ◌∙◌, ap, arith}
use Rattle.std.specs.Int.{w128}
use Rattle.std.proofs.lemmas.Int.{ints, to_z-of_z}
use Rattle.cx_ints.specs.Ranges.{Fits}
use Rattle.cx_ints.specs.Conversions.{reduce}
use Rattle.cx_ints.proofs.TypeLaws.{converted_bool, converted_other, converted_fits, converted_same}
use Rattle.cx_ints.proofs.Exact.{fits_word}
use Rattle.cx_ints.proofs.conversions.converted.Goals as goal

pub returns-in-Bool-clause-value : goal.returns-in-Bool-clause-value
returns-in-Bool-clause-value c =
    let same = to_z-of_z w128 c.args.value c.ranges.value in
    let value = converted_bool c.args.to c.args.value _ c.to_bool.result c.in-Bool.is same c.to_bool.ensures in
    omega (arith, ints, value)

pub returns-in-Bool-clause-in_range : goal.returns-in-Bool-clause-in_range
returns-in-Bool-clause-in_range c = subst (Fits c.args.to) (sym (returns-in-Bool-clause-value c)) (converted_fits c.args.to c.args.value)

pub returns-in-Bool-clause-same : goal.returns-in-Bool-clause-same
returns-in-Bool-clause-same c fit = returns-in-Bool-clause-value c ∙ converted_same c.args.to c.args.value fit

pub returns-in_default-clause-value : goal.returns-in_default-clause-value
returns-in_default-clause-value c =
    let same = to_z-of_z w128 c.args.value c.ranges.value in
    let value = c.reduce.ensures.value ∙ ap (reduce c.args.to) same ∙ sym (converted_other c.args.to c.args.value c.in_default.not-Bool) in
    omega (arith, ints, value)

pub returns-in_default-clause-in_range : goal.returns-in_default-clause-in_range
returns-in_default-clause-in_range c = subst (Fits c.args.to) (sym (returns-in_default-clause-value c)) (converted_fits c.args.to c.args.value)

pub returns-in_default-clause-same : goal.returns-in_default-clause-same
returns-in_default-clause-same c fit = returns-in_default-clause-value c ∙ converted_same c.args.to c.args.value fit

pub returns-in-Bool-clause-word : goal.returns-in-Bool-clause-word
returns-in-Bool-clause-word c = fits_word c.args.to _ (returns-in-Bool-clause-in_range c)

pub returns-in_default-clause-word : goal.returns-in_default-clause-word
returns-in_default-clause-word c = fits_word c.args.to _ (returns-in_default-clause-in_range c)
