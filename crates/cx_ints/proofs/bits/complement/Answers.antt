use Rattle.std.proofs.Common.{◌∙◌, arith, rules, FitsSigned}
use Rattle.std.specs.Int.{w128}
use Rattle.std.proofs.lemmas.Int.{ints, to_z-of_z}
use Rattle.cx_ints.proofs.Patterns.{complement_is, pattern_at}
use Rattle.cx_ints.proofs.bits.complement.Goals as goal

pub returns : goal.returns
returns c =
    let a = c.args.a in
    let fits : FitsSigned w128 a.value = search rules in
    c.from_pattern.ensures
    ∙ complement_is a.ty a.value c.pattern.result _ (pattern_at a.ty c.pattern.result _ a.value c.pattern.ensures.value (to_z-of_z w128 a.value fits)) (omega (arith, ints))
