use Rattle.std.proofs.Common.{ap, arith, ◌∙◌, unsigned_abs}
use Rattle.std.specs.Int.{w128}
use Rattle.std.proofs.lemmas.Int.{ints, to_z-of_z}
use Rattle.cx_ints.proofs.Patterns.{pattern_is}
use Rattle.cx_ints.proofs.bits.pattern.Goals as goal

pub returns-clause-value : goal.returns-clause-value
returns-clause-value c =
    let value = pattern_is c.args.ty c.args.value _ _ c.rem_euclid.result (to_z-of_z w128 c.args.value c.ranges.value) (omega (arith, ints)) c.rem_euclid.ensures.value in
    ap unsigned_abs (to_z-of_z w128 c.rem_euclid.result (record { sfits = c.rem_euclid.type_inv }) ∙ value)
