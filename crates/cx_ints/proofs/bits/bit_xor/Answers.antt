use Rattle.std.proofs.Common.{◌∙◌, rules, FitsSigned}
use Rattle.std.specs.Int.{w128}
use Rattle.std.proofs.lemmas.Int.{to_z-of_z}
use Rattle.cx_ints.proofs.Patterns.{pattern_at, xor_is}
use Rattle.cx_ints.proofs.bits.bit_xor.Goals as goal

pub returns : goal.returns
returns c =
    let pair = c.args.pair in
    let left : FitsSigned w128 pair.left = search rules in
    let right : FitsSigned w128 pair.right = search rules in
    c.from_pattern.ensures
    ∙ xor_is pair.ty pair.left pair.right c.pattern.result c.pattern-2.result
    (pattern_at pair.ty c.pattern.result _ pair.left c.pattern.ensures.value (to_z-of_z w128 pair.left left))
    (pattern_at pair.ty c.pattern-2.result _ pair.right c.pattern-2.ensures.value (to_z-of_z w128 pair.right right))
