use Rattle.std.specs.Int.{w128}
use Rattle.std.proofs.lemmas.Int.{to_z-of_z}
use Rattle.cx_ints.proofs.Shifting.{scaled_fits, scaled_is}
use Rattle.cx_ints.proofs.shifts.scaled.Goals as goal

pub overflow_mul-result : goal.overflow_mul-result
overflow_mul-result c =
    scaled_fits c.args.value c.pow.result _ _ c.args.by c.requires.word c.requires.small c.pow.ensures (to_z-of_z w128 c.args.value c.ranges.value) (to_z-of_z w128 c.pow.result (record { sfits = c.pow.type_inv }))

pub returns : goal.returns
returns c =
    scaled_is c.args.value c.pow.result _ _ c.args.by c.requires.word c.requires.small c.pow.ensures (to_z-of_z w128 c.args.value c.ranges.value) (to_z-of_z w128 c.pow.result (record { sfits = c.pow.type_inv }))
