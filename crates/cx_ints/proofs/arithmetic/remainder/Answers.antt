use Rattle.std.specs.Int.{w128}
use Rattle.std.proofs.lemmas.Int.{to_z-of_z}
use Rattle.cx_ints.proofs.Exact.{can_divide, word_fits, remainder_ok, rem_value}
use Rattle.cx_ints.proofs.arithmetic.remainder.Goals as goal

pub nonzero_rem-result : goal.nonzero_rem-result
nonzero_rem-result c =
    let x = c.args.pair.left in
    let y = c.args.pair.right in
    can_divide c.args.pair.ty x y c.in_ok-divide_exactly.field-0 _ _ c.requires.left c.requires.right c.in_ok-divide_exactly.ensures
    (to_z-of_z w128 x (word_fits x c.requires.left)) (to_z-of_z w128 y (word_fits y c.requires.right))

pub returns : goal.returns
returns c =
    let x = c.args.pair.left in
    let y = c.args.pair.right in
    remainder_ok c.args.pair.ty x y c.in_ok-divide_exactly.field-0 _ c.in_ok-divide_exactly.ensures (rem_value x y c.requires.left c.requires.right)
