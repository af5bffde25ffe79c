use Rattle.std.proofs.Common.{arith, sym, ◌∙◌}
use Rattle.std.proofs.lemmas.Int.{ints, to_z-of_z}
use Rattle.std.specs.Int.{w128}
use Rattle.cx_ints.proofs.Exact.{signed_bound, unsigned_bound, unsigned_product_is}
use Rattle.cx_ints.proofs.arithmetic.multiply.Goals as goal

pub signed_product-requires-clause-left : goal.signed_product-requires-clause-left
signed_product-requires-clause-left c =
    let bound = signed_bound c.args.pair.ty c.args.pair.left (sym c.is_signed.ensures ∙ c.if-is_signed.true) c.requires.left in
    omega (arith, ints, bound)

pub signed_product-requires-clause-right : goal.signed_product-requires-clause-right
signed_product-requires-clause-right c =
    let bound = signed_bound c.args.pair.ty c.args.pair.right (sym c.is_signed.ensures ∙ c.if-is_signed.true) c.requires.right in
    omega (arith, ints, bound)

pub overflow_cast-pair : goal.overflow_cast-pair
overflow_cast-pair c =
    let bound = unsigned_bound c.args.pair.ty c.args.pair.left (sym c.is_signed.ensures ∙ c.if-is_signed.false) c.requires.left in
    let low = bound.0 in
    let high = bound.1 in
    (omega (arith, ints), record { fits = omega (arith, ints) })

pub overflow_cast-pair-else-is_signed : goal.overflow_cast-pair-else-is_signed
overflow_cast-pair-else-is_signed c =
    let bound = unsigned_bound c.args.pair.ty c.args.pair.right (sym c.is_signed.ensures ∙ c.if-is_signed.false) c.requires.right in
    let low = bound.0 in
    let high = bound.1 in
    (omega (arith, ints), record { fits = omega (arith, ints) })

pub returns-else-is_signed : goal.returns-else-is_signed
returns-else-is_signed c =
    let unsigned = sym c.is_signed.ensures ∙ c.if-is_signed.false in
    let left = (unsigned_bound c.args.pair.ty c.args.pair.left unsigned c.requires.left).0 in
    let right = (unsigned_bound c.args.pair.ty c.args.pair.right unsigned c.requires.right).0 in
    let high = (unsigned_bound c.args.pair.ty c.args.pair.left unsigned c.requires.left).1 in
    let high' = (unsigned_bound c.args.pair.ty c.args.pair.right unsigned c.requires.right).1 in
    let value = to_z-of_z w128 c.unsigned_product.result (record { sfits = c.unsigned_product.type_inv }) ∙ c.unsigned_product.ensures in
    unsigned_product_is c.args.pair.ty c.args.pair.left c.args.pair.right _ _ _ unsigned (omega (arith, ints)) (omega (arith, ints)) value
