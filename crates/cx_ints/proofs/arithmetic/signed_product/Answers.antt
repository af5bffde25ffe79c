use Rattle.cx_ints.proofs.Exact.{product_is}
use Rattle.cx_ints.proofs.arithmetic.signed_product.Goals as goal

pub returns : goal.returns
returns c = product_is c.args.x c.args.y c.ranges.x c.ranges.y c.requires.left c.requires.right
