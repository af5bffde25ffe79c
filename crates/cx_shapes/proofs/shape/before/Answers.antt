use Rattle.std.proofs.Common.{arith}
use Rattle.cx_shapes.proofs.Ends.{before_get}
use Rattle.cx_shapes.proofs.shape.before.Goals as goal

pub returns-else-index-eq0 : goal.returns-else-index-eq0
returns-else-index-eq0 c = before_get c.args.ends.now c.args.index (omega arith) c.requires
