use Rattle.std.proofs.Common.{sym, arith}
use Rattle.cx_shapes.specs.Forms.{form_of}
use Rattle.cx_shapes.specs.Ways.{way_seen}
use Rattle.cx_shapes.proofs.Ways.{sought}
use Rattle.cx_shapes.proofs.way.+seek.Goals as goal

pub returns-in-Some : goal.returns-in-Some
returns-in-Some t c = sought (form_of c.args.shape.now) c.args.at (way_seen c.in-Some.way) c.seek.result (omega arith) (sym c.in-Some.ensures.gives) c.seek.ensures
