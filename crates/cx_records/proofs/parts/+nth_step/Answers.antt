use Rattle.std.proofs.Common.{sym, arith}
use Rattle.cx_shapes.specs.Forms.{form_of}
use Rattle.cx_shapes.specs.Ways.{way_seen}
use Rattle.cx_records.proofs.Elements.{later_step}
use Rattle.cx_records.proofs.parts.+nth_step.Goals as goal

pub returns-else-k-eq0 : goal.returns-else-k-eq0
returns-else-k-eq0 t c = λ us e. later_step (form_of c.args.shape.now) c.args.end c.args.rest c.args.k (way_seen c.in-Some.way) us c.nth_step.result (omega arith) (omega arith) (sym c.in-Some.ensures.gives) e c.nth_step.ensures
