use Rattle.std.proofs.Common.{sym, arith}
use Rattle.cx_shapes.specs.Forms.{form_of}
use Rattle.cx_shapes.specs.Ways.{way_seen}
use Rattle.cx_records.specs.Records.{cells_of}
use Rattle.cx_records.proofs.Passing.{walked_gives, no_walk}
use Rattle.cx_records.proofs.walk.+walk.Goals as goal

pub returns-in-None-walk : goal.returns-in-None-walk
returns-in-None-walk t c = no_walk (form_of c.args.shape.now) c.args.rest (way_seen c.in-Some.way) (omega arith) (sym c.in-Some.ensures.gives) c.in-None-walk.ensures

pub returns-in-Some-walk : goal.returns-in-Some-walk
returns-in-Some-walk t c = (
  λ fs. walked_gives (form_of c.args.shape.now) (cells_of fs c.args.contents.now) c.args.base c.args.rest (way_seen c.in-Some.way) (form_of c.in-Some-walk.standing.shape.now) c.in-Some-walk.standing.there c.in-Some-walk.standing.dead
      (omega arith) (sym c.in-Some.ensures.gives) (c.in-Some-walk.ensures.0 fs) c.open_at-here.result c.dead_at-dead.result
      (c.open_at-here.ensures (cells_of fs c.args.contents.now c.args.base) (sym (c.member.ensures fs))) (c.dead_at-dead.ensures (cells_of fs c.args.contents.now c.args.base) (sym (c.phase.ensures fs)))
      c.both.result c.either.result c.both-in-Some-walk.result c.both.ensures c.both-in-Some-walk.ensures c.either.ensures,
  c.in-Some-walk.ensures.1,
)
