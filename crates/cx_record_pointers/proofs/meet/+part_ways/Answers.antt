use Rattle.std.proofs.Common.{◌∙◌, sym, arith}
use Rattle.cx_shapes.specs.Forms.{form_of}
use Rattle.cx_shapes.specs.Ways.{way_seen}
use Rattle.cx_record_pointers.proofs.Meetings.{meet_more, meet_apart}
use Rattle.cx_record_pointers.proofs.meet.+part_ways.Goals as goal

pub returns-then-same_step : goal.returns-then-same_step
returns-then-same_step t c =
    meet_more (form_of c.args.shape.now) c.args.a c.args.b (way_seen c.in-Some.left) (way_seen c.in-Some-way_of.right) c.part_ways.result (omega arith) (omega arith)
    (sym c.in-Some.ensures.gives) (sym c.in-Some-way_of.ensures.gives) (sym c.same_step.ensures ∙ c.if-same_step.true) c.part_ways.ensures

pub returns-else-same_step : goal.returns-else-same_step
returns-else-same_step t c =
    meet_apart (form_of c.args.shape.now) c.args.a c.args.b (way_seen c.in-Some.left) (way_seen c.in-Some-way_of.right) c.is_union.result (omega arith) (omega arith)
    (sym c.in-Some.ensures.gives) (sym c.in-Some-way_of.ensures.gives) (sym c.same_step.ensures ∙ c.if-same_step.false) c.is_union.ensures
