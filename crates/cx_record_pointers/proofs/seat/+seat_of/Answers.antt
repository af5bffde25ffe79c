use Rattle.std.proofs.Common.{sym, arith, ◌∙◌, ap}
use Rattle.cx_shapes.specs.Forms.{form_of}
use Rattle.cx_shapes.specs.Ways.{way_seen}
use Rattle.cx_record_pointers.specs.Seats.{element_index}
use Rattle.cx_record_pointers.proofs.Seats.{seat_element, seat_on}
use Rattle.cx_record_pointers.proofs.seat.+seat_of.Goals as goal

pub returns-in-Some-element_index : goal.returns-in-Some-element_index
returns-in-Some-element_index t c =
    seat_element (form_of c.args.shape.now) c.args.base c.args.rest c.args.end (way_seen c.in-Some.way) c.in-Some-element_index.index c.row_seat.result (omega arith) (sym c.in-Some.ensures.gives)
    (ap (element_index c.in-Some.way.step) (sym c.ends_here.ensures) ∙ sym c.element_index.ensures ∙ c.in-Some-element_index.is) c.row_seat.ensures

pub returns-in-None : goal.returns-in-None
returns-in-None t c =
    seat_on (form_of c.args.shape.now) c.args.base c.args.rest c.args.end (way_seen c.in-Some.way) c.seat_of.result (omega arith) (sym c.in-Some.ensures.gives)
    (ap (element_index c.in-Some.way.step) (sym c.ends_here.ensures) ∙ sym c.element_index.ensures ∙ c.in-None.is) c.seat_of.ensures
