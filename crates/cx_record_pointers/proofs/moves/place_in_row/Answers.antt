use Rattle.std.proofs.Common.{◌<◌, arith}
use Rattle.cx_shapes.specs.Forms.{form_of}
use Rattle.cx_record_pointers.proofs.Moving.{has_element, placed_last, placed_element}
use Rattle.cx_record_pointers.proofs.moves.place_in_row.Goals as goal

pub element_number-requires-clause-there : goal.element_number-requires-clause-there
element_number-requires-clause-there c =
    let l : c.args.index < c.args.seat.count = omega arith in
    has_element (form_of c.args.shape.now) c.requires.seat.0 c.args.seat c.args.index c.requires.seat.1 c.requires.many l

pub returns-then-index-seat : goal.returns-then-index-seat
returns-then-index-seat c = λ x h. placed_last (form_of c.args.shape.now) c.args.object x c.args.seat c.args.index h c.requires.many c.if-index-seat.true

pub returns-else-index-seat : goal.returns-else-index-seat
returns-else-index-seat c = λ x h. placed_element (form_of c.args.shape.now) c.args.object x c.args.seat c.args.index c.element_number.result h c.requires.many c.if-index-seat.false c.element_number.ensures
