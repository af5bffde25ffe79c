use Rattle.cx_shapes.specs.Forms.{form_of}
use Rattle.cx_record_pointers.proofs.Moving.{placed_one}
use Rattle.cx_record_pointers.proofs.moves.place_in.Goals as goal

pub returns-else-seat : goal.returns-else-seat
returns-else-seat c = λ x h. placed_one (form_of c.args.shape.now) c.args.object x c.args.seat c.args.index c.place_at_one.result h c.if-seat.false c.requires.within c.place_at_one.ensures
