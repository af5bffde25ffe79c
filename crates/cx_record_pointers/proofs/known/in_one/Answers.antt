use Rattle.std.proofs.Common.{◌&&◌, sym, ap, ◌∙◌, eq-eqb}
use Rattle.cx_record_pointers.specs.Seats.{same_seat}
use Rattle.cx_record_pointers.proofs.Comparing.{in_one_is}
use Rattle.cx_record_pointers.proofs.known.in_one.Goals as goal

pub returns-then-a-b : goal.returns-then-a-b
returns-then-a-b c =
    c.same_seat.ensures ∙ sym (ap (λ b. b && same_seat c.args.x c.args.y) (eq-eqb c.args.a.object c.args.b.object c.if-a-b.true))
    ∙ in_one_is c.args._store.now.records.items c.args.a c.args.b c.args.x c.args.y c.requires.seat c.requires.other
