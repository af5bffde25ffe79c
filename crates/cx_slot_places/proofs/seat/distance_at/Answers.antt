use Rattle.std.proofs.Common.{Ok, sym, ap, ◌∙◌, w64, rules}
use Rattle.std.proofs.lemmas.Int.{to_z-of_z}
use mir.Val.{SFits}
use Rattle.cx_layout.specs.Described.{columns_form}
use Rattle.cx_slot_places.proofs.Seating.{distance_in, distance_apart}
use Rattle.cx_slot_places.proofs.seat.distance_at.Goals as goal

pub returns-then-same_seat : goal.returns-then-same_seat
returns-then-same_seat c ss us l k =
    let f : SFits w64 c.between.result = search rules in
    ap Ok (to_z-of_z w64 c.between.result f ∙ c.between.ensures)
    ∙ distance_in (columns_form c.args.columns.now) c.requires.table.full c.args.a c.args.b c.requires.one ss us c.seat_at-x.result c.seat_at-y.result (c.seat_at-x.ensures ss l) (c.seat_at-y.ensures us k) (sym c.same_seat.ensures ∙ c.if-same_seat.true)

pub returns-else-same_seat : goal.returns-else-same_seat
returns-else-same_seat c ss us l k = distance_apart (columns_form c.args.columns.now) c.requires.table.full c.args.a c.args.b c.requires.one ss us c.seat_at-x.result c.seat_at-y.result (c.seat_at-x.ensures ss l) (c.seat_at-y.ensures us k) (sym c.same_seat.ensures ∙ c.if-same_seat.false)
