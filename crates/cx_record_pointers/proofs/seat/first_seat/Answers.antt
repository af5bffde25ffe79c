use Rattle.std.proofs.Common.{◌≡◌, sym, ap, subst, true, ◌∙◌}
use Rattle.cx_shapes.specs.Forms.{form_of}
use Rattle.cx_records.specs.declared.place.End.TheVariants as end
use Rattle.cx_records.specs.Parts.{row_count}
use Rattle.cx_record_pointers.proofs.Seats.{Seated, seat_here, seat_last}
use Rattle.cx_record_pointers.proofs.seat.first_seat.Goals as goal

pub returns-in-At : goal.returns-in-At
returns-in-At c = subst (λ e. Seated (form_of c.args.shape.now) c.args.base e c.one_seat.result) (sym c.in-At.is) (seat_here (form_of c.args.shape.now) c.args.base end.At c.one_seat.result c.one_seat.ensures)

pub returns-in-Past : goal.returns-in-Past
returns-in-Past c = subst (λ e. Seated (form_of c.args.shape.now) c.args.base e c.one_seat-in-Past.result) (sym c.in-Past.is) (seat_here (form_of c.args.shape.now) c.args.base end.Past c.one_seat-in-Past.result c.one_seat-in-Past.ensures)

pub returns-in-Last : goal.returns-in-Last
returns-in-Last c =
    let f = form_of c.args.shape.now in
    let s : c.row_seat.result ≡ record { array = c.args.base; many = true; count = row_count f; index = row_count f } = c.row_seat.ensures ∙ ap (λ n. record { array = c.args.base; many = true; count = row_count f; index = n }) c.count_of.ensures in
    subst (λ e. Seated f c.args.base e c.row_seat.result) (sym c.in-Last.is) (seat_last f c.args.base c.row_seat.result s)
