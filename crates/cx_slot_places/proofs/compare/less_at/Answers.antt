use Rattle.std.proofs.Common.{sym, ap, subst, ◌∙◌}
use Rattle.cx_state.specs.Pointers.{or_unspecified}
use Rattle.cx_layout.specs.Described.{columns_form}
use Rattle.cx_layout.proofs.Enclosing.{part_in}
use Rattle.cx_layout.proofs.Placing.{at_part}
use Rattle.cx_slot_places.specs.Walks.{IsMeeting}
use Rattle.cx_slot_places.proofs.Comparing.{met, less_in, less_past, less_past_second, less_fork, less_other}
use Rattle.cx_slot_places.proofs.compare.less_at.Goals as goal
use Rattle.cx_slot_places.proofs.compare.less_at.Goals.{then-a-via-then-a, then-a-via-else-a+then-b}

pub part_ways-requires-clause-first : goal.part_ways-requires-clause-first
part_ways-requires-clause-first c =
    let f = columns_form c.args.columns.now in
    part_in c.args.columns.now.nodes.items c.args.columns.now.parts.items f c.requires.place.0 c.args.a c.requires.table (at_part f c.requires.place.0 c.args.a c.if-a.false c.requires.place.1)

pub part_ways-requires-clause-second : goal.part_ways-requires-clause-second
part_ways-requires-clause-second c =
    let f = columns_form c.args.columns.now in
    part_in c.args.columns.now.nodes.items c.args.columns.now.parts.items f c.requires.other.0 c.args.b c.requires.table (at_part f c.requires.other.0 c.args.b c.if-b.false c.requires.other.1)

pub returns-then-same_seat : goal.returns-then-same_seat
returns-then-same_seat c ss us l k = less_in (columns_form c.args.columns.now) c.requires.table.full c.args.a c.args.b c.requires.one ss us c.seat_at-x.result c.seat_at-y.result (c.seat_at-x.ensures ss l) (c.seat_at-y.ensures us k) (sym c.same_seat.ensures ∙ c.if-same_seat.true)

pub returns-then-a : goal.returns-then-a
returns-then-a c ss us l k =
    let two = sym c.same_seat.ensures ∙ c.if-same_seat.false in
    elim c.then-a.branch [
      | then-a-via-then-a w ↦ less_past (columns_form c.args.columns.now) c.requires.table.full c.args.a c.args.b c.requires.one ss us c.seat_at-x.result c.seat_at-y.result (c.seat_at-x.ensures ss l) (c.seat_at-y.ensures us k) two w.if-a.true
      | then-a-via-else-a+then-b w ↦ less_past_second (columns_form c.args.columns.now) c.requires.table.full c.args.a c.args.b c.requires.one ss us c.seat_at-x.result c.seat_at-y.result (c.seat_at-x.ensures ss l) (c.seat_at-y.ensures us k) two w.if-b.true
    ]

pub returns-in-Some : goal.returns-in-Some
returns-in-Some c ss us l k =
    let f = columns_form c.args.columns.now in
    let two = sym c.same_seat.ensures ∙ c.if-same_seat.false in
    let m = met c.args.columns.now.nodes.items c.args.columns.now.parts.items f c.requires.table c.args.a c.args.b c.if-a.false c.if-b.false ss us l k c.part_ways.result c.part_ways.ensures in
    ap or_unspecified (sym (sym c.comes_before.ensures ∙ c.in-Some.is))
    ∙ less_fork f c.requires.table.full c.args.a c.args.b c.requires.one ss us c.seat_at-x.result c.seat_at-y.result (c.seat_at-x.ensures ss l) (c.seat_at-y.ensures us k) two c.if-a.false c.if-b.false c.in-Apart.fork (subst (IsMeeting f ss us m.0) c.in-Apart.is m.1)

pub returns-in-None : goal.returns-in-None
returns-in-None c ss us l k =
    let f = columns_form c.args.columns.now in
    let two = sym c.same_seat.ensures ∙ c.if-same_seat.false in
    let m = met c.args.columns.now.nodes.items c.args.columns.now.parts.items f c.requires.table c.args.a c.args.b c.if-a.false c.if-b.false ss us l k c.part_ways.result c.part_ways.ensures in
    ap or_unspecified (sym (sym c.comes_before.ensures ∙ c.in-None.is))
    ∙ less_fork f c.requires.table.full c.args.a c.args.b c.requires.one ss us c.seat_at-x.result c.seat_at-y.result (c.seat_at-x.ensures ss l) (c.seat_at-y.ensures us k) two c.if-a.false c.if-b.false c.in-Apart.fork (subst (IsMeeting f ss us m.0) c.in-Apart.is m.1)

pub returns-in_default : goal.returns-in_default
returns-in_default c ss us l k =
    let f = columns_form c.args.columns.now in
    let two = sym c.same_seat.ensures ∙ c.if-same_seat.false in
    let m = met c.args.columns.now.nodes.items c.args.columns.now.parts.items f c.requires.table c.args.a c.args.b c.if-a.false c.if-b.false ss us l k c.part_ways.result c.part_ways.ensures in
    less_other f c.requires.table.full c.args.a c.args.b c.requires.one ss us c.seat_at-x.result c.seat_at-y.result (c.seat_at-x.ensures ss l) (c.seat_at-y.ensures us k) two c.if-a.false c.if-b.false m.0 c.part_ways.result m.1 c.in_default.not-Apart
