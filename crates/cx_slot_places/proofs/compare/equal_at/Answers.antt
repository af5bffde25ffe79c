use Rattle.std.proofs.Common.{sym, ap, subst, ◌∙◌}
use Rattle.cx_layout.specs.Described.{columns_form}
use Rattle.cx_layout.proofs.Enclosing.{part_in}
use Rattle.cx_layout.proofs.Placing.{at_part}
use Rattle.cx_slot_places.specs.Walks.{IsMeeting}
use Rattle.cx_slot_places.proofs.Comparing.{told, met, equal_in, equal_past, equal_past_second, equal_same, equal_fork, equal_inner, equal_outer}
use Rattle.cx_slot_places.proofs.compare.equal_at.Goals as goal
use Rattle.cx_slot_places.proofs.compare.equal_at.Goals.{then-a-via-then-a, then-a-via-else-a+then-b}

pub part_ways-requires-clause-first : goal.part_ways-requires-clause-first
part_ways-requires-clause-first c =
    let f = columns_form c.args.columns.now in
    part_in c.args.columns.now.nodes.items c.args.columns.now.parts.items f c.requires.place.0 c.args.a c.requires.table (at_part f c.requires.place.0 c.args.a c.if-a.false c.requires.place.1)

pub part_ways-requires-clause-second : goal.part_ways-requires-clause-second
part_ways-requires-clause-second c =
    let f = columns_form c.args.columns.now in
    part_in c.args.columns.now.nodes.items c.args.columns.now.parts.items f c.requires.other.0 c.args.b c.requires.table (at_part f c.requires.other.0 c.args.b c.if-b.false c.requires.other.1)

pub returns-then-same_seat : goal.returns-then-same_seat
returns-then-same_seat c ss us l k = equal_in (columns_form c.args.columns.now) c.requires.table.full c.args.a c.args.b c.requires.one ss us c.seat_at-x.result c.seat_at-y.result (c.seat_at-x.ensures ss l) (c.seat_at-y.ensures us k) (sym c.same_seat.ensures ∙ c.if-same_seat.true)

pub returns-then-a : goal.returns-then-a
returns-then-a c ss us l k =
    let two = sym c.same_seat.ensures ∙ c.if-same_seat.false in
    elim c.then-a.branch [
      | then-a-via-then-a w ↦ equal_past (columns_form c.args.columns.now) c.requires.table.full c.args.a c.args.b c.requires.one ss us c.seat_at-x.result c.seat_at-y.result (c.seat_at-x.ensures ss l) (c.seat_at-y.ensures us k) two w.if-a.true
      | then-a-via-else-a+then-b w ↦ equal_past_second (columns_form c.args.columns.now) c.requires.table.full c.args.a c.args.b c.requires.one ss us c.seat_at-x.result c.seat_at-y.result (c.seat_at-x.ensures ss l) (c.seat_at-y.ensures us k) two w.if-b.true
    ]

pub returns-in-Same : goal.returns-in-Same
returns-in-Same c ss us l k =
    let f = columns_form c.args.columns.now in
    let two = sym c.same_seat.ensures ∙ c.if-same_seat.false in
    let m = met c.args.columns.now.nodes.items c.args.columns.now.parts.items f c.requires.table c.args.a c.args.b c.if-a.false c.if-b.false ss us l k c.part_ways.result c.part_ways.ensures in
    equal_same f c.requires.table.full c.args.a c.args.b c.requires.one ss us c.seat_at-x.result c.seat_at-y.result (c.seat_at-x.ensures ss l) (c.seat_at-y.ensures us k) two c.if-a.false c.if-b.false (subst (IsMeeting f ss us m.0) c.in-Same.is m.1).0

pub returns-then-are_in_union : goal.returns-then-are_in_union
returns-then-are_in_union c ss us l k =
    let f = columns_form c.args.columns.now in
    let two = sym c.same_seat.ensures ∙ c.if-same_seat.false in
    let m = met c.args.columns.now.nodes.items c.args.columns.now.parts.items f c.requires.table c.args.a c.args.b c.if-a.false c.if-b.false ss us l k c.part_ways.result c.part_ways.ensures in
    ap told (sym (sym c.are_in_union.ensures ∙ c.if-are_in_union.true))
    ∙ equal_fork f c.requires.table.full c.args.a c.args.b c.requires.one ss us c.seat_at-x.result c.seat_at-y.result (c.seat_at-x.ensures ss l) (c.seat_at-y.ensures us k) two c.if-a.false c.if-b.false c.in-Apart.fork (subst (IsMeeting f ss us m.0) c.in-Apart.is m.1)

pub returns-else-are_in_union : goal.returns-else-are_in_union
returns-else-are_in_union c ss us l k =
    let f = columns_form c.args.columns.now in
    let two = sym c.same_seat.ensures ∙ c.if-same_seat.false in
    let m = met c.args.columns.now.nodes.items c.args.columns.now.parts.items f c.requires.table c.args.a c.args.b c.if-a.false c.if-b.false ss us l k c.part_ways.result c.part_ways.ensures in
    ap told (sym (sym c.are_in_union.ensures ∙ c.if-are_in_union.false))
    ∙ equal_fork f c.requires.table.full c.args.a c.args.b c.requires.one ss us c.seat_at-x.result c.seat_at-y.result (c.seat_at-x.ensures ss l) (c.seat_at-y.ensures us k) two c.if-a.false c.if-b.false c.in-Apart.fork (subst (IsMeeting f ss us m.0) c.in-Apart.is m.1)

pub returns-in-Inner : goal.returns-in-Inner
returns-in-Inner c ss us l k =
    let f = columns_form c.args.columns.now in
    let two = sym c.same_seat.ensures ∙ c.if-same_seat.false in
    let m = met c.args.columns.now.nodes.items c.args.columns.now.parts.items f c.requires.table c.args.a c.args.b c.if-a.false c.if-b.false ss us l k c.part_ways.result c.part_ways.ensures in
    let w = subst (IsMeeting f ss us m.0) c.in-Inner.is m.1 in
    equal_inner f c.requires.table.full c.args.a c.args.b c.requires.one ss us c.seat_at-x.result c.seat_at-y.result (c.seat_at-x.ensures ss l) (c.seat_at-y.ensures us k) two c.if-a.false c.if-b.false c.in-Inner.field-0 w.0 w.1

pub returns-in-Outer : goal.returns-in-Outer
returns-in-Outer c ss us l k =
    let f = columns_form c.args.columns.now in
    let two = sym c.same_seat.ensures ∙ c.if-same_seat.false in
    let m = met c.args.columns.now.nodes.items c.args.columns.now.parts.items f c.requires.table c.args.a c.args.b c.if-a.false c.if-b.false ss us l k c.part_ways.result c.part_ways.ensures in
    let w = subst (IsMeeting f ss us m.0) c.in-Outer.is m.1 in
    equal_outer f c.requires.table.full c.args.a c.args.b c.requires.one ss us c.seat_at-x.result c.seat_at-y.result (c.seat_at-x.ensures ss l) (c.seat_at-y.ensures us k) two c.if-a.false c.if-b.false c.in-Outer.field-0 w.0 w.1
