use Rattle.std.proofs.Common.{◌≤◌, ◌∙◌, false, sym, subst, arith}
use Rattle.cx_layout.specs.Described.{columns_form}
use Rattle.cx_layout.proofs.Pathing.{place_there, few_before, before_end}
use Rattle.cx_slot_places.specs.Walks.{IsSeat}
use Rattle.cx_state.specs.Places.{spot}
use Rattle.cx_slot_places.specs.Pointers.{path_to}
use Rattle.cx_slot_places.proofs.Seating.{byte_is, first_seat, other_seat, is_end, end_seat, element_seat, start_before, some_cells, parent_in, array_there}
use Rattle.cx_slot_places.proofs.seat.seat_at.Goals as goal
use Rattle.cx_slot_places.proofs.seat.seat_at.Goals.{then-at-eq0-via-then-at-eq0, then-at-eq0-via-else-at-eq0+then-not-is_element}

pub node-row-requires : goal.node-row-requires
node-row-requires c = place_there c.args.columns.now.nodes.items c.args.columns.now.parts.items (columns_form c.args.columns.now) c.args.at c.requires.table c.requires.place

pub returns-then-at-eq0 : goal.returns-then-at-eq0
returns-then-at-eq0 c ss l =
    subst (λ i. IsSeat (columns_form c.args.columns.now) c.args.at (spot (path_to c.args.at ss)) (record { node = c.args.at.node; start = c.args.at.slot; many = false; count = 1; stride = 0; index = i })) (sym (c.from.ensures ∙ byte_is c.args.at.past))
    (elim c.then-at-eq0.branch [
      | then-at-eq0-via-then-at-eq0 w ↦ first_seat c.args.columns.now.nodes.items c.args.columns.now.parts.items (columns_form c.args.columns.now) c.args.at c.requires.table ss l c.node-row.result c.node-row.ensures w.if-at-eq0.true
      | then-at-eq0-via-else-at-eq0+then-not-is_element w ↦ other_seat c.args.columns.now.nodes.items c.args.columns.now.parts.items (columns_form c.args.columns.now) c.args.at c.requires.table ss l c.node-row.result c.node-row.ensures (sym w.is_element.ensures ∙ w.if-not-is_element.true)
    ])

pub node-requires : goal.node-requires
node-requires c =
    let e = sym c.is_element.ensures ∙ c.if-not-is_element.false in
    let l : 1 ≤ c.args.at.node = omega arith in
    array_there c.args.columns.now.nodes.items c.args.columns.now.parts.items (columns_form c.args.columns.now) c.args.at c.requires.table c.requires.place.0 c.requires.place.1 c.node-row.result c.node-row.ensures l e

pub overflow_mul-result : goal.overflow_mul-result
overflow_mul-result c =
    let e = sym c.is_element.ensures ∙ c.if-not-is_element.false in
    let l : 1 ≤ c.args.at.node = omega arith in
    let z = is_end c.args.columns.now.nodes.items c.args.columns.now.parts.items (columns_form c.args.columns.now) c.args.at c.requires.table c.requires.place.0 c.requires.place.1 c.node-row.result c.node-row.ensures l e c.node.result c.node.ensures c.count_of-count.result c.count_of-count.ensures c.if-at.true in
    let few = few_before c.args.columns.now.nodes.items c.args.columns.now.parts.items (columns_form c.args.columns.now) c.args.at c.requires.table c.requires.place c.node-row.result c.node-row.ensures z c.node.result c.node.ensures c.count_of-count.result c.count_of-count.ensures in
    omega arith

pub overflow_sub-result : goal.overflow_sub-result
overflow_sub-result c =
    let e = sym c.is_element.ensures ∙ c.if-not-is_element.false in
    let l : 1 ≤ c.args.at.node = omega arith in
    let z = is_end c.args.columns.now.nodes.items c.args.columns.now.parts.items (columns_form c.args.columns.now) c.args.at c.requires.table c.requires.place.0 c.requires.place.1 c.node-row.result c.node-row.ensures l e c.node.result c.node.ensures c.count_of-count.result c.count_of-count.ensures c.if-at.true in
    before_end c.args.columns.now.nodes.items c.args.columns.now.parts.items (columns_form c.args.columns.now) c.args.at c.requires.table c.requires.place c.node-row.result c.node-row.ensures z c.node.result c.node.ensures c.count_of-count.result c.count_of-count.ensures

pub returns-then-at : goal.returns-then-at
returns-then-at c ss l =
    let e = sym c.is_element.ensures ∙ c.if-not-is_element.false in
    let later : 1 ≤ c.args.at.node = omega arith in
    end_seat c.args.columns.now.nodes.items c.args.columns.now.parts.items (columns_form c.args.columns.now) c.args.at c.requires.table ss l c.node-row.result c.node-row.ensures later e c.node.result c.node.ensures c.count_of-count.result c.count_of-count.ensures c.if-at.true

pub start_of-start-requires : goal.start_of-start-requires
start_of-start-requires c =
    let e = sym c.is_element.ensures ∙ c.if-not-is_element.false in
    let l : 1 ≤ c.args.at.node = omega arith in
    parent_in c.args.columns.now.nodes.items c.args.columns.now.parts.items (columns_form c.args.columns.now) c.args.at c.requires.table c.requires.place.0 c.requires.place.1 c.node-row.result c.node-row.ensures l e c.node.result c.node.ensures c.count_of-count.result c.count_of-count.ensures c.if-at.false

pub overflow_sub-result-2 : goal.overflow_sub-result-2
overflow_sub-result-2 c =
    let e = sym c.is_element.ensures ∙ c.if-not-is_element.false in
    let l : 1 ≤ c.args.at.node = omega arith in
    start_before c.args.columns.now.nodes.items c.args.columns.now.parts.items (columns_form c.args.columns.now) c.args.at c.requires.table c.requires.place.0 c.requires.place.1 c.node-row.result c.node-row.ensures l e c.node.result c.node.ensures c.count_of-count.result c.count_of-count.ensures c.if-at.false c.start_of-start.result c.start_of-start.ensures

pub nonzero_div-result : goal.nonzero_div-result
nonzero_div-result c =
    let e = sym c.is_element.ensures ∙ c.if-not-is_element.false in
    let l : 1 ≤ c.args.at.node = omega arith in
    let s = some_cells c.args.columns.now.nodes.items c.args.columns.now.parts.items (columns_form c.args.columns.now) c.args.at c.requires.table c.requires.place.0 c.requires.place.1 c.node-row.result c.node-row.ensures l e c.node.result c.node.ensures c.count_of-count.result c.count_of-count.ensures c.if-at.false in
    omega arith

pub returns : goal.returns
returns c ss l =
    let e = sym c.is_element.ensures ∙ c.if-not-is_element.false in
    let later : 1 ≤ c.args.at.node = omega arith in
    element_seat c.args.columns.now.nodes.items c.args.columns.now.parts.items (columns_form c.args.columns.now) c.args.at c.requires.table ss l c.node-row.result c.node-row.ensures later e c.node.result c.node.ensures c.count_of-count.result c.count_of-count.ensures c.if-at.false c.start_of-start.result c.start_of-start.ensures
