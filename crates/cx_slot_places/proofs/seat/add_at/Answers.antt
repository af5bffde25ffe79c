use Rattle.std.proofs.Common.{ℤ, pos, ◌+ℤ◌, sym, ap, ◌∙◌, arith}
use Rattle.std.specs.Int.{w128}
use Rattle.std.proofs.lemmas.Int.{to_z-of_z}
use Rattle.cx_state.specs.Places.{spot}
use Rattle.cx_state.specs.Pointers.{index_within}
use Rattle.cx_layout.specs.Described.{columns_form}
use Rattle.cx_slot_places.specs.Pointers.{path_to}
use Rattle.cx_slot_places.proofs.Seating.{adds_none, adds, slot_small, index_small}
use Rattle.cx_slot_places.proofs.seat.add_at.Goals as goal

pub overflow_mul-result : goal.overflow_mul-result
overflow_mul-result c =
    let s = c.seat_at-seat.result in
    let w = index_small s.count (pos s.index +ℤ c.args.by) c.in-Some.index (sym (ap (λ (z : ℤ). index_within s.count (pos s.index +ℤ z)) (to_z-of_z w128 c.args.by c.ranges.by)) ∙ sym c.index_moved.ensures ∙ c.in-Some.is) in
    let b = slot_small (columns_form c.args.columns.now) c.args.at (spot (path_to c.args.at c.requires.place.0)) s (c.seat_at-seat.ensures c.requires.place.0 c.requires.place.1) c.in-Some.index w in
    let f = c.requires.table.few_cells in
    omega arith

pub overflow_add-result : goal.overflow_add-result
overflow_add-result c =
    let s = c.seat_at-seat.result in
    let w = index_small s.count (pos s.index +ℤ c.args.by) c.in-Some.index (sym (ap (λ (z : ℤ). index_within s.count (pos s.index +ℤ z)) (to_z-of_z w128 c.args.by c.ranges.by)) ∙ sym c.index_moved.ensures ∙ c.in-Some.is) in
    let b = slot_small (columns_form c.args.columns.now) c.args.at (spot (path_to c.args.at c.requires.place.0)) s (c.seat_at-seat.ensures c.requires.place.0 c.requires.place.1) c.in-Some.index w in
    let f = c.requires.table.few_cells in
    omega arith

pub returns-in-None : goal.returns-in-None
returns-in-None c ss l =
    adds_none (columns_form c.args.columns.now) c.args.at ss c.seat_at-seat.result (c.seat_at-seat.ensures ss l) c.args.by
    (sym (ap (λ (z : ℤ). index_within c.seat_at-seat.result.count (pos c.seat_at-seat.result.index +ℤ z)) (to_z-of_z w128 c.args.by c.ranges.by)) ∙ sym c.index_moved.ensures ∙ c.in-None.is)

pub returns-in-Some : goal.returns-in-Some
returns-in-Some c ss l =
    let e = sym (ap (λ (z : ℤ). index_within c.seat_at-seat.result.count (pos c.seat_at-seat.result.index +ℤ z)) (to_z-of_z w128 c.args.by c.ranges.by)) ∙ sym c.index_moved.ensures ∙ c.in-Some.is in
    adds (columns_form c.args.columns.now) c.args.at ss c.seat_at-seat.result (c.seat_at-seat.ensures ss l) c.args.by c.in-Some.index (index_small c.seat_at-seat.result.count (pos c.seat_at-seat.result.index +ℤ c.args.by) c.in-Some.index e) e
