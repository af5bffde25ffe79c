use Rattle.std.proofs.Common.{◌≡◌, None, Some, Ok, ℤ, pos, ◌+ℤ◌, sym, ap, ◌∙◌}
use Rattle.std.specs.Int.{w128}
use Rattle.std.proofs.lemmas.Int.{to_z-of_z}
use Rattle.cx_state.specs.Pointers as pointers
use Rattle.cx_state.specs.Pointers.{index_within}
use Rattle.cx_state.proofs.Known.{add-knows}
use Rattle.cx_records.specs.Records.{objects_of, forms_in, path_in}
use Rattle.cx_record_pointers.proofs.Moving.{add_is}
use Rattle.cx_record_pointers.proofs.moves.add.Goals as goal
use Rattle.cx_record_pointers.proofs.moves.add.Goals.{After-place_at}

pub returns-in-None-clause-gives : goal.returns-in-None-clause-gives
returns-in-None-clause-gives c =
    sym (add_is c.args.types.now c.args.store.now.records.items c.args.store.now.live c.args.at c.seat_at-seat.result c.args.by None c.requires.fits c.seat_at-seat.ensures (sym c.is_dangling.ensures ∙ c.if-is_dangling.false)
    (sym (ap (λ (z : ℤ). index_within c.seat_at-seat.result.count (pos c.seat_at-seat.result.index +ℤ z)) (to_z-of_z w128 c.args.by c.ranges.by)) ∙ sym c.index_moved.ensures ∙ c.in-None.is))

added : (c : After-place_at) → Ok (path_in (forms_in c.args.store.now.records.items) c.place_at.result) ≡ pointers.add c.args.types.now (objects_of c.args.store.now.records.items) (path_in (forms_in c.args.store.now.records.items) c.args.at) c.args.by
added c =
    ap Ok c.place_at.ensures
    ∙ sym (add_is c.args.types.now c.args.store.now.records.items c.args.store.now.live c.args.at c.seat_at-seat.result c.args.by (Some c.in-Some.index) c.requires.fits c.seat_at-seat.ensures (sym c.is_dangling.ensures ∙ c.if-is_dangling.false)
    (sym (ap (λ (z : ℤ). index_within c.seat_at-seat.result.count (pos c.seat_at-seat.result.index +ℤ z)) (to_z-of_z w128 c.args.by c.ranges.by)) ∙ sym c.index_moved.ensures ∙ c.in-Some.is))

pub returns-in-Some-clause-gives : goal.returns-in-Some-clause-gives
returns-in-Some-clause-gives c = added c

pub returns-in-Some-clause-known : goal.returns-in-Some-clause-known
returns-in-Some-clause-known c = add-knows c.args.types.now (objects_of c.args.store.now.records.items) (path_in (forms_in c.args.store.now.records.items) c.args.at) (path_in (forms_in c.args.store.now.records.items) c.place_at.result) c.args.by c.requires.known (sym (added c))
