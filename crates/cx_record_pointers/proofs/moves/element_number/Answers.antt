use Rattle.std.proofs.Common.{◌≡◌, sym, ap, ◌∙◌, arith}
use Rattle.cx_type_defs.proofs.Lists.{some_inj}
use Rattle.cx_shapes.specs.Forms.{form_of, Part}
use Rattle.cx_shapes.specs.Ways.{piece_seen}
use Rattle.cx_records.proofs.Checking.{none_some}
use Rattle.cx_record_pointers.proofs.Moving.{element_small, element_there, element_part, element_fits, element_steps}
use Rattle.cx_record_pointers.proofs.moves.element_number.Goals as goal

pub seek-requires-clause-few : goal.seek-requires-clause-few
seek-requires-clause-few c = element_small (form_of c.args.shape.now) c.args.array c.args.index c.requires.there c.requires.small

pub unreachable-requires : goal.unreachable-requires
unreachable-requires c = none_some (sym c.in-None.ensures ∙ element_there (form_of c.args.shape.now) c.args.array c.args.index c.requires.there)

pub unreachable-requires-in-None-part_at : goal.unreachable-requires-in-None-part_at
unreachable-requires-in-None-part_at c = none_some (c.in-None-part_at.ensures ∙ element_part (form_of c.args.shape.now) c.args.array c.args.index (form_of c.in-Some.row.now) c.requires.there c.in-Some.ensures.0)

pub overflow_add-result : goal.overflow_add-result
overflow_add-result c =
    let w = c.requires.there in
    let e = some_inj (piece_seen c.in-Some-part_at.piece) w.found (c.in-Some-part_at.ensures ∙ element_part (form_of c.args.shape.now) c.args.array c.args.index (form_of c.in-Some.row.now) w c.in-Some.ensures.0) in
    let f : c.in-Some-part_at.piece.from ≡ w.found.0 = ap (λ (q : Part). q.0) e in
    let n = element_fits (form_of c.args.shape.now) c.args.array c.args.index w c.requires.small in
    omega arith

pub returns : goal.returns
returns c =
    let w = c.requires.there in
    element_steps (form_of c.args.shape.now) c.args.array c.args.index (form_of c.in-Some.row.now) (piece_seen c.in-Some-part_at.piece) c.in-Some.ensures.0 (sym c.in-Some-part_at.ensures)
