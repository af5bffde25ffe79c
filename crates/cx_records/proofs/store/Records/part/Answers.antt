use Rattle.std.proofs.Common.{◌≡◌, ◌+◌, refl, ap, ◌∙◌, arith}
use Rattle.cx_shapes.specs.Forms.{form_of, Part}
use Rattle.cx_shapes.specs.Ways.{piece_seen}
use Rattle.cx_type_defs.proofs.Lists.{some_inj}
use Rattle.cx_records.proofs.Checking.{none_some}
use Rattle.cx_records.proofs.Deeper.{part_path, part_is, part_fits_number}
use Rattle.cx_records.proofs.store.Records.part.Goals as goal

pub overflow_add-result : goal.overflow_add-result
overflow_add-result c =
    let w = c.requires.there in
    let n = part_fits_number c.args.types.now c.args.self.now.records.items c.args.self.now.live c.args.at c.args.step w c.requires.fits in
    let e = some_inj (piece_seen c.in-Some.piece) w.found (c.in-Some.ensures ∙ part_is c.args.self.now.records.items c.args.at c.args.step (form_of c.found.result.shape.now) c.found.result.there c.found.result.dead w c.found.ensures) in
    let f : c.in-Some.piece.from ≡ w.found.0 = ap (λ (q : Part). q.0) e in
    omega arith

pub unreachable-requires : goal.unreachable-requires
unreachable-requires c = none_some (c.in-None.ensures ∙ part_is c.args.self.now.records.items c.args.at c.args.step (form_of c.found.result.shape.now) c.found.result.there c.found.result.dead c.requires.there c.found.ensures)

pub returns : goal.returns
returns c =
    let w = c.requires.there in
    let e = some_inj (piece_seen c.in-Some.piece) w.found (c.in-Some.ensures ∙ part_is c.args.self.now.records.items c.args.at c.args.step (form_of c.found.result.shape.now) c.found.result.there c.found.result.dead w c.found.ensures) in
    let f : c.in-Some.piece.from ≡ w.found.0 = ap (λ (q : Part). q.0) e in
    let x = part_path c.args.types.now c.args.self.now.records.items c.args.self.now.live c.args.at _ c.args.step w c.requires.fits refl refl (ap (λ n. c.args.at.part + n) f) in
    record { gives = x.0; known = x.1 }
