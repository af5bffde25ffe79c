use Rattle.std.proofs.Common.{◌≡◌, ◌+◌, ◌&&◌, not, refl, sym, ap, ◌∙◌, arith}
use Rattle.cx_type_defs.proofs.Lists.{some_inj}
use Rattle.cx_shapes.specs.Forms.{form_of}
use Rattle.cx_shapes.specs.Contents.{is_member}
use Rattle.cx_shapes.specs.Ways.{piece_seen}
use Rattle.cx_records.specs.declared.record.Record.{Record}
use Rattle.cx_records.specs.Records.{forms_in}
use Rattle.cx_records.specs.Checks.{cells_in}
use Rattle.cx_records.proofs.Reading.{held_is}
use Rattle.cx_record_unions.specs.Members.{is_ended_class}
use Rattle.cx_record_unions.proofs.Activating.{piece_fits}
use Rattle.cx_record_unions.proofs.target.target_of.Goals as goal

pub overflow_add-from : goal.overflow_add-from
overflow_add-from c =
    let w = piece_fits c.args.types.now c.args.records.now.records.items c.args.records.now.live c.args.at c.args.member (form_of c.found.result.shape.now) c.found.result.there c.found.result.dead c.requires.fits c.found.ensures (piece_seen c.in-Some.piece) (sym c.in-Some.ensures) in
    omega arith

pub size_of-requires : goal.size_of-requires
size_of-requires c =
    let w = piece_fits c.args.types.now c.args.records.now.records.items c.args.records.now.live c.args.at c.args.member (form_of c.found.result.shape.now) c.found.result.there c.found.result.dead c.requires.fits c.found.ensures (piece_seen c.in-Some.piece) (sym c.in-Some.ensures) in
    omega arith

pub overflow_add-result : goal.overflow_add-result
overflow_add-result c =
    let w = piece_fits c.args.types.now c.args.records.now.records.items c.args.records.now.live c.args.at c.args.member (form_of c.found.result.shape.now) c.found.result.there c.found.result.dead c.requires.fits c.found.ensures (piece_seen c.in-Some.piece) (sym c.in-Some.ensures) in
    let e = c.size_of.ensures in
    omega arith

pub returns : goal.returns
returns c =
    let rs = c.args.records.now.records.items in
    let s = c.found.ensures in
    let now = c.record.result.now in
    let piece = c.in-Some.piece in
    let from = c.args.at.part + piece.from in
    let e : now ≡ s.rec = some_inj now s.rec (sym c.record.ensures ∙ s.is_rec) in
    let ended = c.ended_at-ended.ensures (cells_in rs now from) (sym (c.phase.ensures (forms_in rs))) ∙ ap (λ (r : Record). is_ended_class (form_of piece.shape.now) (cells_in rs r from)) e in
    record {
      form = form_of c.found.result.shape.now;
      there = c.found.result.there;
      dead = c.found.result.dead;
      stands = s;
      found = piece_seen piece;
      is_part = sym c.in-Some.ensures;
      is_from = refl;
      is_to = ap (λ n. from + n) c.size_of.ensures;
      is_kept = c.stays_so.ensures ∙ ap (λ o. is_member c.args.member o && not c.ended_at-ended.result) (held_is rs c.args.at now s.rec c.member.result c.record.ensures s.is_rec c.member.ensures)
          ∙ ap (λ b. is_member c.args.member (cells_in rs s.rec c.args.at.part).member && not b) ended;
    }
