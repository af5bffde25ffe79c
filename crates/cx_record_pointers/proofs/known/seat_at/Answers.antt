use Rattle.std.proofs.Common.{◌≡◌, sym, ap, subst, ◌∙◌, arith}
use Rattle.cx_type_defs.proofs.Lists.{some_inj}
use Rattle.cx_state.specs.Objects.{Path}
use Rattle.cx_state.specs.Places.{spot}
use Rattle.cx_shapes.specs.Forms.{Small}
use Rattle.cx_records.specs.declared.record.Record.{Record}
use Rattle.cx_records.specs.Records.{record_form, steps_of}
use Rattle.cx_records.proofs.Checking.{numbered}
use Rattle.cx_records.proofs.Placed.{placed}
use Rattle.cx_record_pointers.specs.Seats.{IsSeat}
use Rattle.cx_record_pointers.proofs.known.seat_at.Goals as goal

pub seat_of-requires-clause-few : goal.seat_of-requires-clause-few
seat_of-requires-clause-few c = let n = (numbered c.args._types.now c.args.store.now.records.items c.args.store.now.live c.args.at c.requires.fits c.requires.known).within in omega arith

pub seat_of-requires-clause-small : goal.seat_of-requires-clause-small
seat_of-requires-clause-small c =
    let n = numbered c.args._types.now c.args.store.now.records.items c.args.store.now.live c.args.at c.requires.fits c.requires.known in
    subst (λ (r : Record). Small (record_form r)) (some_inj n.rec c.record.result.now (sym n.is_rec ∙ c.record.ensures)) n.small

pub returns : goal.returns
returns c =
    let w = placed c.args._types.now c.args.store.now.records.items c.args.at c.requires.known in
    let e : w.rec ≡ c.record.result.now = some_inj w.rec c.record.result.now (sym w.is_rec ∙ c.record.ensures) in
    record {
      rec = c.record.result.now;
      is_rec = c.record.ensures;
      seat = subst (λ (p : Path). IsSeat (record_form c.record.result.now) 0 (spot p) c.seat_of.result) (sym w.is_path) (c.seat_of.ensures w.steps (ap (λ (r : Record). steps_of c.args.at (record_form r)) (sym e) ∙ w.are_steps));
    }
