use Rattle.std.proofs.Common.{sym, subst, ◌∙◌}
use Rattle.cx_type_defs.proofs.Lists.{some_inj}
use Rattle.cx_shapes.specs.Forms.{Small}
use Rattle.cx_records.specs.declared.record.Record.{Record}
use Rattle.cx_records.specs.Records.{record_form}
use Rattle.cx_records.proofs.Checking.{numbered}
use Rattle.cx_record_pointers.proofs.Moving.{placed_path}
use Rattle.cx_record_pointers.proofs.moves.place_at.Goals as goal

pub place_in-requires-clause-small : goal.place_in-requires-clause-small
place_in-requires-clause-small c =
    let n = numbered c.args.types.now c.args.store.now.records.items c.args.store.now.live c.args.at c.requires.fits c.requires.known in
    subst (λ (r : Record). Small (record_form r)) (some_inj n.rec c.record.result.now (sym n.is_rec ∙ c.record.ensures)) n.small

pub returns : goal.returns
returns c = placed_path c.args.types.now c.args.store.now.records.items c.args.store.now.live c.args.at c.place_in.result c.args.seat c.args.index c.record.result.now c.requires.fits c.requires.seat c.record.ensures c.place_in.ensures
