use Rattle.std.proofs.Common.{None, Some, sym, subst, ◌∙◌, arith}
use Rattle.cx_type_defs.proofs.Lists.{some_inj}
use Rattle.cx_type_defs.specs.declared.kind.TypeRow.{TypeRow}
use Rattle.cx_shapes.specs.Kinds.{IsForm}
use Rattle.cx_records.specs.Records.{record_form}
use Rattle.cx_records.proofs.Checking.{numbered}
use Rattle.cx_record_pointers.proofs.Enclosing.{nearest_place}
use Rattle.cx_record_pointers.proofs.enclose.nearest_at.Goals as goal

pub nearest-requires-clause-few : goal.nearest-requires-clause-few
nearest-requires-clause-few c = let w = (numbered c.args.types.now c.args.store.now.records.items c.args.store.now.live c.args.at c.requires.fits c.requires.known).within in omega arith

pub nearest-requires-clause-small : goal.nearest-requires-clause-small
nearest-requires-clause-small c = (c.requires.fits.kept c.args.at.object c.record-record.result.now c.record-record.ensures).small

pub nearest-requires-clause-form : goal.nearest-requires-clause-form
nearest-requires-clause-form c =
    let k = c.requires.fits.kept c.args.at.object c.record-record.result.now c.record-record.ensures in
    subst (λ (r : TypeRow). IsForm c.args.types.now (record_form c.record-record.result.now) r.kind) (some_inj k.row c.whole_row-row.result (sym k.is_row ∙ c.whole_row-row.ensures)) k.form

pub returns-in-None : goal.returns-in-None
returns-in-None c =
    nearest_place c.args.types.now c.args.store.now.records.items c.args.store.now.live c.args.at c.args.to c.record-record.result.now c.whole_row-row.result c.nearest.result
    c.requires.fits c.requires.known c.record-record.ensures c.whole_row-row.ensures c.nearest.ensures None c.in-None.is

pub returns-in-Some : goal.returns-in-Some
returns-in-Some c =
    nearest_place c.args.types.now c.args.store.now.records.items c.args.store.now.live c.args.at c.args.to c.record-record.result.now c.whole_row-row.result c.nearest.result
    c.requires.fits c.requires.known c.record-record.ensures c.whole_row-row.ensures c.nearest.ensures (Some c.in-Some.part) c.in-Some.is
