use Rattle.std.proofs.Common.{sym, subst, ◌∙◌, arith}
use Rattle.cx_type_defs.proofs.Lists.{some_inj}
use Rattle.cx_type_defs.specs.declared.kind.TypeRow.{TypeRow}
use Rattle.cx_shapes.specs.Kinds.{IsForm}
use Rattle.cx_records.specs.Records.{record_form, forms_in}
use Rattle.cx_records.proofs.Checking.{numbered}
use Rattle.cx_record_dynamic.proofs.Deciding.{decider_here_is}
use Rattle.cx_record_dynamic.proofs.decide.decider_at.Goals as goal

pub chain_in-requires-clause-few : goal.chain_in-requires-clause-few
chain_in-requires-clause-few c = let w = (numbered c.args.types.now c.args.records.now.records.items c.args.records.now.live c.args.at c.requires.fits c.requires.known).within in omega arith

pub chain_in-requires-clause-small : goal.chain_in-requires-clause-small
chain_in-requires-clause-small c = (c.requires.fits.kept c.args.at.object c.record-record.result.now c.record-record.ensures).small

pub chain_in-requires-clause-form : goal.chain_in-requires-clause-form
chain_in-requires-clause-form c =
    let k = c.requires.fits.kept c.args.at.object c.record-record.result.now c.record-record.ensures in
    subst (λ (r : TypeRow). IsForm c.args.types.now (record_form c.record-record.result.now) r.kind) (some_inj k.row c.whole_row-row.result (sym k.is_row ∙ c.whole_row-row.ensures)) k.form

pub returns : goal.returns
returns c = decider_here_is c.args.types.now c.args.records.now.records.items c.args.records.now.live c.args.at c.requires.fits c.requires.known c.record-record.result.now c.record-record.ensures c.whole_row-row.result c.whole_row-row.ensures c.is_opaque.result c.is_opaque.ensures c.chain_in.result
    (c.chain_in.ensures.gives (forms_in c.args.records.now.records.items)) c.class_found.result c.class_found.ensures
