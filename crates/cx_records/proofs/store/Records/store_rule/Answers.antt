use Rattle.std.proofs.Common.{sym, subst, ◌∙◌, arith}
use Rattle.cx_type_defs.proofs.Lists.{some_inj}
use Rattle.cx_type_defs.specs.declared.kind.TypeRow.{TypeRow}
use Rattle.cx_shapes.specs.Kinds.{IsForm}
use Rattle.cx_records.specs.Records.{record_form}
use Rattle.cx_records.proofs.Checking.{numbered}
use Rattle.cx_records.proofs.Rules.{store_rules}
use Rattle.cx_records.proofs.Sealing.{const_write}
use Rattle.cx_records.proofs.store.Records.store_rule.Goals as goal

pub sealed_at-fast-requires-clause-few : goal.sealed_at-fast-requires-clause-few
sealed_at-fast-requires-clause-few c = let w = (numbered c.args.types.now c.args.self.now.records.items c.args.self.now.live c.args.at c.requires.fits c.requires.known).within in omega arith

pub sealed_at-fast-requires-clause-small : goal.sealed_at-fast-requires-clause-small
sealed_at-fast-requires-clause-small c = (c.requires.fits.kept c.args.at.object c.record-record.result.now c.record-record.ensures).small

pub sealed_at-fast-requires-clause-form : goal.sealed_at-fast-requires-clause-form
sealed_at-fast-requires-clause-form c =
    let k = c.requires.fits.kept c.args.at.object c.record-record.result.now c.record-record.ensures in
    subst (λ (r : TypeRow). IsForm c.args.types.now (record_form c.record-record.result.now) r.kind) (some_inj k.row c.whole_row-row.result (sym k.is_row ∙ c.whole_row-row.ensures)) k.form

pub returns : goal.returns
returns c =
    let rs = c.args.self.now.records.items in
    let t = c.args.types.now in
    let k = c.condition-condition.ensures in
    c.first_broken.ensures ∙ store_rules t rs c.args.at c.condition-condition.result c.sealed_at-fast.result k
    (const_write t rs c.args.at c.condition-condition.result k c.record-record.result.now c.record-record.ensures c.whole_row-row.result c.whole_row-row.ensures c.sealed_at-fast.result c.sealed_at-fast.ensures)
