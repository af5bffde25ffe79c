use Rattle.std.proofs.Common.{◌≡◌, ◌-◌, refl, sym, ap, ◌∙◌}
use Rattle.cx_type_defs.proofs.Lists.{some_inj}
use Rattle.cx_records.specs.declared.record.Record.{Record}
use Rattle.cx_records.specs.Writes.{cells_counted}
use Rattle.cx_records.proofs.Placed.{lent}
use Rattle.cx_records.proofs.store.Records.give_up.Goals as goal

pub returns : goal.returns
returns c =
    let rs = c.args.self.now.records.items in
    let e = lent rs c.args.at.object c.record.result.now c.index_mut-record.result.now c.record.ensures c.index_mut-record.ensures.value in
    let x : c.record.result.now ≡ c.index_mut-record.result.now = some_inj c.record.result.now c.index_mut-record.result.now (sym c.record.ensures ∙ e) in
    record {
      given = record {
        rec = c.index_mut-record.result.now;
        is_rec = e;
        is_new = refl;
        is_live = c.saturating_sub-self.ensures ∙ ap (λ n. c.args.self.now.live - n) (c.cells_counted-cells.ensures ∙ ap (λ (r : Record). cells_counted r) x);
      };
    }
