use Rattle.std.proofs.Common.{◌≡◌, Some, sym, subst, ◌∙◌, arith}
use Rattle.cx_type_defs.proofs.Lists.{some_inj}
use Rattle.cx_shapes.specs.Forms.{Small, steps_at}
use Rattle.cx_records.specs.declared.record.Record.{Record}
use Rattle.cx_records.specs.Records.{record_form, forms_in}
use Rattle.cx_records.proofs.Checking.{numbered, none_some}
use Rattle.cx_records.proofs.store.Records.found.Goals as goal

pub walk-requires-clause-few : goal.walk-requires-clause-few
walk-requires-clause-few c = let w = (numbered c.args._types.now c.args.self.now.records.items c.args.self.now.live c.args.at c.requires.fits c.requires.known).within in omega arith

pub walk-requires-clause-small : goal.walk-requires-clause-small
walk-requires-clause-small c =
    let n = numbered c.args._types.now c.args.self.now.records.items c.args.self.now.live c.args.at c.requires.fits c.requires.known in
    let e : n.rec ≡ c.record-record.result.now = some_inj n.rec c.record-record.result.now (sym n.is_rec ∙ c.record-record.ensures) in
    subst (λ (r : Record). Small (record_form r)) e n.small

pub unreachable-requires : goal.unreachable-requires
unreachable-requires c =
    let n = numbered c.args._types.now c.args.self.now.records.items c.args.self.now.live c.args.at c.requires.fits c.requires.known in
    let e : n.rec ≡ c.record-record.result.now = some_inj n.rec c.record-record.result.now (sym n.is_rec ∙ c.record-record.ensures) in
    none_some (sym c.in-None.ensures ∙ subst (λ (r : Record). steps_at (record_form r) c.args.at.part ≡ Some n.steps) e n.are_steps)

pub returns : goal.returns
returns c = record {
  rec = c.record-record.result.now;
  is_rec = c.record-record.ensures;
  walked = c.in-Some.ensures.0 (forms_in c.args.self.now.records.items);
  small = c.in-Some.ensures.1;
}
