use Rattle.std.proofs.Common.{◌≡◌, Some, sym, ap, subst, ◌∙◌, slice_get}
use Rattle.cx_type_defs.proofs.Lists.{some_inj}
use Rattle.cx_state.specs.Objects.{Path}
use Rattle.cx_shapes.specs.Forms.{Small}
use Rattle.cx_records.specs.declared.record.Record.{Record}
use Rattle.cx_records.specs.Records.{record_form, steps_of}
use Rattle.cx_records.proofs.Checking.{numbered}
use Rattle.cx_records.proofs.Placed.{placed}
use Rattle.cx_records.proofs.store.Records.step_at.Goals as goal

pub nth_step-requires-clause-few : goal.nth_step-requires-clause-few
nth_step-requires-clause-few c = (numbered c.args.types.now c.args.self.now.records.items c.args.self.now.live c.args.at c.requires.fits c.requires.known).within

pub nth_step-requires-clause-small : goal.nth_step-requires-clause-small
nth_step-requires-clause-small c =
    let n = numbered c.args.types.now c.args.self.now.records.items c.args.self.now.live c.args.at c.requires.fits c.requires.known in
    subst (λ (r : Record). Small (record_form r)) (some_inj n.rec c.record.result.now (sym n.is_rec ∙ c.record.ensures)) n.small

pub returns : goal.returns
returns c =
    let w = placed c.args.types.now c.args.self.now.records.items c.args.at c.requires.known in
    let e = subst (λ (r : Record). steps_of c.args.at (record_form r) ≡ Some w.steps) (some_inj w.rec c.record.result.now (sym w.is_rec ∙ c.record.ensures)) w.are_steps in
    record { step = c.nth_step.ensures w.steps e ∙ ap (λ (q : Path). slice_get q.steps c.args.k) (sym w.is_path) }
