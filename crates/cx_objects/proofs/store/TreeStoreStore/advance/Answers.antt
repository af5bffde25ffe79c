use Rattle.cx_state.specs.Steps as steps
use Rattle.cx_records.specs.Records.{objects_of, forms_in, path_in}
use Rattle.cx_state_kept.proofs.Keeping.{advance_keeps, changed_or_not}
use Rattle.cx_objects.proofs.store.TreeStoreStore.advance.Goals as goal

pub returns-clause-knows : goal.returns-clause-knows
returns-clause-knows c =
    let t = c.args.types.now in
    let os = objects_of c.args.self.now.records.records.items in
    let p = path_in (forms_in c.args.self.now.records.records.items) c.args.at in
    changed_or_not (steps.advance t os p c.args.to) os (objects_of c.advance_at.new.self.records.items) c.advance_at.result (λ now e. advance_keeps t os now p c.args.to e) c.advance_at.ensures.changed
