use Rattle.cx_state.specs.Steps as steps
use Rattle.cx_records.specs.Records.{objects_of, forms_in, path_in}
use Rattle.cx_state_kept.proofs.Keeping.{release_keeps, changed_or_not}
use Rattle.cx_objects.proofs.store.TreeStoreStore.release.Goals as goal

pub returns-clause-knows : goal.returns-clause-knows
returns-clause-knows c =
    let os = objects_of c.args.self.now.records.records.items in
    let p = path_in (forms_in c.args.self.now.records.records.items) c.args.at in
    changed_or_not (steps.release os p) os (objects_of c.release_at.new.self.records.items) c.release_at.result (λ now e. release_keeps os now p e) c.release_at.ensures.changed
