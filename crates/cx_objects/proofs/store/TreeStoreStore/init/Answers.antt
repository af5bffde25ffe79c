use Rattle.cx_state.specs.Steps as steps
use Rattle.cx_store.specs.Stores.{seen}
use Rattle.cx_records.specs.Records.{objects_of, forms_in, path_in}
use Rattle.cx_state_kept.proofs.Keeping.{init_keeps, changed_or_not}
use Rattle.cx_objects.proofs.store.TreeStoreStore.init.Goals as goal

pub returns-clause-knows : goal.returns-clause-knows
returns-clause-knows c =
    let t = c.args.types.now in
    let path = path_in (forms_in c.args.self.now.records.records.items) in
    let os = objects_of c.args.self.now.records.records.items in
    let v = seen path c.args.value in
    changed_or_not (steps.init t os (path c.args.at) v) os (objects_of c.init_at.new.self.records.items) c.init_at.result (λ now e. init_keeps t os now (path c.args.at) v e) c.init_at.ensures.changed
