use Rattle.std.proofs.Common.{sym, subst}
use Rattle.cx_store.specs.Stores.{StillKnows}
use Rattle.cx_records.specs.Records.{objects_of, forms_in, path_in}
use Rattle.cx_state_kept.proofs.Keeping.{settle_keeps}
use Rattle.cx_objects.proofs.store.TreeStoreStore.settle.Goals as goal

pub returns-clause-knows : goal.returns-clause-knows
returns-clause-knows c =
    let os = objects_of c.args.self.now.records.records.items in
    let p = path_in (forms_in c.args.self.now.records.records.items) c.args.at in
    subst (StillKnows os) (sym c.settle_at.ensures.changed) (settle_keeps os p c.args.birth)
