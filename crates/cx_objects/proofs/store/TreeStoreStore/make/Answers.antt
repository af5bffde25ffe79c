use Rattle.cx_store.specs.Stores as says
use Rattle.cx_records.specs.Records.{objects_of, forms_in, path_in}
use Rattle.cx_state_kept.proofs.Keeping.{made_or_not}
use Rattle.cx_objects.proofs.store.TreeStoreStore.make.Goals as goal

pub returns-clause-knows : goal.returns-clause-knows
returns-clause-knows c =
    let now = c.make_object.new.self.records.items in
    made_or_not c.args.types.now c.args.limits.now (says.request c.args.ty c.args.length c.args.kind c.args.konst c.args.birth) (objects_of c.args.self.now.records.records.items) (objects_of now) (path_in (forms_in now)) c.make_object.result c.make_object.ensures.made
