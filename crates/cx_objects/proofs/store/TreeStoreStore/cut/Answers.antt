use Rattle.std.proofs.Common.{sym, subst}
use Rattle.cx_store.specs.Stores.{StillKnowsBelow}
use Rattle.cx_records.specs.Records.{objects_of}
use Rattle.cx_state_kept.proofs.Keeping.{cut_keeps}
use Rattle.cx_objects.proofs.store.TreeStoreStore.cut.Goals as goal

pub returns-clause-knows : goal.returns-clause-knows
returns-clause-knows c =
    let os = objects_of c.args.self.now.records.records.items in
    subst (StillKnowsBelow c.args.mark.objects os) (sym c.cut_at.ensures.cut) (cut_keeps os c.args.mark.objects)
