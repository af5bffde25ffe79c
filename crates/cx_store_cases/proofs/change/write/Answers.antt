use Rattle.cx_store.specs.Stores.{seen}
use Rattle.cx_store_cases.proofs.Desks.{stands-kept}
use Rattle.cx_store_cases.proofs.Held.{held-more, held-init, held-store}
use Rattle.cx_store_cases.proofs.change.write.Goals as goal

pub returns-in-init : goal.returns-in-init
returns-in-init g c =
    stands-kept c.args.types.now (g.S.Store.objects c.args.store.now) (g.S.Store.path c.args.store.now) _ _ (g.S.Store.objects c.init.new.self) (g.S.Store.path c.init.new.self) c.args.desk.now c.in_ok-mark.mark c.requires.stands c.init.ensures.fit c.init.ensures.knows c.init.ensures.paths
    (held-init c.args.types.now (g.S.Store.objects c.args.store.now) (g.S.Store.objects c.init.new.self) (g.S.Store.path c.args.store.now c.args.at.place) (seen (g.S.Store.path c.args.store.now) c.in_ok-value.value) _ c.in_ok-mark.mark (held-more (g.S.Store.objects c.args.store.now) c.args.desk.now.safe c.in_ok-mark.mark c.in_ok-mark.ensures.more c.requires.stands.held) c.in_ok-mark.ensures.below c.init.ensures.changed)

pub returns-in_default : goal.returns-in_default
returns-in_default g c =
    stands-kept c.args.types.now (g.S.Store.objects c.args.store.now) (g.S.Store.path c.args.store.now) _ _ (g.S.Store.objects c.store.new.self) (g.S.Store.path c.store.new.self) c.args.desk.now c.in_ok-mark.mark c.requires.stands c.store.ensures.fit c.store.ensures.knows c.store.ensures.paths
    (held-store c.args.types.now (g.S.Store.objects c.args.store.now) (g.S.Store.objects c.store.new.self) (g.S.Store.path c.args.store.now c.args.at.place) (seen (g.S.Store.path c.args.store.now) c.in_ok-value.value) _ c.in_ok-mark.mark (held-more (g.S.Store.objects c.args.store.now) c.args.desk.now.safe c.in_ok-mark.mark c.in_ok-mark.ensures.more c.requires.stands.held) c.in_ok-mark.ensures.below c.store.ensures.changed)
