use Rattle.cx_store_cases.proofs.Desks.{stands-kept}
use Rattle.cx_store_cases.proofs.Held.{held-advance, held-deactivate, held-release, held-settle}
use Rattle.cx_store_cases.proofs.change.change.Goals as goal

pub returns-in_ok-plain_class-in-advance : goal.returns-in_ok-plain_class-in-advance
returns-in_ok-plain_class-in-advance g c =
    stands-kept c.args.types.now (g.S.Store.objects c.args.store.now) (g.S.Store.path c.args.store.now) _ _ (g.S.Store.objects c.advance.new.self) (g.S.Store.path c.advance.new.self) c.args.desk.now c.args.desk.now.safe c.requires c.advance.ensures.fit c.advance.ensures.knows c.advance.ensures.paths
    (held-advance c.args.types.now (g.S.Store.objects c.args.store.now) (g.S.Store.objects c.advance.new.self) (g.S.Store.path c.args.store.now c.in_ok-at.at.place) c.in_ok-phase-in-advance.phase _ c.args.desk.now.safe c.requires.held c.advance.ensures.changed)

pub returns-in_ok-union_of-in-deactivate : goal.returns-in_ok-union_of-in-deactivate
returns-in_ok-union_of-in-deactivate g c =
    stands-kept c.args.types.now (g.S.Store.objects c.args.store.now) (g.S.Store.path c.args.store.now) _ _ (g.S.Store.objects c.deactivate.new.self) (g.S.Store.path c.deactivate.new.self) c.args.desk.now c.args.desk.now.safe c.requires c.deactivate.ensures.fit c.deactivate.ensures.knows c.deactivate.ensures.paths
    (held-deactivate c.args.types.now (g.S.Store.objects c.args.store.now) (g.S.Store.objects c.deactivate.new.self) (g.S.Store.path c.args.store.now c.in_ok-at.at.place) _ c.args.desk.now.safe c.requires.held c.deactivate.ensures.changed)

pub returns-in-release : goal.returns-in-release
returns-in-release g c =
    stands-kept c.args.types.now (g.S.Store.objects c.args.store.now) (g.S.Store.path c.args.store.now) _ _ (g.S.Store.objects c.release.new.self) (g.S.Store.path c.release.new.self) c.args.desk.now c.args.desk.now.safe c.requires (c.release.ensures.fit c.args.types.now c.requires.fits) c.release.ensures.knows c.release.ensures.paths
    (held-release (g.S.Store.objects c.args.store.now) (g.S.Store.objects c.release.new.self) (g.S.Store.path c.args.store.now c.in_ok-at.at.place) _ c.args.desk.now.safe c.requires.held c.release.ensures.changed)

pub returns-in-Here : goal.returns-in-Here
returns-in-Here g c =
    stands-kept c.args.types.now (g.S.Store.objects c.args.store.now) (g.S.Store.path c.args.store.now) _ _ (g.S.Store.objects c.settle.new.self) (g.S.Store.path c.settle.new.self) c.args.desk.now c.args.desk.now.safe c.requires (c.settle.ensures.fit c.args.types.now c.requires.fits) c.settle.ensures.knows c.settle.ensures.paths
    (held-settle (g.S.Store.objects c.args.store.now) (g.S.Store.objects c.settle.new.self) (g.S.Store.path c.args.store.now c.in_ok-at.at.place) c.in_ok-birth-in-settle.birth c.args.desk.now.safe c.requires.held c.settle.ensures.changed)
