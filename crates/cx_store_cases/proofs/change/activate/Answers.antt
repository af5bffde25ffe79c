use Rattle.cx_store_cases.proofs.Desks.{stands-kept, member}
use Rattle.cx_store_cases.proofs.Held.{held-activate}
use Rattle.cx_store_cases.proofs.change.activate.Goals as goal

pub returns : goal.returns
returns g c =
    let w = member c.args.types.now (g.S.Store.objects c.args.store.now) (g.S.Store.path c.args.store.now) c.args.at c.in_ok-member.member _ c.in_ok-field_kind.ensures in
    stands-kept c.args.types.now (g.S.Store.objects c.args.store.now) (g.S.Store.path c.args.store.now) _ _ (g.S.Store.objects c.activate.new.self) (g.S.Store.path c.activate.new.self) c.args.desk.now c.args.desk.now.safe c.requires.stands c.activate.ensures.fit c.activate.ensures.knows c.activate.ensures.paths
    (held-activate c.args.types.now (g.S.Store.objects c.args.store.now) (g.S.Store.objects c.activate.new.self) (g.S.Store.path c.args.store.now c.args.at.place) c.in_ok-member.member _ w.row w.class w.field _ c.args.desk.now.safe (g.S.Store.fits_objects c.args.store.now c.args.types.now c.requires.stands.fits) w.is_row w.is_class w.is_field c.requires.stands.held c.activate.ensures.changed)
