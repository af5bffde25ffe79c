use Rattle.cx_store_cases.proofs.Seats.{member-known, field-part}
use Rattle.cx_store_cases.proofs.parts.field_kind.Goals as goal

pub row-requires : goal.row-requires
row-requires g c = member-known c.args.types.now (g.S.Store.objects c.args.store.now) (g.S.Store.path c.args.store.now) (g.S.Store.fits_objects c.args.store.now c.args.types.now c.requires.fits) c.args.at c.in_ok-class.class c.args.index c.field_at.result c.requires.seat c.in_ok-class.ensures.is_class c.field_at.ensures

pub returns : goal.returns
returns g c = field-part c.args.types.now (g.S.Store.objects c.args.store.now) (g.S.Store.path c.args.store.now) c.args.at c.in_ok-class.class c.args.index c.field_at.result c.row.result c.requires.seat c.in_ok-class.ensures.is_class c.field_at.ensures c.row.ensures
