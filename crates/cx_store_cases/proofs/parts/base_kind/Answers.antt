use Rattle.cx_store_cases.proofs.Seats.{base-part}
use Rattle.cx_store_cases.proofs.parts.base_kind.Goals as goal

pub returns : goal.returns
returns g c = base-part c.args.types.now (g.S.Store.objects c.args.store.now) (g.S.Store.path c.args.store.now) c.args.at c.in_ok-class.class c.base_at.result c.args.index c.requires.seat c.in_ok-class.ensures.is_class c.base_at.ensures
