use Rattle.cx_store_cases.proofs.Reaching.{led-seat_of}
use Rattle.cx_store_cases.proofs.reach.led_to.Goals as goal

pub returns-in-Place : goal.returns-in-Place
returns-in-Place g c = led-seat_of c.args.types.now (g.S.Store.objects c.args.store.now) (g.S.Store.path c.args.store.now) c.args.at (record { name = c.args.name; place = c.in-Place.place; kind = c.exact.result }) c.in_ok-kind.kind c.in_ok-value.value c.in-Place.is c.requires.seat c.in_ok-kind.ensures c.exact.ensures c.in_ok-value.ensures.holds
