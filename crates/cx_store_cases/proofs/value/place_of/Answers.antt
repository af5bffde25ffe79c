use Rattle.cx_store_cases.proofs.Taking.{takes-place}
use Rattle.cx_store_cases.proofs.value.place_of.Goals as goal

pub returns-then-may_lead : goal.returns-then-may_lead
returns-then-may_lead g c = takes-place c.args.types.now (g.S.Store.objects c.args.store.now) (g.S.Store.path c.args.store.now) c.args.at c.in_ok-seat.seat c.in_ok-to.to c.in_ok-found.found c.requires.seat c.in_ok-seat.ensures c.in_ok-to.ensures c.in_ok-found.ensures (c.may_lead.ensures c.if-may_lead.true)
