use Rattle.std.proofs.Common.{refl}
use Rattle.std.proofs.lemmas.Option.{slice_get_read}
use Rattle.cx_store_cases.proofs.Made.{kept-none}
use Rattle.cx_store_cases.proofs.make.kept_below.Goals as goal

pub loop-seat-init : goal.loop-seat-init
loop-seat-init g c = kept-none c.args.types.now (g.S.Store.objects c.args.store.now) (g.S.Store.path c.args.store.now) c.args.mark c.new-kept.result.items c.new-kept.ensures.items

pub keep-requires-clause-seat : goal.keep-requires-clause-seat
keep-requires-clause-seat g c = c.requires.each c.loop-seat.seat-index c.seat-item.result (slice_get_read c.args.seats.now _ c.loop-seat.seat-index c.seat-item.result refl c.loop-seat-test.true c.seat-item.is)
