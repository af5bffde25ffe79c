use Rattle.cx_store_cases.specs.Seats.{AreKept}
use Rattle.cx_store_cases.proofs.make.kept_below.Given as goal

abbrev pub invariant-loop-seat : goal.invariant-loop-seat
invariant-loop-seat g l = AreKept l.types (g.S.Store.objects l.store) (g.S.Store.path l.store) l.mark l.kept.items
