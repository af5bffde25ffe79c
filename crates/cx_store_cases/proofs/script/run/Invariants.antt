use Rattle.cx_store_cases.specs.Seats.{Stands}
use Rattle.cx_store_cases.proofs.script.run.Given as goal

abbrev pub invariant-loop-line : goal.invariant-loop-line
invariant-loop-line g l = Stands (g.S.Store.fits l.store l.sample.types) l.sample.types (g.S.Store.objects l.store) (g.S.Store.path l.store) l.desk
