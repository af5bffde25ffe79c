use Rattle.std.proofs.Common.{◌-◌, ◌≡◌, length}
use Rattle.cx_store.specs.Stores as says
use Rattle.use_store.proofs.fill.Given as goal

-- the store still fits, no place has another path, each known place has its type, and there are as many objects
abbrev pub invariant-loop-next : goal.invariant-loop-next
invariant-loop-next g l = (g.S.Store.fits l.store l.types) × (g.S.Store.path l.store ≡ g.S.Store.path l.fn.store) × (says.StillKnows (g.S.Store.objects l.fn.store) (g.S.Store.objects l.store)) × (length (g.S.Store.objects l.store) ≡ length (g.S.Store.objects l.fn.store))

abbrev pub decreases-loop-next : goal.decreases-loop-next
decreases-loop-next g l = l.count - l.next
