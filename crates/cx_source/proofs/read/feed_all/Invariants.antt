use Rattle.std.proofs.Common.{◌≡◌, ◌+◌, ◌-◌, ◌≤◌, length, false}
use Rattle.cx_source.proofs.Pieces.{HasFed}
use Rattle.cx_source.proofs.read.feed_all.Given as goal

abbrev pub invariant-pieces : goal.invariant-pieces
invariant-pieces g l = (length l.buffer ≡ 4096) × (l.fed ≤ l.room) × (g.F.Feed.count l.feed ≡ l.fed) × (g.F.Feed.failed l.feed ≡ false)
    × (g.S.Source.faults l.source ≡ g.S.Source.faults l.fn.source) × (g.S.Source.reads l.source ≤ g.S.Source.reads l.fn.source + l.fed)
    × HasFed (g.F.Feed.holds l.feed) (g.S.Source.left l.fn.source) (g.S.Source.left l.source)
    (g.S.Source.given l.fn.source) (g.S.Source.given l.source) l.fed

abbrev pub decreases-pieces : goal.decreases-pieces
decreases-pieces g l = l.room - l.fed
