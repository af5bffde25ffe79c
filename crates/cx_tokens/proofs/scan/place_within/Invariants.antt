use Rattle.std.proofs.Common.{◌≡◌, ◌+◌, ◌-◌, ◌≤◌, length, drop}
use Rattle.cx_tokens.specs.Bytes.{place_where}
use Rattle.cx_tokens.specs.Scanning.{stops_at}
use Rattle.cx_tokens.proofs.scan.place_within.Given as goal

abbrev pub invariant-places : goal.invariant-places
invariant-places l = (l.at ≤ l.most) × (l.at ≤ length l.bytes)
    × (l.at + place_where (stops_at l.stop) (drop l.at l.bytes) ≡ place_where (stops_at l.stop) l.bytes)

abbrev pub decreases-places : goal.decreases-places
decreases-places l = l.most - l.at
