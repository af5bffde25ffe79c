use Rattle.std.proofs.Common.{◌≡◌, map, take, sum, min}
use Rattle.cx_records.specs.Fits.{live_in}
use Rattle.cx_records.proofs.whole.total_live.Given as goal

abbrev pub invariant-loop-kept : goal.invariant-loop-kept
invariant-loop-kept l = l.total ≡ min (sum (map live_in (take l.kept-index l.records))) l.most
