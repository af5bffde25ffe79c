use Rattle.std.proofs.Common.{◌≡◌, map, take, sum, min}
use Rattle.cx_blocks.specs.Fits.{live_in}
use Rattle.cx_blocks.proofs.told.total_live.Given as goal

abbrev pub invariant-loop-block : goal.invariant-loop-block
invariant-loop-block l = l.total ≡ min (sum (map live_in (take l.block-index l.blocks))) l.most
