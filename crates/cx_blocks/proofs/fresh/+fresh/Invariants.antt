use Rattle.std.proofs.Common.{ℕ, ◌+◌, ◌-◌, ◌*◌, length}
use Rattle.cx_blocks.proofs.News.{Before}
use Rattle.cx_blocks.proofs.fresh.+fresh.Given as goal

abbrev pub decreases-fresh_part : goal.decreases-fresh_part
decreases-fresh_part l = 2 * (length l.columns.now.nodes.items - l.parent)

abbrev pub decreases-fresh_slot : goal.decreases-fresh_slot
decreases-fresh_slot l = 2 * (length l.columns.now.nodes.items - l.node) + 1

abbrev pub invariant-fresh_part-loop-k : goal.invariant-fresh_part-loop-k
invariant-fresh_part-loop-k l = Before l.columns.nodes.items l.columns.parts.items l.parent l.from l.count l.i l.k
