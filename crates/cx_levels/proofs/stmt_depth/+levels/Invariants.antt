use Rattle.std.proofs.Common.{◌≡◌, map, max, drop}
use Rattle.cx_levels.specs.Levels.{greatest, deeper}
use Rattle.cx_levels.specs.StmtLevels.{levels_of_item, levels_of_switch_item}
use Rattle.cx_levels.proofs.stmt_depth.+levels.Given as goal

abbrev pub invariant-block_levels-loop-item : goal.invariant-block_levels-loop-item
invariant-block_levels-loop-item l = max l.most (deeper (map levels_of_item (drop l.item-index l.item-items))) ≡ deeper (map levels_of_item l.item-items)

abbrev pub invariant-switch_levels-loop-item : goal.invariant-switch_levels-loop-item
invariant-switch_levels-loop-item l = max l.most (greatest (map levels_of_switch_item (drop l.item-index l.items))) ≡ greatest (map levels_of_switch_item l.items)
