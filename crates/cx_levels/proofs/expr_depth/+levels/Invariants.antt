use Rattle.std.proofs.Common.{◌≡◌, map, max, drop}
use Rattle.cx_levels.specs.Levels.{greatest, deeper}
use Rattle.cx_levels.specs.ExprLevels.{levels_of_expr, levels_of_more, levels_of_operation, levels_of_clause, levels_of_bound}
use Rattle.cx_levels.proofs.expr_depth.+levels.Given as goal

abbrev pub invariant-args_levels-loop-item : goal.invariant-args_levels-loop-item
invariant-args_levels-loop-item l = max l.most (deeper (map levels_of_expr (drop l.item-index l.item-items))) ≡ deeper (map levels_of_expr l.item-items)

abbrev pub invariant-bounds_levels-loop-bound : goal.invariant-bounds_levels-loop-bound
invariant-bounds_levels-loop-bound l = max l.most (greatest (map levels_of_bound (drop l.bound-index l.bounds))) ≡ greatest (map levels_of_bound l.bounds)

abbrev pub invariant-braces_levels-loop-clause : goal.invariant-braces_levels-loop-clause
invariant-braces_levels-loop-clause l = max l.most (greatest (map levels_of_clause (drop l.clause-index l.clause-items))) ≡ greatest (map levels_of_clause l.clause-items)

abbrev pub invariant-operations_levels-loop-operation : goal.invariant-operations_levels-loop-operation
invariant-operations_levels-loop-operation l = max l.most (greatest (map levels_of_operation (drop l.operation-index l.operations))) ≡ greatest (map levels_of_operation l.operations)

abbrev pub invariant-others_levels-loop-other : goal.invariant-others_levels-loop-other
invariant-others_levels-loop-other l = max l.most (greatest (map levels_of_expr (drop l.other-index l.others))) ≡ greatest (map levels_of_expr l.others)

abbrev pub invariant-parts_levels-loop-part : goal.invariant-parts_levels-loop-part
invariant-parts_levels-loop-part l = max l.most (greatest (map levels_of_more (drop l.part-index l.parts))) ≡ greatest (map levels_of_more l.parts)
