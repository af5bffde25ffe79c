use Rattle.cx_parser_stmts.proofs.levels.+levels.Given as goal

abbrev pub decreases-stmt_within : goal.decreases-stmt_within
decreases-stmt_within l = l.left

abbrev pub decreases-item_within : goal.decreases-item_within
decreases-item_within l = l.left
