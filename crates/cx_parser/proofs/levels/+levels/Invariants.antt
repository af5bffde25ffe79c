use Rattle.cx_parser.proofs.levels.+levels.Given as goal

abbrev pub decreases-expr_within : goal.decreases-expr_within
decreases-expr_within l = l.left

abbrev pub decreases-operand_within : goal.decreases-operand_within
decreases-operand_within l = l.left

abbrev pub decreases-braces_within : goal.decreases-braces_within
decreases-braces_within l = l.left
