use Rattle.cx_parser_decls.proofs.members.+levels.Given as goal

abbrev pub decreases-member_within : goal.decreases-member_within
decreases-member_within l = l.left
