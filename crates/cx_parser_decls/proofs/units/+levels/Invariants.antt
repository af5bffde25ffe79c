use Rattle.cx_parser_decls.proofs.units.+levels.Given as goal

abbrev pub decreases-decl_within : goal.decreases-decl_within
decreases-decl_within l = l.left
