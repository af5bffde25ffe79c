use Rattle.cx_scopes.proofs.scopes.Scopes.+add_type.Given as goal

abbrev pub decreases-add_type : goal.decreases-add_type
decreases-add_type l = l.levels
