use Rattle.cx_lookup.proofs.convert.+adds_const.Given as goal

abbrev pub decreases-adds_const : goal.decreases-adds_const
decreases-adds_const l = l.to.0
