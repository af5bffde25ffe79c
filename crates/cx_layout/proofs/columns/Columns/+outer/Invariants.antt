use Rattle.cx_layout.proofs.columns.Columns.+outer.Given as goal

abbrev pub decreases-outer : goal.decreases-outer
decreases-outer l = l.at.node
