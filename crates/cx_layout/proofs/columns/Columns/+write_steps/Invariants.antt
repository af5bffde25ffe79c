use Rattle.cx_layout.proofs.columns.Columns.+write_steps.Given as goal

abbrev pub decreases-write_steps : goal.decreases-write_steps
decreases-write_steps l = l.node
