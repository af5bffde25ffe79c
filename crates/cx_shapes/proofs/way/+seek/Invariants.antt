use Rattle.cx_shapes.proofs.way.+seek.Given as goal

abbrev pub decreases-seek : goal.decreases-seek
decreases-seek l = l.at
