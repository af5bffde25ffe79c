use Rattle.cx_record_pointers.proofs.enclose.+nearest.Given as goal

abbrev pub decreases-nearest : goal.decreases-nearest
decreases-nearest l = l.rest
