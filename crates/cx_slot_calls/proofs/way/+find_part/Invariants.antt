use Rattle.cx_slot_calls.proofs.way.+find_part.Given as goal

abbrev pub decreases-find_part : goal.decreases-find_part
decreases-find_part l = l.node
