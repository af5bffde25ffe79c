use Rattle.cx_slot_places.proofs.life.+decider_at.Given as goal

abbrev pub decreases-decider_at : goal.decreases-decider_at
decreases-decider_at l = l.at.node
