use Rattle.cx_slot_places.proofs.seal.+stand_at.Given as goal

abbrev pub decreases-stand_at : goal.decreases-stand_at
decreases-stand_at l = l.node
