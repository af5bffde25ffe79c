use Rattle.cx_slot_places.proofs.walk.+trail_to.Given as goal

abbrev pub decreases-trail_to : goal.decreases-trail_to
decreases-trail_to l = l.node
