use Rattle.cx_record_pointers.proofs.seat.+seat_of.Given as goal

abbrev pub decreases-seat_of : goal.decreases-seat_of
decreases-seat_of l = l.rest
