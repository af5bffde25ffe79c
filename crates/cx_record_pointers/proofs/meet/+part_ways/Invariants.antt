use Rattle.cx_record_pointers.proofs.meet.+part_ways.Given as goal

abbrev pub decreases-part_ways : goal.decreases-part_ways
decreases-part_ways l = l.a
