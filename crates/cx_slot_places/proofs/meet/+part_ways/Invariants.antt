use Rattle.std.proofs.Common.{◌+◌}
use Rattle.cx_slot_places.proofs.meet.+part_ways.Given as goal

abbrev pub decreases-part_ways : goal.decreases-part_ways
decreases-part_ways l = l.a + l.b
