use Rattle.cx_slot_places.proofs.Shaping.{apart_distance, apart_equal, apart_less}
use Rattle.cx_slot_places.proofs.laws.places_of_two_objects_are_apart.Goals as goal

pub returns-clause-distance : goal.returns-clause-distance
returns-clause-distance c = apart_distance

pub returns-clause-equal : goal.returns-clause-equal
returns-clause-equal c = apart_equal

pub returns-clause-less : goal.returns-clause-less
returns-clause-less c = apart_less
