use Rattle.std.proofs.Common.{refl}
use Rattle.cx_slot_places.proofs.Shaping.{add_is, equal_is, less_is}
use Rattle.cx_slot_places.proofs.laws.pointers_are_those_of_forms.Goals as goal

pub returns-clause-add : goal.returns-clause-add
returns-clause-add c t os f p by sound h = add_is t sound os f p h by

pub returns-clause-distance : goal.returns-clause-distance
returns-clause-distance c os p q = refl

pub returns-clause-equal : goal.returns-clause-equal
returns-clause-equal c t os f p q sound h one = equal_is t sound os f p h q one

pub returns-clause-less : goal.returns-clause-less
returns-clause-less c t os f p q sound h one = less_is t sound os f p h q one
