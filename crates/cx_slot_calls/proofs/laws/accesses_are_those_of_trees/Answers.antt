use Rattle.cx_slot_calls.proofs.Breaking.{loads_as, inits_as, activates_as, stores_as, advances_as}
use Rattle.cx_slot_calls.proofs.laws.accesses_are_those_of_trees.Goals as goal

pub returns-clause-load : goal.returns-clause-load
returns-clause-load c = loads_as

pub returns-clause-init : goal.returns-clause-init
returns-clause-init c = inits_as

pub returns-clause-activate : goal.returns-clause-activate
returns-clause-activate c = activates_as

pub returns-clause-store : goal.returns-clause-store
returns-clause-store c = stores_as

pub returns-clause-advance : goal.returns-clause-advance
returns-clause-advance c t os p o to is live here b = advances_as t os p o is live here b to
