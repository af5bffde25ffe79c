use Rattle.cx_state_kept.proofs.Holding.{held_stays, known_stays, takes_stay, is_of_stays}
use Rattle.cx_state_kept.proofs.places.conditions_stay.Goals as goal

pub returns-clause-held : goal.returns-clause-held
returns-clause-held c = held_stays

pub returns-clause-known : goal.returns-clause-known
returns-clause-known c = known_stays

pub returns-clause-takes : goal.returns-clause-takes
returns-clause-takes c = takes_stay

pub returns-clause-scalar : goal.returns-clause-scalar
returns-clause-scalar c t old new p k = is_of_stays _ t old new p k

pub returns-clause-class : goal.returns-clause-class
returns-clause-class c t old new p k = is_of_stays _ t old new p k

pub returns-clause-union : goal.returns-clause-union
returns-clause-union c t old new p k = is_of_stays _ t old new p k

pub returns-clause-field : goal.returns-clause-field
returns-clause-field c t old new p i k = is_of_stays _ t old new p k

pub returns-clause-base : goal.returns-clause-base
returns-clause-base c t old new p i k = is_of_stays _ t old new p k

pub returns-clause-elem : goal.returns-clause-elem
returns-clause-elem c t old new p i k = is_of_stays _ t old new p k
