use Rattle.cx_slot_places.proofs.Answering.{active_is, call_is, dynamic_is, sealed_is, form_is}
use Rattle.cx_slot_places.proofs.laws.answers_are_those_of_trees.Goals as goal

pub returns-clause-active : goal.returns-clause-active
returns-clause-active c = active_is

pub returns-clause-call : goal.returns-clause-call
returns-clause-call c = call_is

pub returns-clause-dynamic : goal.returns-clause-dynamic
returns-clause-dynamic c t os f p o sound is form live here = dynamic_is t os p o is live here sound f form

pub returns-clause-sealed : goal.returns-clause-sealed
returns-clause-sealed c = sealed_is

pub returns-clause-form : goal.returns-clause-form
returns-clause-form c = form_is
