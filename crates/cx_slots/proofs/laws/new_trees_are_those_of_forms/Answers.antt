use Rattle.cx_slots.proofs.Fresh.{fresh_fits}
use Rattle.cx_slots.proofs.Ended.{ended_fresh}
use Rattle.cx_slots.proofs.NewTrees.{object_new}
use Rattle.cx_slots.proofs.laws.new_trees_are_those_of_forms.Goals as goal

pub returns-clause-fits : goal.returns-clause-fits
returns-clause-fits c = fresh_fits

pub returns-clause-ended : goal.returns-clause-ended
returns-clause-ended c = ended_fresh

pub returns-clause-of_type : goal.returns-clause-of_type
returns-clause-of_type c = object_new
