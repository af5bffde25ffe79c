use Rattle.cx_typed.proofs.Keeping.{grows_same, grows_then, grows_declared, grows_initialized, well_grown, kept_grown}
use Rattle.cx_typed.proofs.laws.programs_grow.Goals as goal

pub returns-clause-reflexive : goal.returns-clause-reflexive
returns-clause-reflexive c = grows_same

pub returns-clause-transitive : goal.returns-clause-transitive
returns-clause-transitive c = grows_then

pub returns-clause-declared : goal.returns-clause-declared
returns-clause-declared c = grows_declared

pub returns-clause-initialized : goal.returns-clause-initialized
returns-clause-initialized c = grows_initialized

pub returns-clause-well_typed : goal.returns-clause-well_typed
returns-clause-well_typed c = well_grown

pub returns-clause-kept : goal.returns-clause-kept
returns-clause-kept c = kept_grown
