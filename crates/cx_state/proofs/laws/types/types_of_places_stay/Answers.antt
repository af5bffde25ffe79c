use Rattle.cx_state.proofs.KnownTypes.{write-types, release-types, settle-types, make-types, cut-types}
use Rattle.cx_state.proofs.laws.types.types_of_places_stay.Goals as goal

pub returns-clause-write : goal.returns-clause-write
returns-clause-write c = write-types

pub returns-clause-release : goal.returns-clause-release
returns-clause-release c = release-types

pub returns-clause-settle : goal.returns-clause-settle
returns-clause-settle c = settle-types

pub returns-clause-make : goal.returns-clause-make
returns-clause-make c = make-types

pub returns-clause-cut : goal.returns-clause-cut
returns-clause-cut c = cut-types
