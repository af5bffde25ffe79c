use Rattle.cx_type_defs.proofs.Growing.{Grows-row, Grows-class, Grows-enum, body-call, end-call}
use Rattle.cx_type_defs.proofs.laws.calls_make_grow.Goals as goal

pub returns-clause-types : goal.returns-clause-types
returns-clause-types c = Grows-row

pub returns-clause-classes : goal.returns-clause-classes
returns-clause-classes c = Grows-class

pub returns-clause-enums : goal.returns-clause-enums
returns-clause-enums c = Grows-enum

pub returns-clause-bodies : goal.returns-clause-bodies
returns-clause-bodies c = body-call

pub returns-clause-ends : goal.returns-clause-ends
returns-clause-ends c = end-call
