use Rattle.std.proofs.Common.{length-take}
use Rattle.cx_state.proofs.Elsewhere.{take-get, take-gone, cut-paths, make-undone}
use Rattle.cx_state.proofs.laws.elsewhere.cut_keeps_the_objects_below.Goals as goal

pub returns-clause-below : goal.returns-clause-below
returns-clause-below c = take-get

pub returns-clause-gone : goal.returns-clause-gone
returns-clause-gone c = take-gone

pub returns-clause-as_many : goal.returns-clause-as_many
returns-clause-as_many c = λ os mark. length-take mark os

pub returns-clause-paths : goal.returns-clause-paths
returns-clause-paths c = cut-paths

pub returns-clause-undone : goal.returns-clause-undone
returns-clause-undone c = make-undone
