use Rattle.std.proofs.Common.{length, arith}
use Rattle.std.proofs.lemmas.Option.{slice_get_past}
use Rattle.cx_state.proofs.Elsewhere.{make-length, make-others, make-made, make-tree, make-paths}
use Rattle.cx_state.proofs.laws.elsewhere.made_objects_come_last.Goals as goal

pub returns-clause-as_many : goal.returns-clause-as_many
returns-clause-as_many c = make-length

pub returns-clause-others : goal.returns-clause-others
returns-clause-others c = λ t limits os q new i e l. make-others t limits os q new e i l

pub returns-clause-made : goal.returns-clause-made
returns-clause-made c = make-made

pub returns-clause-tree : goal.returns-clause-tree
returns-clause-tree c = make-tree

pub returns-clause-number : goal.returns-clause-number
returns-clause-number c = λ os. slice_get_past os (length os) (omega arith)

pub returns-clause-paths : goal.returns-clause-paths
returns-clause-paths c = λ t limits os q new p e l. make-paths t limits os q new e p l
