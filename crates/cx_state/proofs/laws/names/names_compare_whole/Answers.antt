use Rattle.cx_state.proofs.Names.{mark-tells, root-tells}
use Rattle.cx_state.proofs.laws.names.names_compare_whole.Goals as goal

pub returns-clause-mark : goal.returns-clause-mark
returns-clause-mark c = mark-tells

pub returns-clause-root : goal.returns-clause-root
returns-clause-root c = root-tells
