use Rattle.cx_state.proofs.NewTrees.{whole-fits}
use Rattle.cx_state.proofs.Complete.{complete-tree}
use Rattle.cx_state.proofs.laws.forms.new_trees_fit.Goals as goal

pub returns-clause-there : goal.returns-clause-there
returns-clause-there c = complete-tree

pub returns-clause-fits : goal.returns-clause-fits
returns-clause-fits c t os p count ty row x konst at e = whole-fits t os p count ty row x at e konst
