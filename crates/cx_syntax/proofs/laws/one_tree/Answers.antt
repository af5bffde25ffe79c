use Rattle.cx_syntax.proofs.Exact.{sound, exactly_expr, exactly_assign, exactly_cond}
use Rattle.cx_syntax.proofs.Lists.{exactly_braces, exactly_typeid}
use Rattle.cx_syntax.proofs.Single.{one_value}
use Rattle.cx_syntax.proofs.laws.one_tree.Goals as goal

pub returns-clause-expr : goal.returns-clause-expr
returns-clause-expr c = one_value exactly_expr

pub returns-clause-assign : goal.returns-clause-assign
returns-clause-assign c = one_value exactly_assign

pub returns-clause-cond : goal.returns-clause-cond
returns-clause-cond c = one_value exactly_cond

pub returns-clause-braces : goal.returns-clause-braces
returns-clause-braces c = one_value (λ left. exactly_braces left (sound left))

pub returns-clause-typeid : goal.returns-clause-typeid
returns-clause-typeid c = one_value (λ left. exactly_typeid left (sound left))
