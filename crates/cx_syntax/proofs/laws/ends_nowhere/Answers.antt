use Rattle.cx_syntax.specs.Grammar.{deeper}
use Rattle.cx_syntax.proofs.Endless.{endless_expr, endless_assign, endless_cond, endless_braces, endless_typeid, endless_below, no_end}
use Rattle.cx_syntax.proofs.laws.ends_nowhere.Goals as goal

pub returns-clause-expr : goal.returns-clause-expr
returns-clause-expr c = λ n ts b. no_end ts ((endless_expr (deeper n) (endless_below n)).begins ts b)

pub returns-clause-assign : goal.returns-clause-assign
returns-clause-assign c = λ n ts b. no_end ts ((endless_assign (deeper n) (endless_below n)).begins ts b)

pub returns-clause-cond : goal.returns-clause-cond
returns-clause-cond c = λ n ts b. no_end ts ((endless_cond (deeper n) (endless_below n)).begins ts b)

pub returns-clause-braces : goal.returns-clause-braces
returns-clause-braces c = λ n ts b. no_end ts ((endless_braces (deeper n) (endless_below n)).begins ts b)

pub returns-clause-typeid : goal.returns-clause-typeid
returns-clause-typeid c = λ n ts b. no_end ts ((endless_typeid (deeper n) (endless_below n)).begins ts b)
