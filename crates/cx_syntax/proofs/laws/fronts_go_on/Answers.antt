use Rattle.std.proofs.Common.{refl}
use Rattle.cx_syntax.specs.Grammar.{deeper}
use Rattle.cx_syntax.proofs.Viable.{viable_expr, viable_assign, viable_cond, viable_braces, viable_typeid, viable_below, cond_stays, goes_on}
use Rattle.cx_syntax.proofs.laws.fronts_go_on.Goals as goal

pub returns-clause-expr : goal.returns-clause-expr
returns-clause-expr c = λ n ts b. let p = goes_on refl (viable_expr (deeper n) (viable_below n)) ts b in (p.more, p.value, p.spelled)

pub returns-clause-assign : goal.returns-clause-assign
returns-clause-assign c = λ n ts b. let p = goes_on refl (viable_assign (deeper n) (viable_below n)) ts b in (p.more, p.value, p.spelled)

pub returns-clause-cond : goal.returns-clause-cond
returns-clause-cond c = λ n ts b. let p = goes_on (cond_stays n) (viable_cond (deeper n) (viable_below n)) ts b in (p.more, p.value, p.spelled)

pub returns-clause-braces : goal.returns-clause-braces
returns-clause-braces c = λ n ts b. let p = goes_on refl (viable_braces (deeper n) (viable_below n)) ts b in (p.more, p.value, p.spelled)

pub returns-clause-typeid : goal.returns-clause-typeid
returns-clause-typeid c = λ n ts b. let p = goes_on refl (viable_typeid (deeper n) (viable_below n)) ts b in (p.more, p.value, p.spelled)
