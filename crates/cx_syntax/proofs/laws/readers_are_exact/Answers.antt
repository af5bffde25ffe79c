use Rattle.cx_syntax.proofs.Exact.{sound, exactly_expr, exactly_assign, exactly_cond, exactly_chain, exactly_casts, exactly_unary}
use Rattle.cx_syntax.proofs.Lists.{exactly_braces, exactly_typeid}
use Rattle.cx_syntax.proofs.laws.readers_are_exact.Goals as goal

pub returns-clause-expr : goal.returns-clause-expr
returns-clause-expr c = λ levels ts. (exactly_expr levels).at ts

pub returns-clause-assign : goal.returns-clause-assign
returns-clause-assign c = λ levels ts. (exactly_assign levels).at ts

pub returns-clause-cond : goal.returns-clause-cond
returns-clause-cond c = λ levels ts. (exactly_cond levels).at ts

pub returns-clause-chain : goal.returns-clause-chain
returns-clause-chain c = λ p levels ts. (exactly_chain levels p).at ts

pub returns-clause-cast : goal.returns-clause-cast
returns-clause-cast c = λ levels ts. (exactly_casts levels).at ts

pub returns-clause-unary : goal.returns-clause-unary
returns-clause-unary c = λ levels ts. (exactly_unary levels).at ts

pub returns-clause-braces : goal.returns-clause-braces
returns-clause-braces c = λ levels ts. (exactly_braces levels (sound levels)).at ts

pub returns-clause-typeid : goal.returns-clause-typeid
returns-clause-typeid c = λ levels ts. (exactly_typeid levels (sound levels)).at ts
