use Rattle.cx_syntax_stmts.proofs.Exact.{exactly_stmt, exactly_item, exactly_block}
use Rattle.cx_syntax_stmts.proofs.Stmts.{exactly_label}
use Rattle.cx_syntax_stmts.proofs.laws.readers_are_exact.Goals as goal

pub returns-clause-label : goal.returns-clause-label
returns-clause-label c = λ levels ts. (exactly_label levels).at ts

pub returns-clause-stmt : goal.returns-clause-stmt
returns-clause-stmt c = λ levels ts. (exactly_stmt levels).at ts

pub returns-clause-item : goal.returns-clause-item
returns-clause-item c = λ levels ts. (exactly_item levels).at ts

pub returns-clause-block : goal.returns-clause-block
returns-clause-block c = λ levels ts. (exactly_block levels).at ts
