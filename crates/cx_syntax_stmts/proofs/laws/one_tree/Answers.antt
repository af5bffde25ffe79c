use Rattle.cx_syntax.proofs.Single.{one_value}
use Rattle.cx_syntax_stmts.proofs.Exact.{exactly_stmt, exactly_item, exactly_block}
use Rattle.cx_syntax_stmts.proofs.Stmts.{exactly_label}
use Rattle.cx_syntax_stmts.proofs.laws.one_tree.Goals as goal

pub returns-clause-label : goal.returns-clause-label
returns-clause-label c = one_value exactly_label

pub returns-clause-stmt : goal.returns-clause-stmt
returns-clause-stmt c = one_value exactly_stmt

pub returns-clause-item : goal.returns-clause-item
returns-clause-item c = one_value exactly_item

pub returns-clause-block : goal.returns-clause-block
returns-clause-block c = one_value exactly_block
