use Rattle.cx_syntax.proofs.Endless.{no_end}
use Rattle.cx_syntax_stmts.proofs.Endless.{endless_label, endless_stmt, endless_item, endless_block}
use Rattle.cx_syntax_stmts.proofs.laws.ends_nowhere.Goals as goal

pub returns-clause-label : goal.returns-clause-label
returns-clause-label c = λ n ts b. no_end ts ((endless_label n).begins ts b)

pub returns-clause-stmt : goal.returns-clause-stmt
returns-clause-stmt c = λ n ts b. no_end ts ((endless_stmt n).begins ts b)

pub returns-clause-item : goal.returns-clause-item
returns-clause-item c = λ n ts b. no_end ts ((endless_item n).begins ts b)

pub returns-clause-block : goal.returns-clause-block
returns-clause-block c = λ n ts b. no_end ts ((endless_block n).begins ts b)
