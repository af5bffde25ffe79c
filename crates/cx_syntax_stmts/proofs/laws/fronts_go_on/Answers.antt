use Rattle.std.proofs.Common.{refl}
use Rattle.cx_syntax.proofs.Viable.{goes_on}
use Rattle.cx_syntax_stmts.proofs.Viable.{viable_label, viable_stmt, viable_item, viable_block, label_stays, stmt_stays, item_stays}
use Rattle.cx_syntax_stmts.proofs.laws.fronts_go_on.Goals as goal

pub returns-clause-label : goal.returns-clause-label
returns-clause-label c = λ n ts b. let p = goes_on (label_stays n) (viable_label n) ts b in (p.more, p.value, p.spelled)

pub returns-clause-stmt : goal.returns-clause-stmt
returns-clause-stmt c = λ n ts b. let p = goes_on (stmt_stays n) (viable_stmt n) ts b in (p.more, p.value, p.spelled)

pub returns-clause-item : goal.returns-clause-item
returns-clause-item c = λ n ts b. let p = goes_on (item_stays n) (viable_item n) ts b in (p.more, p.value, p.spelled)

pub returns-clause-block : goal.returns-clause-block
returns-clause-block c = λ n ts b. let p = goes_on refl (viable_block n) ts b in (p.more, p.value, p.spelled)
