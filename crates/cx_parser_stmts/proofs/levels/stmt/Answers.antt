use Rattle.cx_grammar.proofs.Answered.{begins_of}
use Rattle.cx_syntax_stmts.proofs.Exact.{exactly_stmt}
use Rattle.cx_parser_stmts.proofs.levels.stmt.Goals as goal

pub returns-clause-begins : goal.returns-clause-begins
returns-clause-begins c = begins_of (exactly_stmt c.args.left) c.args.tokens.now c.whole_stmt.result c.whole_stmt.new.tokens c.whole_stmt.ensures
