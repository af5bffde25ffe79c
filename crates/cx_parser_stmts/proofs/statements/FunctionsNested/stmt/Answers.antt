use Rattle.cx_parser_stmts.proofs.Depth.{deep, reads_as, stmt_deeper}
use Rattle.cx_parser_stmts.proofs.statements.FunctionsNested.stmt.Goals as goal

pub overflow_sub-left : goal.overflow_sub-left
overflow_sub-left g c = deep c.args.left c.requires.room

pub stmt-requires : goal.stmt-requires
stmt-requires g c = c.requires.ready.0.callable (deep c.args.left c.requires.room) _ _

pub returns : goal.returns
returns g c = reads_as c.args.tokens.now c.stmt.new.arg3 c.stmt.result (stmt_deeper c.args.left c.requires.room) (c.requires.ready.0.reads _ _ _ _ c.stmt.ensures)
