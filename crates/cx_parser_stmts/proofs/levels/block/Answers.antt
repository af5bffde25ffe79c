use Rattle.cx_grammar.proofs.Answered.{begins_of}
use Rattle.cx_syntax_stmts.proofs.Exact.{exactly_block}
use Rattle.cx_parser_stmts.proofs.levels.block.Goals as goal

pub returns-clause-begins : goal.returns-clause-begins
returns-clause-begins c = begins_of (exactly_block c.args.left) c.args.tokens.now c.block.result c.block.new.tokens c.block.ensures
