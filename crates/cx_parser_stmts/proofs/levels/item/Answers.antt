use Rattle.cx_grammar.proofs.Answered.{begins_of}
use Rattle.cx_syntax_stmts.proofs.Exact.{exactly_item}
use Rattle.cx_parser_stmts.proofs.levels.item.Goals as goal

pub returns-clause-begins : goal.returns-clause-begins
returns-clause-begins c = begins_of (exactly_item c.args.left) c.args.tokens.now c.whole_item.result c.whole_item.new.tokens c.whole_item.ensures
