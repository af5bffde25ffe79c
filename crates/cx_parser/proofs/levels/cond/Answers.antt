use Rattle.cx_grammar.proofs.Answered.{begins_of}
use Rattle.cx_syntax.proofs.Exact.{exactly_cond}
use Rattle.cx_parser.proofs.levels.cond.Goals as goal

pub returns-clause-begins : goal.returns-clause-begins
returns-clause-begins c = begins_of (exactly_cond c.args.left) c.args.tokens.now c.expr_within.result c.expr_within.new.tokens c.expr_within.ensures
