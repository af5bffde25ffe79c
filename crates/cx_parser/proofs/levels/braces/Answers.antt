use Rattle.cx_grammar.proofs.Answered.{begins_of}
use Rattle.cx_syntax.proofs.Exact.{sound}
use Rattle.cx_syntax.proofs.Lists.{exactly_braces}
use Rattle.cx_parser.proofs.levels.braces.Goals as goal

pub returns-clause-begins : goal.returns-clause-begins
returns-clause-begins c = begins_of (exactly_braces c.args.left (sound c.args.left)) c.args.tokens.now c.braces_within.result c.braces_within.new.tokens c.braces_within.ensures
