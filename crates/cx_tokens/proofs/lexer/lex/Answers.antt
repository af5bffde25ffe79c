use Rattle.std.proofs.Common.{ap, drop}
use Rattle.cx_tokens.proofs.Reach.{from_start, lexed, unlexed}
use Rattle.cx_tokens.proofs.lexer.lex.Goals as goal

pub returns-clause-tokens : goal.returns-clause-tokens
returns-clause-tokens c =
    lexed c.args.bytes.now c.finish.result
    (c.finish.ensures c.args.bytes.now (ap (λ n. drop n c.args.bytes.now) c.start.ensures.at) (from_start c.args.bytes.now c.start.result c.new.result c.start.ensures.begins c.new.ensures))

pub returns-clause-fault : goal.returns-clause-fault
returns-clause-fault c =
    unlexed c.args.bytes.now c.finish.result
    (c.finish.ensures c.args.bytes.now (ap (λ n. drop n c.args.bytes.now) c.start.ensures.at) (from_start c.args.bytes.now c.start.result c.new.result c.start.ensures.begins c.new.ensures))
