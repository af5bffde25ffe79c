use Rattle.cx_unit.proofs.Verdicts.{answers_of}
use Rattle.cx_unit.proofs.units.verdict_on.Goals as goal

pub verdict_of_lexed-requires-clause-lexed : goal.verdict_of_lexed-requires-clause-lexed
verdict_of_lexed-requires-clause-lexed c =
    (c.args.bytes.now, c.requires.short, answers_of c.args.bytes.now c.lex.result c.lex.ensures.tokens c.lex.ensures.fault)

pub returns : goal.returns
returns c =
    c.verdict_of_lexed.ensures c.args.bytes.now c.requires.short (answers_of c.args.bytes.now c.lex.result c.lex.ensures.tokens c.lex.ensures.fault)
