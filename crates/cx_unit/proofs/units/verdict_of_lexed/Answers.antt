use Rattle.std.proofs.Common.{subst}
use Rattle.cx_tokens.specs.Reached.{Answers}
use Rattle.cx_unit.proofs.Verdicts.{lexed_ends, of_answer, of_tokens}
use Rattle.cx_unit.proofs.units.verdict_of_lexed.Goals as goal

pub run_unit-requires-clause-end : goal.run_unit-requires-clause-end
run_unit-requires-clause-end c =
    lexed_ends c.requires.lexed.0 c.in-Ok.tokens (subst (Answers c.requires.lexed.0) c.in-Ok.is c.requires.lexed.2)

pub returns-in-Ok : goal.returns-in-Ok
returns-in-Ok c bytes short answers =
    of_tokens c.args.limits bytes c.in-Ok.tokens c.run_unit.result short (subst (Answers bytes) c.in-Ok.is answers) c.run_unit.ensures

pub returns-in-Err : goal.returns-in-Err
returns-in-Err c bytes short answers =
    of_answer c.args.limits bytes c.in-Err.answer c.refused_by.result short (subst (Answers bytes) c.in-Err.is answers) c.refused_by.ensures
