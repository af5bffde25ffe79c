use Rattle.std.proofs.Common.{sym, ◌∙◌}
use Rattle.cx_syntax.specs.Classes.{class_at}
use Rattle.cx_parser_decls.proofs.Begins.{param_open, param_specs}
use Rattle.cx_parser_decls.proofs.sets.StartsParamTestLexeme.test.Goals as goal

pub returns-then-test : goal.returns-then-test
returns-then-test c = c.if-test.true ∙ sym (param_open (class_at c.args.token.now) (sym c.test.ensures ∙ c.if-test.true))

pub returns-else-test : goal.returns-else-test
returns-else-test c = c.test-else-test.ensures ∙ sym (param_specs (class_at c.args.token.now) (sym c.test.ensures ∙ c.if-test.false))
