use Rattle.std.proofs.Common.{◌≡◌, sym, ◌∙◌}
use Rattle.cx_syntax.specs.Sets.{allowed}
use Rattle.cx_ahead.proofs.Following.{found}
use Rattle.cx_ahead.proofs.operators.AllowedTestLexeme.test.Goals as goal

pub returns-in-Some : goal.returns-in-Some
returns-in-Some c = found (allowed c.args.self.now.level c.args.self.now.open_new) c.args.token.now.class c.in-Some.field-0 (sym c.operator.ensures ∙ c.in-Some.is)
