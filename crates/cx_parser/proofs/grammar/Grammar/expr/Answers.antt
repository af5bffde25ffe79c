use Rattle.cx_parser.proofs.RuleLengths.{short_other, kept}
use Rattle.cx_syntax.specs.Readers.{deeper}
use Rattle.cx_parser.proofs.grammar.Grammar.expr.Goals as goal

pub read_many-requires-clause-shortens : goal.read_many-requires-clause-shortens
read_many-requires-clause-shortens g c = short_other (deeper c.args.self.now.left) (kept c.args.self.now.left)
