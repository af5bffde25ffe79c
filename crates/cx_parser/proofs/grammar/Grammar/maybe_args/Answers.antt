use Rattle.cx_parser.proofs.RuleLengths.{short_arg, kept}
use Rattle.cx_syntax.specs.Readers.{deeper}
use Rattle.cx_parser.proofs.grammar.Grammar.maybe_args.Goals as goal

pub read_more-requires-clause-shortens : goal.read_more-requires-clause-shortens
read_more-requires-clause-shortens g c = short_arg (deeper c.args.self.now.left) (kept c.args.self.now.left)
