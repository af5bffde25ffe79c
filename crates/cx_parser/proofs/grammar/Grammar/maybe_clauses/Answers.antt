use Rattle.cx_parser.proofs.RuleLengths.{short_clause, kept}
use Rattle.cx_syntax.specs.Readers.{deeper}
use Rattle.cx_parser.proofs.grammar.Grammar.maybe_clauses.Goals as goal

pub read_others-requires-clause-shortens : goal.read_others-requires-clause-shortens
read_others-requires-clause-shortens g c = short_clause (deeper c.args.self.now.left) (kept c.args.self.now.left)
