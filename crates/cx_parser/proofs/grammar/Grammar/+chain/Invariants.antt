use Rattle.std.proofs.Common.{◌≡◌, ◌+◌, ◌*◌, length}
use Rattle.cx_grammar.specs.Reading.{made}
use Rattle.cx_parser.specs.Parts as parts
use Rattle.cx_syntax.specs.Readers.{deeper}
use Rattle.cx_parser.proofs.Chained.{gathered, left_turns}
use Rattle.cx_parser.proofs.grammar.Grammar.+chain.Given as goal

abbrev pub decreases-turns : goal.decreases-turns
decreases-turns g l = 2 * l.level + 1

abbrev pub decreases-chain : goal.decreases-chain
decreases-chain g l = 2 * l.level

abbrev pub invariant-turns-loop-tokens : goal.invariant-turns-loop-tokens
invariant-turns-loop-tokens g l = made (gathered l.found l.open_new) (left_turns l.self.left l.level l.open_new l.tokens) ≡ parts.turned (deeper l.self.left) l.level l.fn.open_new l.fn.tokens

abbrev pub decreases-turns-loop-tokens : goal.decreases-turns-loop-tokens
decreases-turns-loop-tokens g l = length l.tokens
