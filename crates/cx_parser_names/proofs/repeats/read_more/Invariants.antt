use Rattle.std.proofs.Common.{◌≡◌, ◌++◌, length}
use Rattle.cx_grammar.specs.Reading.{many_of, made}
use Rattle.cx_parser_names.specs.Parts as parts
use Rattle.cx_parser_names.proofs.repeats.read_more.Given as goal

abbrev pub invariant-loop-found : goal.invariant-loop-found
invariant-loop-found g l = made (λ vs. l.found ++ vs) (many_of (g.P.Test.holds l.test) (g.R.Part.reader l.part) l.tokens) ≡ parts.more_behind (g.P.Test.holds l.test) (g.R.Part.reader l.part) l.fn.first l.fn.tokens

abbrev pub decreases-loop-found : goal.decreases-loop-found
decreases-loop-found g l = length l.tokens
