use Rattle.std.proofs.Common.{◌≡◌, length}
use Rattle.cx_grammar.specs.Reading.{others_behind}
use Rattle.cx_grammar.proofs.repeat.read_others.Given as goal

abbrev pub invariant-loop-found : goal.invariant-loop-found
invariant-loop-found g l = others_behind (g.P.Test.holds l.separator) (g.S.Test.holds l.starts) (g.R.Part.reader l.part) l.found l.tokens ≡ others_behind (g.P.Test.holds l.separator) (g.S.Test.holds l.starts) (g.R.Part.reader l.part) l.fn.first l.fn.tokens

abbrev pub decreases-loop-found : goal.decreases-loop-found
decreases-loop-found g l = length l.tokens
