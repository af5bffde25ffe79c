use Rattle.std.proofs.Common.{◌≡◌, ◌++◌, ◌-◌, ◌≤◌, length}
use Rattle.cx_grammar.specs.Reading.{upto_of, made}
use Rattle.cx_grammar.proofs.repeat.read_upto.Given as goal

abbrev pub invariant-loop-tokens : goal.invariant-loop-tokens
invariant-loop-tokens g l = record {
  turns : made (λ vs. l.found ++ vs) (upto_of (l.most - length l.found) (g.P.Test.holds l.test) (g.R.Part.reader l.part) l.tokens) ≡ upto_of l.most (g.P.Test.holds l.test) (g.R.Part.reader l.part) l.fn.tokens;
  bounded : length l.found ≤ l.most;
}

abbrev pub decreases-loop-tokens : goal.decreases-loop-tokens
decreases-loop-tokens g l = l.most - length l.found
