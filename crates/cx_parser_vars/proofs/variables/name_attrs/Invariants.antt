use Rattle.std.proofs.Common.{◌≡◌, length}
use Rattle.cx_syntax_vars.specs.Readers as spec
use Rattle.cx_parser_vars.proofs.Greatest.{with_most}
use Rattle.cx_parser_vars.proofs.variables.name_attrs.Given as goal

abbrev pub invariant-loop-tokens : goal.invariant-loop-tokens
invariant-loop-tokens l = with_most l.most (spec.name_attrs l.left l.tokens) ≡ spec.name_attrs l.left l.fn.tokens

abbrev pub decreases-loop-tokens : goal.decreases-loop-tokens
decreases-loop-tokens l = length l.tokens
