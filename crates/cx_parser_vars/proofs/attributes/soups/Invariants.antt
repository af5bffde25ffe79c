use Rattle.std.proofs.Common.{◌≡◌, length}
use Rattle.cx_syntax_parts.specs.Readers as spec
use Rattle.cx_parser_vars.proofs.Greatest.{with_most}
use Rattle.cx_parser_vars.proofs.attributes.soups.Given as goal

abbrev pub invariant-loop-tokens : goal.invariant-loop-tokens
invariant-loop-tokens l = with_most l.most (spec.soups l.left l.tokens) ≡ spec.soups l.left l.fn.tokens

abbrev pub decreases-loop-tokens : goal.decreases-loop-tokens
decreases-loop-tokens l = length l.tokens
