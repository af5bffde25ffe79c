use Rattle.std.proofs.Common.{◌≡◌, ◌+◌, ◌*◌, length}
use Rattle.cx_syntax_parts.specs.Readers as spec
use Rattle.cx_syntax_parts.specs.Readers.{deeper_soup}
use Rattle.cx_parser_vars.proofs.Greatest.{with_most}
use Rattle.cx_parser_vars.proofs.attributes.+soup.Given as goal

abbrev pub decreases-group : goal.decreases-group
decreases-group l = 4 * l.left + 2

abbrev pub decreases-soup : goal.decreases-soup
decreases-soup l = 4 * l.left + 3

abbrev pub decreases-soup_below : goal.decreases-soup_below
decreases-soup_below l = 4 * l.left

abbrev pub decreases-soups_below : goal.decreases-soups_below
decreases-soups_below l = 4 * l.left + 1

abbrev pub invariant-soups_below-loop-tokens : goal.invariant-soups_below-loop-tokens
invariant-soups_below-loop-tokens l = with_most l.most (spec.soups_below (deeper_soup l.left) l.tokens) ≡ spec.soups_below (deeper_soup l.left) l.fn.tokens

abbrev pub decreases-soups_below-loop-tokens : goal.decreases-soups_below-loop-tokens
decreases-soups_below-loop-tokens l = length l.tokens
