use Rattle.std.proofs.Common.{◌≡◌, ℕ, ◌-◌, rules, arith, sym, ◌∙◌, ap}
use Rattle.std.proofs.lemmas.Grind.{common_steps}
use Rattle.cx_base.specs.declared.rule.Rule.{Rule}
use Rattle.cx_grammar.specs.Exact.{stop}
use Rattle.cx_grammar.specs.Sets.{of}
use Rattle.cx_syntax.specs.Classes.{class_at}
use Rattle.cx_syntax_parts.specs.Sets.{starts_soup}
use Rattle.cx_syntax_parts.specs.Readers.{deeper_soup}
use Rattle.cx_parser_vars.specs.Parts as parts
use Rattle.cx_syntax_parts.specs.Readers as spec
use Rattle.cx_parser_vars.proofs.Greatest.{with_most, several_read, several_stopped, several_end}
use Rattle.cx_parser_vars.proofs.Soups.{short_below, deep, below_read, below_stopped, soup_bounded}
use Rattle.cx_parser_vars.proofs.attributes.+soup.Goals as goal

pub soup_below-overflow_sub-left : goal.soup_below-overflow_sub-left
soup_below-overflow_sub-left t c = deep c.args.left (sym c.room.ensures ∙ c.if-not-room.false)

pub soup_below-soup-requires : goal.soup_below-soup-requires
soup_below-soup-requires t c = let some = deep c.args.left (sym c.room.ensures ∙ c.if-not-room.false) in (omega arith, tt)

pub soup_below-returns-in_err-soup : goal.soup_below-returns-in_err-soup
soup_below-returns-in_err-soup t c =
    let step : (rule : Rule) (left : ℕ) → spec.soup (c.args.left - 1) c.args.tokens.now ≡ stop rule left → parts.soup_below c.args.left c.args.tokens.now ≡ stop rule left
    = λ rule left e. below_stopped c.args.left c.args.tokens.now rule left (sym c.room.ensures ∙ c.if-not-room.false) e in
    first_of (search (rules, step), grind (arith, common_steps, step))

pub soup_below-overflow_add-result : goal.soup_below-overflow_add-result
soup_below-overflow_add-result t c = let some = deep c.args.left (sym c.room.ensures ∙ c.if-not-room.false) in let most = soup_bounded (c.args.left - 1) c.args.tokens.now c.soup.new.tokens c.in_ok-soup.field-0 c.in_ok-soup.ensures in let fits = c.ranges.left.fits in omega arith

pub soup_below-returns : goal.soup_below-returns
soup_below-returns t c = below_read c.args.left c.args.tokens.now c.soup.new.tokens c.in_ok-soup.field-0 (sym c.room.ensures ∙ c.if-not-room.false) c.in_ok-soup.ensures

pub soups_below-returns-in_err-soup_below : goal.soups_below-returns-in_err-soup_below
soups_below-returns-in_err-soup_below t c =
    let step : (rule : Rule) (left : ℕ) → parts.soup_below c.args.left c.loop-tokens.tokens ≡ stop rule left → spec.soups_below (deeper_soup c.args.left) c.args.tokens.now ≡ stop rule left
    = λ rule left e. sym c.loop-tokens.invariant ∙ several_stopped c.loop-tokens.most (of class_at starts_soup) (short_below c.args.left) c.loop-tokens.tokens rule left (sym c.sees.ensures ∙ c.loop-tokens-test.true) e in
    first_of (search (rules, step), grind (arith, common_steps, step))

pub soups_below-loop-tokens-smaller : goal.soups_below-loop-tokens-smaller
soups_below-loop-tokens-smaller t c = let short = short_below c.args.left in short.at c.loop-tokens.tokens c.soup_below.new.tokens c.in_ok-soup_below.field-0 c.in_ok-soup_below.ensures

pub soups_below-loop-tokens-preserved : goal.soups_below-loop-tokens-preserved
soups_below-loop-tokens-preserved t c = let step = several_read c.loop-tokens.most (of class_at starts_soup) (short_below c.args.left) c.loop-tokens.tokens c.soup_below.new.tokens c.in_ok-soup_below.field-0 (sym c.sees.ensures ∙ c.loop-tokens-test.true) c.in_ok-soup_below.ensures in
    ap (λ m. with_most m (spec.soups_below (deeper_soup c.args.left) c.soup_below.new.tokens)) c.max-most.ensures ∙ (sym step ∙ c.loop-tokens.invariant)

pub soups_below-returns : goal.soups_below-returns
soups_below-returns t c = sym c.loop-tokens.invariant ∙ several_end c.loop-tokens.most (of class_at starts_soup) (parts.soup_below c.args.left) c.loop-tokens.tokens (sym c.sees.ensures ∙ c.loop-tokens-test.false)
