use Rattle.std.proofs.Common.{◌≡◌, ℕ, rules, arith, sym, ◌∙◌, ap}
use Rattle.std.proofs.lemmas.Grind.{common_steps}
use Rattle.cx_base.specs.declared.rule.Rule.{Rule}
use Rattle.cx_grammar.specs.Exact.{stop}
use Rattle.cx_grammar.specs.Sets.{of}
use Rattle.cx_syntax.specs.Classes.{class_at}
use Rattle.cx_syntax_parts.specs.Sets.{starts_soup}
use Rattle.cx_syntax_parts.specs.Readers as spec
use Rattle.cx_parser_vars.proofs.Greatest.{with_most, several_read, several_stopped, several_end}
use Rattle.cx_parser_vars.proofs.Soups.{short_soup}
use Rattle.cx_parser_vars.proofs.attributes.soups.Goals as goal

pub returns-in_err-soup : goal.returns-in_err-soup
returns-in_err-soup c =
    let step : (rule : Rule) (left : ℕ) → spec.soup c.args.left c.loop-tokens.tokens ≡ stop rule left → spec.soups c.args.left c.args.tokens.now ≡ stop rule left
    = λ rule left e. sym c.loop-tokens.invariant ∙ several_stopped c.loop-tokens.most (of class_at starts_soup) (short_soup c.args.left) c.loop-tokens.tokens rule left (sym c.sees.ensures ∙ c.loop-tokens-test.true) e in
    first_of (search (rules, step), grind (arith, common_steps, step))

pub loop-tokens-smaller : goal.loop-tokens-smaller
loop-tokens-smaller c = let short = short_soup c.args.left in short.at c.loop-tokens.tokens c.soup.new.tokens c.in_ok-soup.field-0 c.in_ok-soup.ensures

pub loop-tokens-preserved : goal.loop-tokens-preserved
loop-tokens-preserved c = let step = several_read c.loop-tokens.most (of class_at starts_soup) (short_soup c.args.left) c.loop-tokens.tokens c.soup.new.tokens c.in_ok-soup.field-0 (sym c.sees.ensures ∙ c.loop-tokens-test.true) c.in_ok-soup.ensures in
    ap (λ m. with_most m (spec.soups c.args.left c.soup.new.tokens)) c.max-most.ensures ∙ (sym step ∙ c.loop-tokens.invariant)

pub returns : goal.returns
returns c = sym c.loop-tokens.invariant ∙ several_end c.loop-tokens.most (of class_at starts_soup) (spec.soup c.args.left) c.loop-tokens.tokens (sym c.sees.ensures ∙ c.loop-tokens-test.false)
