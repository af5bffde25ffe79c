use Rattle.std.proofs.Common.{◌≡◌, ℕ, Bool, List, rules, arith, refl, sym, ◌∙◌, ap}
use Rattle.std.proofs.lemmas.Grind.{common_steps}
use Rattle.cx_base.specs.declared.rule.Rule.{Rule}
use Rattle.cx_grammar.specs.Exact.{stop}
use Rattle.cx_grammar.specs.Reading.{sees_two}
use Rattle.cx_syntax.specs.declared.class.Class.TheVariants as k
use Rattle.cx_syntax.specs.declared.lexeme.Lexeme.{Lexeme}
use Rattle.cx_syntax.specs.Classes.{is}
use Rattle.cx_syntax_parts.specs.Readers as parts
use Rattle.cx_syntax_vars.specs.Readers as spec
use Rattle.cx_parser_vars.proofs.Greatest.{with_most, deepest_read, deepest_stopped, deepest_end, counted_reads}
use Rattle.cx_parser_vars.proofs.Soups.{short_attribute}
use Rattle.cx_parser_vars.proofs.variables.name_attrs.Goals as goal

abbrev two_brackets : List Lexeme → Bool
two_brackets = sees_two (is k.OpenBracket) (is k.OpenBracket)

pub returns-in_err-attribute : goal.returns-in_err-attribute
unfolding spec.name_attrs
returns-in_err-attribute c =
    let step : (rule : Rule) (left : ℕ) → parts.attribute c.args.left c.loop-tokens.tokens ≡ stop rule left → spec.name_attrs c.args.left c.args.tokens.now ≡ stop rule left
    = λ rule left e. sym c.loop-tokens.invariant ∙ deepest_stopped c.loop-tokens.most two_brackets refl (short_attribute c.args.left) c.loop-tokens.tokens rule left (sym c.sees_two.ensures ∙ c.loop-tokens-test.true) e in
    first_of (search (rules, step), grind (arith, common_steps, step))

pub loop-tokens-smaller : goal.loop-tokens-smaller
loop-tokens-smaller c = let short = short_attribute c.args.left in short.at c.loop-tokens.tokens c.attribute.new.tokens c.in_ok-attribute.field-0 c.in_ok-attribute.ensures

pub loop-tokens-preserved : goal.loop-tokens-preserved
unfolding spec.name_attrs
loop-tokens-preserved c = let step = deepest_read c.loop-tokens.most two_brackets refl (short_attribute c.args.left) c.loop-tokens.tokens c.attribute.new.tokens c.in_ok-attribute.field-0 (sym c.sees_two.ensures ∙ c.loop-tokens-test.true) c.in_ok-attribute.ensures in
    ap (λ m. with_most m (spec.name_attrs c.args.left c.attribute.new.tokens)) c.max-most.ensures ∙ (sym step ∙ c.loop-tokens.invariant)

pub returns : goal.returns
unfolding spec.name_attrs
returns c = counted_reads c.loop-tokens.most c.loop-tokens.tokens c.counted.result
    (sym c.loop-tokens.invariant ∙ deepest_end c.loop-tokens.most two_brackets (parts.attribute c.args.left) c.loop-tokens.tokens (sym c.sees_two.ensures ∙ c.loop-tokens-test.false)) c.counted.ensures
