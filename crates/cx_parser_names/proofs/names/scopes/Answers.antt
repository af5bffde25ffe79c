use Rattle.std.proofs.Common.{◌≡◌, ℕ, rules, arith, sym, ◌∙◌, refl}
use Rattle.std.proofs.lemmas.Grind.{common_steps}
use Rattle.cx_base.specs.declared.rule.Rule.{Rule}
use Rattle.cx_grammar.specs.Exact.{stop}
use Rattle.cx_grammar.specs.Sets.{of}
use Rattle.cx_grammar.specs.Reading.{sees_two}
use Rattle.cx_syntax.specs.declared.class.Class.TheVariants as k
use Rattle.cx_syntax.specs.Classes.{class_at, is}
use Rattle.cx_syntax.specs.Sets.{is_name}
use Rattle.cx_syntax.specs.Readers as r
use Rattle.cx_parser_names.specs.Parts as parts
use Rattle.cx_parser_names.proofs.Short.{short_scope}
use Rattle.cx_parser_names.proofs.Whens.{when_read, when_stopped, when_end}
use Rattle.cx_parser_names.proofs.names.scopes.Goals as goal

pub returns-in_err-scope : goal.returns-in_err-scope
returns-in_err-scope c =
    let step : (rule : Rule) (left : ℕ) → r.scope c.loop-alloc.tokens ≡ stop rule left → parts.scopes c.args.tokens.now ≡ stop rule left
    = λ rule left e. sym c.loop-alloc.invariant ∙ when_stopped (sees_two (of class_at is_name) (is k.ColonColon)) refl short_scope c.loop-alloc.found c.loop-alloc.tokens rule left (sym c.sees_two.ensures ∙ c.loop-alloc-test.true) e in
    first_of (search (rules, step), grind (arith, common_steps, step))

pub loop-alloc-smaller : goal.loop-alloc-smaller
loop-alloc-smaller c = short_scope.at c.loop-alloc.tokens c.scope.new.tokens c.in_ok-scope.field-0 c.in_ok-scope.ensures

pub loop-alloc-preserved : goal.loop-alloc-preserved
loop-alloc-preserved c =
    let step = when_read (sees_two (of class_at is_name) (is k.ColonColon)) refl short_scope c.loop-alloc.found c.loop-alloc.tokens c.scope.new.tokens c.in_ok-scope.field-0 (sym c.sees_two.ensures ∙ c.loop-alloc-test.true) c.in_ok-scope.ensures in
    let before = c.loop-alloc.invariant in
    first_of (search rules, grind (arith, common_steps))

pub returns : goal.returns
returns c = sym c.loop-alloc.invariant ∙ when_end (sees_two (of class_at is_name) (is k.ColonColon)) r.scope c.loop-alloc.found c.loop-alloc.tokens (sym c.sees_two.ensures ∙ c.loop-alloc-test.false)
