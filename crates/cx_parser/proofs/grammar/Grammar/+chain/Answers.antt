use Rattle.std.proofs.Common.{rules, ◌≡◌, ◌≤◌, ◌-◌, ◌++◌, ◌∷◌, [], ℕ, arith, sym, ◌∙◌, ap}
use Rattle.std.proofs.lemmas.Grind.{common_steps}
use Rattle.cx_base.specs.declared.rule.Rule.{Rule}
use Rattle.cx_tree.specs.declared.exprs.Expr.{the_lemmas}
use Rattle.cx_grammar.specs.Exact.{done, stop}
use Rattle.cx_grammar.specs.Reading.{made, taken}
use Rattle.cx_syntax.specs.Readers as spec
use Rattle.cx_syntax.specs.Readers.{deeper}
use Rattle.cx_syntax.specs.Values.{span_of, operation_of}
use Rattle.cx_parser.specs.Parts as parts
use Rattle.cx_parser.proofs.Chained.{gathered, left_turns, finished, turn_of, turn_read, operand_stopped, turns_end, chain_stopped, chain_is}
use Rattle.cx_parser.proofs.RuleLengths.{short_turn, kept}
use Rattle.cx_parser.proofs.grammar.Grammar.+chain.Goals as goal

pub chain-returns-in_err-first : goal.chain-returns-in_err-first
chain-returns-in_err-first g t c =
    let some : 1 ≤ c.args.level = omega arith in
    let step : (rule : Rule) (left : ℕ) → spec.chain (deeper c.args.self.now.left) (c.args.level - 1) c.args.tokens.now ≡ stop rule left → spec.chain (deeper c.args.self.now.left) c.args.level c.args.tokens.now ≡ stop rule left
    = λ rule left e. chain_stopped c.args.self.now.left c.args.level c.args.tokens.now rule left some e in
    first_of (search (rules, step), grind (arith, common_steps, step))

pub chain-returns-in_err-found : goal.chain-returns-in_err-found
chain-returns-in_err-found g t c =
    let some : 1 ≤ c.args.level = omega arith in
    let step : (rule : Rule) (left : ℕ) → parts.turned (deeper c.args.self.now.left) (c.args.level - 1) c.in_ok-first.first.1 c.chain.new.tokens ≡ stop rule left → spec.chain (deeper c.args.self.now.left) c.args.level c.args.tokens.now ≡ stop rule left
    = λ rule left e. chain_is c.args.self.now.left c.args.level c.in_ok-first.first c.args.tokens.now c.chain.new.tokens some c.in_ok-first.ensures ∙ ap (finished c.in_ok-first.first c.args.tokens.now) e in
    first_of (search (rules, step), grind (arith, common_steps, step))

pub chain-returns : goal.chain-returns
chain-returns g t c =
    let some : 1 ≤ c.args.level = omega arith in
    let span = c.span_of.ensures ∙ ap span_of (c.since.ensures ∙ ap (λ f. taken f c.turns.new.tokens) c.rest-from.ensures) in
    chain_is c.args.self.now.left c.args.level c.in_ok-first.first c.args.tokens.now c.chain.new.tokens some c.in_ok-first.ensures
    ∙ (ap (finished c.in_ok-first.first c.args.tokens.now) c.in_ok-found.ensures
    ∙ ap (λ o. done o c.turns.new.tokens) (ap (λ s. parts.chained_with c.in_ok-first.first c.in_ok-found.found s) (sym span) ∙ sym c.in_ok-chained.ensures))

pub turns-returns-in_err-operand : goal.turns-returns-in_err-operand
turns-returns-in_err-operand g t c =
    let step : (rule : Rule) (left : ℕ) → spec.chain (deeper c.args.self.now.left) c.args.level c.take.new.self ≡ stop rule left → parts.turned (deeper c.args.self.now.left) c.args.level c.args.open_new c.args.tokens.now ≡ stop rule left
    = λ rule left e. sym c.loop-tokens.invariant ∙ operand_stopped c.args.self.now.left c.args.level c.loop-tokens.found c.loop-tokens.open_new c.in_ok-operator.operator c.loop-tokens.tokens c.take.new.self rule left (sym c.sees.ensures ∙ c.loop-tokens-test.true) c.in_ok-operator.ensures e in
    first_of (search (rules, step), grind (arith, common_steps, step))

pub turns-loop-tokens-smaller : goal.turns-loop-tokens-smaller
turns-loop-tokens-smaller g t c =
    let short = short_turn (deeper c.args.self.now.left) (kept c.args.self.now.left) c.args.level c.loop-tokens.open_new in
    short.at c.loop-tokens.tokens c.chain.new.tokens _ (turn_of c.args.self.now.left c.args.level c.loop-tokens.open_new c.in_ok-operator.operator c.in_ok-operand.operand c.in_ok-operand.open c.loop-tokens.tokens c.take.new.self c.chain.new.tokens c.in_ok-operator.ensures c.in_ok-operand.ensures)

pub turns-loop-tokens-preserved : goal.turns-loop-tokens-preserved
turns-loop-tokens-preserved g t c =
    let grown : c.push.new.self ≡ c.loop-tokens.found ++ operation_of (c.in_ok-operator.operator, (c.in_ok-operand.operand, c.in_ok-operand.open)) ∷ [] = first_of (search (rules, the_lemmas), grind (arith, common_steps)) in
    let step = turn_read c.args.self.now.left c.args.level c.loop-tokens.found c.loop-tokens.open_new c.in_ok-operator.operator c.in_ok-operand.operand c.in_ok-operand.open c.loop-tokens.tokens c.take.new.self c.chain.new.tokens
    (sym c.sees.ensures ∙ c.loop-tokens-test.true) c.in_ok-operator.ensures c.in_ok-operand.ensures in
    ap (λ f. made (gathered f c.in_ok-operand.open) (left_turns c.args.self.now.left c.args.level c.in_ok-operand.open c.chain.new.tokens)) grown ∙ (sym step ∙ c.loop-tokens.invariant)

pub turns-returns : goal.turns-returns
turns-returns g t c = sym c.loop-tokens.invariant ∙ turns_end c.args.self.now.left c.args.level c.loop-tokens.found c.loop-tokens.open_new c.loop-tokens.tokens (sym c.sees.ensures ∙ c.loop-tokens-test.false)
