use Rattle.std.proofs.Common.{◌≡◌, ℕ, rules, arith, sym, ◌∙◌}
use Rattle.std.proofs.lemmas.Grind.{common_steps}
use Rattle.cx_base.specs.declared.rule.Rule.{Rule}
use Rattle.cx_grammar.specs.Exact.{stop}
use Rattle.cx_parser_names.specs.Parts as parts
use Rattle.cx_grammar.proofs.Loops.{turn_read, turn_stopped, turns_end}
use Rattle.cx_parser_names.proofs.repeats.read_more.Goals as goal

pub returns-in_err-read : goal.returns-in_err-read
returns-in_err-read g c =
    let short = c.requires.shortens in
    let step : (rule : Rule) (left : ℕ) → g.R.Part.reader c.args.part.now c.loop-found.tokens ≡ stop rule left → parts.more_behind (g.P.Test.holds c.args.test.now) (g.R.Part.reader c.args.part.now) c.args.first c.args.tokens.now ≡ stop rule left
    = λ rule left e. sym c.loop-found.invariant ∙ turn_stopped (g.P.Test.holds c.args.test.now) short c.loop-found.found c.loop-found.tokens rule left (sym c.sees.ensures ∙ c.loop-found-test.true) e in
    first_of (search (rules, step), grind (arith, common_steps, step))

pub loop-found-smaller : goal.loop-found-smaller
loop-found-smaller g c = let short = c.requires.shortens in short.at c.loop-found.tokens c.read.new.tokens c.in_ok-read.field-0 c.in_ok-read.ensures

pub loop-found-preserved : goal.loop-found-preserved
loop-found-preserved g c =
    let short = c.requires.shortens in
    let step = turn_read (g.P.Test.holds c.args.test.now) short c.loop-found.found c.loop-found.tokens c.read.new.tokens c.in_ok-read.field-0 (sym c.sees.ensures ∙ c.loop-found-test.true) c.in_ok-read.ensures in
    let before = c.loop-found.invariant in
    first_of (search rules, grind (arith, common_steps))

pub returns : goal.returns
returns g c = sym c.loop-found.invariant ∙ turns_end (g.P.Test.holds c.args.test.now) (g.R.Part.reader c.args.part.now) c.loop-found.found c.loop-found.tokens (sym c.sees.ensures ∙ c.loop-found-test.false)
