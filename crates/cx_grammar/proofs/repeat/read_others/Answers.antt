use Rattle.std.proofs.Common.{◌≡◌, ℕ, true, false, rules, arith, sym, ◌∙◌, ap}
use Rattle.std.proofs.lemmas.Grind.{common_steps}
use Rattle.cx_base.specs.declared.rule.Rule.{Rule}
use Rattle.cx_grammar.specs.Exact.{done, stop}
use Rattle.cx_grammar.specs.Reading.{sees, others_behind}
use Rattle.cx_grammar.proofs.Loops.{other_read, other_stopped, others_end, others_ended}
use Rattle.cx_grammar.proofs.repeat.read_others.Goals as goal

pub returns-in_err-read : goal.returns-in_err-read
returns-in_err-read g c =
    let step : (rule : Rule) (left : ℕ) → g.R.Part.reader c.args.part.now c.loop-found.tokens ≡ stop rule left → others_behind (g.P.Test.holds c.args.separator.now) (g.S.Test.holds c.args.starts.now) (g.R.Part.reader c.args.part.now) c.args.first c.args.tokens.now ≡ stop rule left
    = λ rule left e. sym c.loop-found.invariant ∙ other_stopped (g.P.Test.holds c.args.separator.now) (g.S.Test.holds c.args.starts.now) (g.R.Part.reader c.args.part.now) c.requires.shortens c.loop-found.found c.loop-found.tokens rule left (sym c.sees_two.ensures ∙ c.loop-found-test.true) e in
    first_of (search (rules, step), grind (arith, common_steps, step))

pub loop-found-smaller : goal.loop-found-smaller
loop-found-smaller g c = let short = c.requires.shortens in short.at c.loop-found.tokens c.read.new.tokens c.in_ok-read.field-0 c.in_ok-read.ensures

pub loop-found-preserved : goal.loop-found-preserved
loop-found-preserved g c =
    let step = other_read (g.P.Test.holds c.args.separator.now) (g.S.Test.holds c.args.starts.now) (g.R.Part.reader c.args.part.now) c.requires.shortens c.loop-found.found c.loop-found.tokens c.read.new.tokens c.in_ok-read.field-0 (sym c.sees_two.ensures ∙ c.loop-found-test.true) c.in_ok-read.ensures in
    let before = c.loop-found.invariant in
    first_of (search rules, grind (arith, common_steps))

pub returns-then-not-sees : goal.returns-then-not-sees
returns-then-not-sees g c =
    let unseen : sees (g.P.Test.holds c.args.separator.now) c.loop-found.tokens ≡ false = search rules in
    sym c.loop-found.invariant ∙ others_end (g.P.Test.holds c.args.separator.now) (g.S.Test.holds c.args.starts.now) (g.R.Part.reader c.args.part.now) c.loop-found.found c.loop-found.tokens (sym c.sees_two.ensures ∙ c.loop-found-test.false) unseen

pub returns : goal.returns
returns g c =
    let seen : sees (g.P.Test.holds c.args.separator.now) c.loop-found.tokens ≡ true = search rules in
    sym c.loop-found.invariant ∙ (others_ended (g.P.Test.holds c.args.separator.now) (g.S.Test.holds c.args.starts.now) (g.R.Part.reader c.args.part.now) c.loop-found.found c.loop-found.tokens (sym c.sees_two.ensures ∙ c.loop-found-test.false) seen
    ∙ ap (λ l. done c.loop-found.found l) (sym c.advance.ensures))
