use Rattle.std.proofs.Common.{◌<◌, length, rules, arith, sym, ◌∙◌}
use Rattle.std.proofs.lemmas.Grind.{common_steps}
use Rattle.cx_grammar.proofs.Loops.{upto_read, upto_bounded}
use Rattle.cx_grammar.proofs.repeat.read_upto.Goals as goal

pub loop-tokens-preserved : goal.loop-tokens-preserved
loop-tokens-preserved g c =
    let less : length c.loop-tokens.found < c.args.most = first_of (omega arith, search rules, grind (arith, common_steps)) in
    let step = upto_read (g.P.Test.holds c.args.test.now) (g.R.Part.reader c.args.part.now) c.args.most c.loop-tokens.found c.loop-tokens.tokens c.read.new.tokens c.in_ok-read.field-0 less (sym c.sees.ensures ∙ c.if-sees.true) c.in_ok-read.ensures in
    let before = c.loop-tokens.invariant.turns in
    let bound = upto_bounded (g.P.Test.holds c.args.test.now) (g.R.Part.reader c.args.part.now) c.args.most c.loop-tokens.found c.in_ok-read.field-0 less in
    record { turns = first_of (search rules, grind (arith, common_steps)); bounded = first_of (search rules, grind (arith, common_steps)) }
