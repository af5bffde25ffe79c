use Rattle.std.proofs.Common.{sym, ◌∙◌}
use Rattle.cx_parser_decls.proofs.WholeUnits.{of_more, of_stop, of_whole}
use Rattle.cx_parser_decls.proofs.units.within.Goals as goal

pub returns-in-Err : goal.returns-in-Err
returns-in-Err c = of_stop c.args.left c.args.lexemes.now c.new-tokens.result c.in-Err.stop c.new-tokens.ensures c.in-Err.ensures

pub returns-then-left-ne0 : goal.returns-then-left-ne0
returns-then-left-ne0 c = of_more c.args.left c.args.lexemes.now c.new-tokens.result c.in-Ok.unit c.unit.new.tokens c.refuse.result c.new-tokens.ensures c.in-Ok.ensures (λ z. c.if-left-ne0.true (c.left.ensures ∙ z)) c.refuse.ensures

pub returns-else-left-ne0 : goal.returns-else-left-ne0
returns-else-left-ne0 c = of_whole c.args.left c.args.lexemes.now c.new-tokens.result c.in-Ok.unit c.unit.new.tokens c.new-tokens.ensures c.in-Ok.ensures (sym c.left.ensures ∙ c.if-left-ne0.false)
