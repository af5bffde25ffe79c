use Rattle.std.proofs.Common.{length, refl, sym, ap, ◌∙◌}
use Rattle.cx_base.specs.declared.rule.Rule.TheVariants.{Syntax, Nesting}
use Rattle.cx_grammar.specs.declared.stop.ParseStop.TheVariants.{Fault}
use Rattle.cx_parser_vars.specs.Parts.{refused_at}
use Rattle.cx_parser_vars.proofs.Depth.{reads_as, stops_at}
use Rattle.cx_parser_vars.proofs.Parens.{paren_deep, paren_refused, paren_same}
use Rattle.cx_parser_vars.proofs.inits.paren_init.Goals as goal

pub returns-then-not-room : goal.returns-then-not-room
returns-then-not-room c = stops_at Nesting (length c.args.tokens.now) c.too_deep.result c.args.tokens.now (paren_deep c.args.left c.args.tokens.now (sym c.room.ensures ∙ c.if-not-room.true)) c.too_deep.ensures

pub returns-in-Some : goal.returns-in-Some
returns-in-Some c = stops_at Syntax c.in-Some.fault (Fault Syntax c.in-Some.fault) c.args.tokens.now
    (paren_refused c.args.left (sym c.room.ensures ∙ c.if-not-room.false) c.args.tokens.now c.in-Some.fault (ap refused_at (sym c.rest.ensures) ∙ (sym c.refused_at.ensures ∙ c.in-Some.is))) refl

pub returns : goal.returns
returns c = reads_as c.paren_args.new.tokens c.paren_args.result
    (paren_same c.args.left (sym c.room.ensures ∙ c.if-not-room.false) c.args.tokens.now (ap refused_at (sym c.rest.ensures) ∙ (sym c.refused_at.ensures ∙ c.in_default.is))) c.paren_args.ensures
