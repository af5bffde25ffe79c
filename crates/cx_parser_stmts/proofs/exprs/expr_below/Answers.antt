use Rattle.cx_parser_stmts.proofs.Depth.{none_below, reads_as, expr_deeper}
use Rattle.cx_parser_stmts.proofs.exprs.expr_below.Goals as goal

pub returns-then-left-eq0 : goal.returns-then-left-eq0
returns-then-left-eq0 c rule left e =
    let h = none_below c.args.left c.args.tokens.now c.if-left-eq0.true in cc

pub returns : goal.returns
returns c = reads_as c.args.tokens.now c.expr.new.tokens c.expr.result (expr_deeper c.args.left c.if-left-eq0.false) c.expr.ensures.reads
