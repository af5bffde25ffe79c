use Rattle.cx_parser.proofs.Depth.{deep, reads_as, assign_deeper}
use Rattle.cx_parser.proofs.grammar.FunctionsDeeper.assign.Goals as goal

pub overflow_sub-left : goal.overflow_sub-left
overflow_sub-left g c = deep c.args.left c.requires.room

pub expr-requires : goal.expr-requires
expr-requires g c = c.requires.ready.assign.callable (deep c.args.left c.requires.room) _ _

pub returns : goal.returns
returns g c = reads_as c.args.tokens.now c.expr.new.arg3 c.expr.result (assign_deeper c.args.left c.requires.room) (c.requires.ready.assign.reads _ _ _ _ c.expr.ensures)
