use Rattle.cx_parser.proofs.Depth.{deep, reads_as, unary_deeper}
use Rattle.cx_parser.proofs.grammar.FunctionsDeeper.unary.Goals as goal

pub overflow_sub-left : goal.overflow_sub-left
overflow_sub-left g c = deep c.args.left c.requires.room

pub operand-requires : goal.operand-requires
operand-requires g c = c.requires.ready.unary.callable (deep c.args.left c.requires.room) _ _

pub returns : goal.returns
returns g c = reads_as c.args.tokens.now c.operand.new.arg3 c.operand.result (unary_deeper c.args.left c.requires.room) (c.requires.ready.unary.reads _ _ _ _ c.operand.ensures)
