use Rattle.cx_parser.proofs.Depth.{deep, reads_as, cast_deeper}
use Rattle.cx_parser.proofs.grammar.FunctionsDeeper.cast.Goals as goal

pub overflow_sub-left : goal.overflow_sub-left
overflow_sub-left g c = deep c.args.left c.requires.room

pub operand-requires : goal.operand-requires
operand-requires g c = c.requires.ready.cast.callable (deep c.args.left c.requires.room) _ _

pub returns : goal.returns
returns g c = reads_as c.args.tokens.now c.operand.new.arg3 c.operand.result (cast_deeper c.args.left c.requires.room) (c.requires.ready.cast.reads _ _ _ _ c.operand.ensures)
