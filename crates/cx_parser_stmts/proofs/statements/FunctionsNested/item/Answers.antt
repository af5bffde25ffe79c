use Rattle.cx_parser_stmts.proofs.Depth.{deep, reads_as, item_deeper}
use Rattle.cx_parser_stmts.proofs.statements.FunctionsNested.item.Goals as goal

pub overflow_sub-left : goal.overflow_sub-left
overflow_sub-left g c = deep c.args.left c.requires.room

pub item-requires : goal.item-requires
item-requires g c = c.requires.ready.1.callable (deep c.args.left c.requires.room) _ _

pub returns : goal.returns
returns g c = reads_as c.args.tokens.now c.item.new.arg3 c.item.result (item_deeper c.args.left c.requires.room) (c.requires.ready.1.reads _ _ _ _ c.item.ensures)
