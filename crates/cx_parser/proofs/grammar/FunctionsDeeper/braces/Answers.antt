use Rattle.cx_parser.proofs.Depth.{deep, reads_as, braces_deeper}
use Rattle.cx_parser.proofs.grammar.FunctionsDeeper.braces.Goals as goal

pub overflow_sub-left : goal.overflow_sub-left
overflow_sub-left g c = deep c.args.left c.requires.room

pub braces-requires : goal.braces-requires
braces-requires g c = c.requires.ready.braces.callable (deep c.args.left c.requires.room) _ _

pub returns : goal.returns
returns g c = reads_as c.args.tokens.now c.braces.new.arg3 c.braces.result (braces_deeper c.args.left c.requires.room) (c.requires.ready.braces.reads _ _ _ _ c.braces.ensures)
