use Rattle.cx_parser_vars.proofs.Depth.{deep, assign_deeper, reads_as}
use Rattle.cx_parser_vars.proofs.below.assign_below.Goals as goal

pub overflow_sub-left : goal.overflow_sub-left
overflow_sub-left c = deep c.args.left c.requires

pub returns : goal.returns
returns c = reads_as c.assign.new.tokens c.assign.result (assign_deeper c.args.left c.args.tokens.now c.requires) c.assign.ensures.reads
