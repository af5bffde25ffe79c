use Rattle.cx_parser_vars.proofs.Depth.{room_is}
use Rattle.cx_parser_vars.proofs.below.room.Goals as goal

pub returns : goal.returns
returns c = room_is c.args.left
