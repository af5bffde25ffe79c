use Rattle.cx_parser_vars.proofs.Soups.{room_is}
use Rattle.cx_parser_vars.proofs.attributes.room.Goals as goal

pub returns : goal.returns
returns c = room_is c.args.left
