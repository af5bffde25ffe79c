use Rattle.cx_parser.proofs.Depth.{room_is}
use Rattle.cx_parser.proofs.grammar.Grammar.room.Goals as goal

pub returns : goal.returns
returns g c = room_is c.args.self.now.left
