use Rattle.cx_parser_stmts.proofs.Depth.{room_is}
use Rattle.cx_parser_stmts.proofs.statements.Statements.room.Goals as goal

pub returns : goal.returns
returns g c = room_is c.args.self.now.left
