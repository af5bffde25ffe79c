use Rattle.cx_parser_decls.proofs.Depth.{member_room}
use Rattle.cx_parser_decls.proofs.classes.Classes.room.Goals as goal

pub returns : goal.returns
returns g c = member_room c.args.self.now.left
