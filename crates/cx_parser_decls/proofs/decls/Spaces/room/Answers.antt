use Rattle.cx_parser_decls.proofs.Depth.{decl_room}
use Rattle.cx_parser_decls.proofs.decls.Spaces.room.Goals as goal

pub returns : goal.returns
returns g c = decl_room c.args.self.now.left
