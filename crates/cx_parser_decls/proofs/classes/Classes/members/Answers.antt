use Rattle.cx_parser_decls.proofs.Lengths.{short_member}
use Rattle.cx_parser_decls.proofs.classes.Classes.members.Goals as goal

pub read_many-requires-clause-shortens : goal.read_many-requires-clause-shortens
read_many-requires-clause-shortens g c = short_member c.args.self.now.left
