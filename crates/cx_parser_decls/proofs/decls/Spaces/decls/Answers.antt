use Rattle.cx_parser_decls.proofs.Lengths.{short_deeper_decl}
use Rattle.cx_parser_decls.proofs.decls.Spaces.decls.Goals as goal

pub read_many-requires-clause-shortens : goal.read_many-requires-clause-shortens
read_many-requires-clause-shortens g c = short_deeper_decl c.args.self.now.left
