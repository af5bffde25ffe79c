use Rattle.cx_parser_decls.proofs.Lengths.{short_decl}
use Rattle.cx_parser_decls.proofs.units.unit.Goals as goal

pub read_many-requires-clause-shortens : goal.read_many-requires-clause-shortens
read_many-requires-clause-shortens c = short_decl c.args.left
