use Rattle.cx_parser_decls.proofs.Lengths.{short_name}
use Rattle.cx_parser_decls.proofs.decls.space_names.Goals as goal

pub read_more-requires-clause-shortens : goal.read_more-requires-clause-shortens
read_more-requires-clause-shortens c = short_name
