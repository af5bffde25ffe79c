use Rattle.cx_parser_decls.proofs.Lengths.{short_base}
use Rattle.cx_parser_decls.proofs.bases.maybe_bases.Goals as goal

pub read_more-requires-clause-shortens : goal.read_more-requires-clause-shortens
read_more-requires-clause-shortens c = short_base c.args.left
