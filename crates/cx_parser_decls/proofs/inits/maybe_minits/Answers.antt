use Rattle.cx_parser_decls.proofs.Lengths.{short_minit}
use Rattle.cx_parser_decls.proofs.inits.maybe_minits.Goals as goal

pub read_more-requires-clause-shortens : goal.read_more-requires-clause-shortens
read_more-requires-clause-shortens c = short_minit c.args.left
