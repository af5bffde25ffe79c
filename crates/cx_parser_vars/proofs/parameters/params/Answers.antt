use Rattle.cx_parser_vars.proofs.Short.{short_param}
use Rattle.cx_parser_vars.proofs.parameters.params.Goals as goal

pub read_more-requires-clause-shortens : goal.read_more-requires-clause-shortens
read_more-requires-clause-shortens c = short_param c.args.left
