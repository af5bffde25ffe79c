use Rattle.cx_parser_vars.proofs.Short.{short_var}
use Rattle.cx_parser_vars.proofs.variables.vars.Goals as goal

pub read_more-requires-clause-shortens : goal.read_more-requires-clause-shortens
read_more-requires-clause-shortens c = short_var c.args.left
