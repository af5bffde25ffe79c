use Rattle.cx_parser_vars.proofs.Short.{short_other_enumr}
use Rattle.cx_parser_vars.proofs.enums.maybe_enumrs.Goals as goal

pub read_others-requires-clause-shortens : goal.read_others-requires-clause-shortens
read_others-requires-clause-shortens c = short_other_enumr c.args.left
