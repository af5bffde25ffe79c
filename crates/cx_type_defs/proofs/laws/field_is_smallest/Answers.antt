use Rattle.cx_type_defs.proofs.Fields.{field_fits, field_least}
use Rattle.cx_type_defs.proofs.laws.field_is_smallest.Goals as goal

pub returns-clause-fits : goal.returns-clause-fits
returns-clause-fits c = field_fits

pub returns-clause-least : goal.returns-clause-least
returns-clause-least c = field_least
