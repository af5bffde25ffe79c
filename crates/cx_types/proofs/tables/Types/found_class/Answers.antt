use Rattle.cx_types.proofs.Rows.{class-found}
use Rattle.cx_types.proofs.tables.Types.found_class.Goals as goal

pub returns : goal.returns
returns c = class-found c.args.self.now c.args.id c.args.class c.measure_of.result c.found_void.result c.measure_of.ensures
