use Rattle.cx_unit.proofs.Verdicts.{of_stop, of_tree}
use Rattle.cx_unit.proofs.units.run_unit.Goals as goal

pub returns-in-Ok : goal.returns-in-Ok
returns-in-Ok c = of_tree c.args.limits c.args.tokens c.in-Ok.unit c.verdict_of.result c.in-Ok.ensures.tree c.verdict_of.ensures

pub returns-in-Err : goal.returns-in-Err
returns-in-Err c = of_stop c.args.limits c.args.tokens c.in-Err.answer c.stopped_by.result c.in-Err.ensures.fault c.stopped_by.ensures
