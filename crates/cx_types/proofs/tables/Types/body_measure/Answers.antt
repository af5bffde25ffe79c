use Rattle.cx_types.proofs.Closing.{gathered-bases}
use Rattle.cx_types.proofs.tables.Types.body_measure.Goals as goal

pub returns-in-Err : goal.returns-in-Err
returns-in-Err c = gathered-bases c.args.self.now c.args.key c.args.body.now c.as_slice.result.now c.in-Err.answer c.as_slice.ensures c.in-Err.ensures
