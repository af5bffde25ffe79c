use Rattle.cx_records.proofs.Wholes.{live_cells_are}
use Rattle.cx_records.proofs.store.Records.cells_live.Goals as goal

pub returns : goal.returns
returns c = λ t f. live_cells_are t c.args.self.now.records.items c.args.self.now.live f
