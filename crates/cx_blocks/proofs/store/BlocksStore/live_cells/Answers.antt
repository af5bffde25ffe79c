use Rattle.cx_blocks.proofs.Wholes.{live_cells_are}
use Rattle.cx_blocks.proofs.store.BlocksStore.live_cells.Goals as goal

pub returns : goal.returns
returns c = record { cells = λ t f. live_cells_are t c.args.self.now.layouts c.args.self.now.blocks.items c.args.self.now.live f }
