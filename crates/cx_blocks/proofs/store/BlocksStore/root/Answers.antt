use Rattle.cx_blocks.proofs.Objects.{tells}
use Rattle.cx_blocks.proofs.store.BlocksStore.root.Goals as goal

pub returns : goal.returns
returns c = record { root = tells c.args.self.now.layouts c.args.self.now.blocks.items c.args.at c.block-block.result.now c.block-block.ensures }
