use Rattle.cx_blocks.proofs.Making.{complete_known}
use Rattle.cx_blocks.proofs.make.cells_of.Goals as goal

pub cells-requires : goal.cells-requires
cells-requires c = complete_known c.args.types.now c.args.ty c.requires.complete
