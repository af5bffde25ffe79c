use Rattle.cx_records.proofs.Making.{complete_told}
use Rattle.cx_records.proofs.make.whole_shape.Goals as goal

pub type_shape-requires : goal.type_shape-requires
type_shape-requires c = complete_told c.args.types.now c.args.ty c.requires
