use Rattle.cx_slot_places.proofs.Standing.{field_row_is}
use Rattle.cx_slot_places.proofs.seal.part_row.Goals as goal

pub returns-in-Class-Field : goal.returns-in-Class-Field
returns-in-Class-Field c = field_row_is c.args.types.now c.args.row c.row.result c.args.step c.in-Class-Field.class c.in-Class-Field.index c.field_at.result c.in-Class-Field.is-0 c.in-Class-Field.is-1 c.field_at.ensures c.row.ensures
