use Rattle.std.proofs.Common.{take}
use Rattle.cx_types.specs.Parts.{PartsTold, part_of_field}
use Rattle.cx_types.proofs.tables.Types.field_measures.Given as goal

abbrev pub invariant-loop-field : goal.invariant-loop-field
invariant-loop-field l = PartsTold l.self part_of_field (take l.field-index l.fields) l.measures.items
