use Rattle.std.proofs.Common.{◌<◌, take, length}
use Rattle.cx_type_defs.specs.declared.decl.Field.{Field}
use Rattle.cx_table_cases.proofs.Lists.{AllAt}
use Rattle.cx_table_cases.proofs.make.knows_fields.Given as goal

abbrev pub invariant-loop-field : goal.invariant-loop-field
invariant-loop-field l = AllAt (λ (f : Field). f.ty.0 < length l.types.rows) (take l.field-index l.fields)
