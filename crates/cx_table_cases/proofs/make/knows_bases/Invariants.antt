use Rattle.std.proofs.Common.{◌<◌, take, length}
use Rattle.cx_type_defs.specs.declared.ids.ClassId.{ClassId}
use Rattle.cx_table_cases.proofs.Lists.{AllAt}
use Rattle.cx_table_cases.proofs.make.knows_bases.Given as goal

abbrev pub invariant-loop-base : goal.invariant-loop-base
invariant-loop-base l = AllAt (λ (c : ClassId). c.0 < length l.types.classes) (take l.base-index l.bases)
