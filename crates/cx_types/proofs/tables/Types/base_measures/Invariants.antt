use Rattle.std.proofs.Common.{take}
use Rattle.cx_type_defs.specs.Questions.{OfClass}
use Rattle.cx_types.specs.Parts.{PartsTold}
use Rattle.cx_types.proofs.tables.Types.base_measures.Given as goal

abbrev pub invariant-loop-base : goal.invariant-loop-base
invariant-loop-base l = PartsTold l.self OfClass (take l.base-index l.bases) l.measures.items
