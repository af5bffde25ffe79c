use Rattle.std.proofs.Common.{◌≡◌, map, take, sum}
use Rattle.cx_type_defs.specs.Slots.{slot_count}
use Rattle.cx_types.proofs.tables.Types.slots_together.Given as goal

abbrev pub invariant-loop-base : goal.invariant-loop-base
invariant-loop-base l = l.total ≡ sum (map (slot_count l.self) (take l.base-index l.bases))
