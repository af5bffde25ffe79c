use Rattle.std.proofs.Common.{◌≡◌, ◌+◌, map, take, sum}
use Rattle.cx_type_defs.specs.Slots.{slot_count}
use Rattle.cx_table_cases.proofs.make.has_slots.Given as goal

abbrev pub invariant-loop-base : goal.invariant-loop-base
invariant-loop-base l = l.left + sum (map (slot_count l.types) (take l.base-index l.bases)) ≡ l.slots
