use Rattle.cx_type_defs.specs.Slots.{slot_count}
use Rattle.cx_table_cases.proofs.Lists.{sum-whole}
use Rattle.cx_table_cases.proofs.make.has_slots.Goals as goal

pub returns : goal.returns
returns c = λ _. sum-whole (slot_count c.args.types.now) c.args.bases.now c.loop-base.base-index c.loop-base.left _ c.loop-base-test.false c.loop-base.invariant
