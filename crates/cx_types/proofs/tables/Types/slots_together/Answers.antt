use Rattle.std.proofs.Common.{arith}
use Rattle.cx_type_defs.specs.Slots.{slot_count}
use Rattle.cx_types.proofs.Slots.{sum-more}
use Rattle.cx_types.proofs.tables.Types.slots_together.Goals as goal

pub overflow_cast-total : goal.overflow_cast-total
overflow_cast-total c = omega (arith, sum-more (slot_count c.args.self.now) c.args.bases.now c.loop-base.base-index (record { 0 = 0 }) c.loop-base-test.true)

pub overflow_add-total : goal.overflow_add-total
overflow_add-total c = omega (arith, sum-more (slot_count c.args.self.now) c.args.bases.now c.loop-base.base-index (record { 0 = 0 }) c.loop-base-test.true)
