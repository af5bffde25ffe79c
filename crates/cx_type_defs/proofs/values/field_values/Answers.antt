use Rattle.std.specs.Int.{w128}
use Rattle.std.proofs.Common.{arith}
use Rattle.std.proofs.lemmas.Int.{to_z-of_z}
use Rattle.cx_type_defs.proofs.Fields.{values_found, values_later, values_last}
use Rattle.cx_type_defs.proofs.values.field_values.Goals as goal

pub returns-then-holds : goal.returns-then-holds
returns-then-holds c =
    values_found _ _ _ _ (to_z-of_z w128 c.args.low c.ranges.low) (to_z-of_z w128 c.args.high c.ranges.high) _ c.loop-bits.bits _ c.loop-bits.invariant c.loop-bits-test.true
    c.field_of_bits-values.ensures
    c.holds.ensures
    c.if-holds.true

pub loop-bits-preserved : goal.loop-bits-preserved
loop-bits-preserved c =
    values_later _ _ _ _ (to_z-of_z w128 c.args.low c.ranges.low) (to_z-of_z w128 c.args.high c.ranges.high) _ c.loop-bits.bits _ c.loop-bits.invariant c.field_of_bits-values.ensures
    c.holds.ensures
    c.if-holds.false

pub returns : goal.returns
returns c =
    values_last _ _ _ _ (to_z-of_z w128 c.args.low c.ranges.low) (to_z-of_z w128 c.args.high c.ranges.high) _ c.loop-bits.bits c.loop-bits.invariant (omega arith) c.field_of_bits.ensures
