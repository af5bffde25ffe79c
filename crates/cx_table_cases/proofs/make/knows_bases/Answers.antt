use Rattle.std.proofs.Common.{◌<◌, length}
use Rattle.cx_type_defs.specs.declared.ids.ClassId.{ClassId}
use Rattle.cx_table_cases.proofs.Lists.{AllAt-none, AllAt-more, AllAt-whole}
use Rattle.cx_table_cases.proofs.make.knows_bases.Goals as goal

pub loop-base-init : goal.loop-base-init
loop-base-init c = AllAt-none _

pub loop-base-preserved : goal.loop-base-preserved
loop-base-preserved c =
    AllAt-more (λ (b : ClassId). b.0 < length c.args.types.now.classes) c.args.bases.now c.loop-base.base-index (record { 0 = 0 }) c.loop-base-test.true (c.has_class.ensures.0 c.if-not-has_class.false) c.loop-base.invariant

pub returns : goal.returns
returns c = λ _. (AllAt-whole (λ (b : ClassId). b.0 < length c.args.types.now.classes) c.args.bases.now c.loop-base.base-index c.loop-base-test.false c.loop-base.invariant).at
