use Rattle.std.proofs.Common.{◌<◌, length, subst}
use Rattle.cx_type_defs.specs.declared.decl.Field.{Field}
use Rattle.cx_table_cases.proofs.Lists.{AllAt-none, AllAt-more, AllAt-whole}
use Rattle.cx_table_cases.proofs.make.knows_fields.Goals as goal

pub loop-field-init : goal.loop-field-init
loop-field-init c = AllAt-none _

pub loop-field-preserved : goal.loop-field-preserved
loop-field-preserved c = AllAt-more (λ (f : Field). f.ty.0 < length c.args.types.now.rows) c.args.fields.now c.loop-field.field-index c.field-item.result c.loop-field-test.true (subst (λ (f : Field). f.ty.0 < length c.args.types.now.rows) c.field-item.is (c.has_type.ensures.0 c.if-not-has_type.false)) c.loop-field.invariant

pub returns : goal.returns
returns c = λ _. (AllAt-whole (λ (f : Field). f.ty.0 < length c.args.types.now.rows) c.args.fields.now c.loop-field.field-index c.loop-field-test.false c.loop-field.invariant).at
