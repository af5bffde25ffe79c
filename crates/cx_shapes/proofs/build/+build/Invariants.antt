use Rattle.std.proofs.Common.{◌+◌, ◌*◌, map, take}
use Rattle.cx_type_defs.specs.Tables.{body_at}
use Rattle.cx_shapes.specs.Forms.{form_of, forms_of, AreListed}
use Rattle.cx_shapes.specs.Kinds.{AreForms, OfBody, base_kinds, field_kinds}
use Rattle.cx_shapes.proofs.build.+build.Given as goal

abbrev pub decreases-type_shape : goal.decreases-type_shape
decreases-type_shape l = 4 * l.levels

abbrev pub decreases-class_shape : goal.decreases-class_shape
decreases-class_shape l = 4 * l.levels

abbrev pub decreases-kind_shape : goal.decreases-kind_shape
decreases-kind_shape l = 4 * l.levels + 3

abbrev pub decreases-body_shape : goal.decreases-body_shape
decreases-body_shape l = 4 * l.levels + 2

abbrev pub decreases-base_shapes : goal.decreases-base_shapes
decreases-base_shapes l = 4 * l.levels + 1

abbrev pub decreases-field_shapes : goal.decreases-field_shapes
decreases-field_shapes l = 4 * l.levels + 1

abbrev pub invariant-base_shapes-loop-i : goal.invariant-base_shapes-loop-i
invariant-base_shapes-loop-i l = record {
  listed : AreListed l.listed.shapes l.listed.ends l.listed.parts;
  forms : OfBody (λ b. AreForms l.types (forms_of (map form_of l.listed.shapes)) (take l.i (base_kinds b))) (body_at l.types l.class);
}

abbrev pub invariant-field_shapes-loop-i : goal.invariant-field_shapes-loop-i
invariant-field_shapes-loop-i l = record {
  listed : AreListed l.listed.shapes l.listed.ends l.listed.parts;
  forms : OfBody (λ b. AreForms l.types (forms_of (map form_of l.listed.shapes)) (take l.i (field_kinds l.types b))) (body_at l.types l.class);
}
