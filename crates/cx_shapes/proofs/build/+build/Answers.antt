use Rattle.std.proofs.Common.{◌≡◌, ◌+◌, ◌-◌, true, is_some, map, take, slice_get, ◌∙◌, sym, refl, subst, arith}
use Rattle.cx_type_defs.specs.Tables.{body_at}
use Rattle.cx_type_defs.specs.Questions.{kind_answer, looked, cells_of}
use Rattle.cx_type_defs.specs.declared.kind.TypeRow.{TypeRow}
use Rattle.cx_type_defs.proofs.Lists.{some_inj}
use Rattle.cx_shapes.specs.Kinds.{IsForm, AreForms, OfBody, base_kinds, field_kinds}
use Rattle.cx_shapes.specs.Forms.{form_of, forms_of, told}
use Rattle.cx_type_defs.specs.declared.kind.TypeKind.TheVariants as kind
use Rattle.cx_shapes.proofs.Views.{view_union}
use Rattle.cx_shapes.proofs.Building.{get_within, told_row, told_class, told_body, body_is_some, bases_push, fields_push, bases_told, fields_told, union_form}
use Rattle.cx_shapes.proofs.Ends.{listed_counted}
use Rattle.cx_shapes.proofs.build.+build.Goals as goal

pub body_shape-base_shapes-requires : goal.body_shape-base_shapes-requires
body_shape-base_shapes-requires t c = let b = told_body c.args.types.now c.args.levels c.args.class c.requires in (omega arith, (body_is_some c.args.types.now c.args.levels c.args.class b, b.bases))

pub body_shape-field_shapes-requires : goal.body_shape-field_shapes-requires
body_shape-field_shapes-requires t c = let b = told_body c.args.types.now c.args.levels c.args.class c.requires in (omega arith, (body_is_some c.args.types.now c.args.levels c.args.class b, b.fields))

pub body_shape-key-requires : goal.body_shape-key-requires
body_shape-key-requires t c = let b = told_body c.args.types.now c.args.levels c.args.class c.requires in get_within c.args.types.now.classes c.args.class.0 b.decl b.is_decl

pub class_shape-body_shape-requires : goal.class_shape-body_shape-requires
class_shape-body_shape-requires t c = (omega arith, told_class c.args.types.now c.args.levels c.args.class (omega arith) c.requires)

pub type_shape-row-requires : goal.type_shape-row-requires
type_shape-row-requires t c = let r = told_row c.args.types.now c.args.levels c.args.ty (omega arith) c.requires in get_within c.args.types.now.rows c.args.ty.0 r.0 r.1

pub type_shape-kind_shape-requires : goal.type_shape-kind_shape-requires
type_shape-kind_shape-requires t c = let r = told_row c.args.types.now c.args.levels c.args.ty (omega arith) c.requires in
    let e : r.0 ≡ c.row.result = some_inj r.0 c.row.result (sym r.1 ∙ c.row.ensures) in
    (omega arith, subst (λ (x : TypeRow). is_some (kind_answer cells_of c.args.types.now (looked cells_of c.args.types.now (c.args.levels - 1)) x.kind) ≡ true) e r.2)

pub base_shapes-loop-i-preserved : goal.base_shapes-loop-i-preserved
base_shapes-loop-i-preserved t c = record {
  listed = c.in_ok-add.ensures.listed;
  forms = subst (λ xs. OfBody (λ b. AreForms c.args.types.now (forms_of (map form_of xs)) (take (c.loop-i.i + 1) (base_kinds b))) (body_at c.args.types.now c.args.class)) (sym c.in_ok-add.ensures.ok)
      (bases_push c.args.types.now (body_at c.args.types.now c.args.class) c.loop-i.listed.shapes c.loop-i.i c.in_ok-shape.shape c.base_at.result c.loop-i.invariant.forms c.base_at.ensures c.in_ok-shape.ensures.form);
}

pub base_shapes-returns-clause-counted : goal.base_shapes-returns-clause-counted
base_shapes-returns-clause-counted t c = listed_counted c.loop-i.listed.shapes c.loop-i.listed.ends c.loop-i.listed.parts c.loop-i.invariant.listed

pub base_shapes-returns-clause-forms : goal.base_shapes-returns-clause-forms
base_shapes-returns-clause-forms t c = bases_told c.args.types.now (body_at c.args.types.now c.args.class) c.loop-i.listed.shapes c.loop-i.listed.ends c.loop-i.listed.parts c.bases-i-end.result c.loop-i.i c.loop-i.invariant.listed c.bases-i-end.ensures (omega arith) c.loop-i.invariant.forms

pub field_shapes-loop-i-preserved : goal.field_shapes-loop-i-preserved
field_shapes-loop-i-preserved t c = record {
  listed = c.in_ok-add.ensures.listed;
  forms = subst (λ xs. OfBody (λ b. AreForms c.args.types.now (forms_of (map form_of xs)) (take (c.loop-i.i + 1) (field_kinds c.args.types.now b))) (body_at c.args.types.now c.args.class)) (sym c.in_ok-add.ensures.ok)
      (fields_push c.args.types.now (body_at c.args.types.now c.args.class) c.loop-i.listed.shapes c.loop-i.i c.in_ok-shape.shape c.field_at.result c.loop-i.invariant.forms c.field_at.ensures c.in_ok-shape.ensures.form);
}

pub field_shapes-returns-clause-counted : goal.field_shapes-returns-clause-counted
field_shapes-returns-clause-counted t c = listed_counted c.loop-i.listed.shapes c.loop-i.listed.ends c.loop-i.listed.parts c.loop-i.invariant.listed

pub field_shapes-returns-clause-forms : goal.field_shapes-returns-clause-forms
field_shapes-returns-clause-forms t c = fields_told c.args.types.now (body_at c.args.types.now c.args.class) c.loop-i.listed.shapes c.loop-i.listed.ends c.loop-i.listed.parts c.fields-i-end.result c.loop-i.i c.loop-i.invariant.listed c.fields-i-end.ensures (omega arith) c.loop-i.invariant.forms

pub body_shape-returns-in-Union-clause-form : goal.body_shape-returns-in-Union-clause-form
body_shape-returns-in-Union-clause-form t c =
    let ms = c.in_ok-members.members in
    subst (λ f. IsForm c.args.types.now f (kind.Class c.args.class)) (sym (view_union ms.shapes ms.ends))
    (union_form c.args.types.now c.args.class (told ms.ends (map form_of ms.shapes)) c.key.result (slice_get c.args.types.now.classes c.args.class.0) refl c.in-Union.is c.key.ensures (c.sound.ensures.bodies_fit c.args.class) c.in_ok-members.ensures.forms)
