use Rattle.std.proofs.Common.{List, [], ◌∷◌, ◌++◌, take, sym, ap, subst, ◌∙◌}
use Rattle.std.proofs.lemmas.List.{take_more}
use Rattle.cx_type_defs.specs.declared.decl.Field.{Field}
use Rattle.cx_types.specs.declared.facts.Measure.{Measure}
use Rattle.cx_types.specs.Parts.{PartsTold, part_of_field}
use Rattle.cx_types.proofs.Closing.{PartsTold-push}
use Rattle.cx_types.proofs.tables.Types.field_measures.Goals as goal

pub loop-field-preserved : goal.loop-field-preserved
loop-field-preserved c =
    let x = c.field-item.result in
    let more = take_more c.args.fields.now c.loop-field.field-index x c.loop-field-test.true ∙ ap (λ (f : Field). take c.loop-field.field-index c.args.fields.now ++ f ∷ []) (sym c.field-item.is) in
    subst (λ (l : List Field). PartsTold c.args.self.now part_of_field l c.push.new.self.items) (sym more)
    (subst (λ (l : List Measure). PartsTold c.args.self.now part_of_field (take c.loop-field.field-index c.args.fields.now ++ x ∷ []) l) (sym c.in-Ok.ensures.items)
    (PartsTold-push c.args.self.now part_of_field (take c.loop-field.field-index c.args.fields.now) c.loop-field.measures.items x c.in-Some.measure c.loop-field.invariant c.in-Some.ensures))
