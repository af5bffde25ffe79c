use Rattle.std.proofs.Common.{Ok, sym, ap, ◌∙◌}
use Rattle.cx_type_defs.specs.declared.ids.Step.TheVariants as step
use Rattle.cx_state.specs.Steps.{unless, deeper, ends_at}
use Rattle.cx_state.specs.Places.{row_of}
use Rattle.cx_shapes.specs.Forms.{form_of}
use Rattle.cx_records.specs.Records.{objects_of, forms_in, path_in}
use Rattle.cx_records.proofs.Elements.{elem_part, last_path, last_known, inner_end}
use Rattle.cx_records.proofs.store.Records.elem_at.Goals as goal

pub part-requires-clause-there : goal.part-requires-clause-there
part-requires-clause-there c = elem_part c.args.types.now c.args.self.now.records.items c.args.self.now.live c.args.at c.args.index (form_of c.found.result.shape.now) c.found.result.there c.found.result.dead c.requires.fits c.requires.known c.requires.there (sym c.part_rule.ensures ∙ c.in-None.is) c.found.ensures (λ e. c.if-elements-index.false (c.elements.ensures ∙ e))

pub returns-in-Some-clause-gives : goal.returns-in-Some-clause-gives
returns-in-Some-clause-gives c =
    let q = path_in (forms_in c.args.self.now.records.items) c.args.at in
    sym (ap (λ o. unless o (deeper q (step.Elem c.args.index) (ends_at c.args.index (row_of c.args.types.now (objects_of c.args.self.now.records.items) q)))) (sym c.part_rule.ensures ∙ c.in-Some.is))

pub returns-then-elements-index-clause-gives : goal.returns-then-elements-index-clause-gives
returns-then-elements-index-clause-gives c =
    last_path c.args.types.now c.args.self.now.records.items c.args.self.now.live c.args.at c.args.index (form_of c.found.result.shape.now) c.found.result.there c.found.result.dead c.requires.fits c.requires.known c.requires.there (sym c.part_rule.ensures ∙ c.in-None.is) c.found.ensures (sym c.elements.ensures ∙ c.if-elements-index.true)

pub returns-then-elements-index-clause-known : goal.returns-then-elements-index-clause-known
returns-then-elements-index-clause-known c =
    last_known c.args.types.now c.args.self.now.records.items c.args.self.now.live c.args.at c.args.index (form_of c.found.result.shape.now) c.found.result.there c.found.result.dead c.requires.fits c.requires.known c.requires.there (sym c.part_rule.ensures ∙ c.in-None.is) c.found.ensures (sym c.elements.ensures ∙ c.if-elements-index.true)

pub returns-else-elements-index-clause-gives : goal.returns-else-elements-index-clause-gives
returns-else-elements-index-clause-gives c =
    let q = path_in (forms_in c.args.self.now.records.items) c.args.at in
    ap Ok (c.part.ensures.gives ∙ ap (deeper q (step.Elem c.args.index)) (sym (inner_end c.args.types.now c.args.self.now.records.items c.args.self.now.live c.args.at c.args.index (form_of c.found.result.shape.now) c.found.result.there c.found.result.dead c.requires.fits c.requires.known c.requires.there (sym c.part_rule.ensures ∙ c.in-None.is) c.found.ensures (λ e. c.if-elements-index.false (c.elements.ensures ∙ e)))))
    ∙ sym (ap (λ o. unless o (deeper q (step.Elem c.args.index) (ends_at c.args.index (row_of c.args.types.now (objects_of c.args.self.now.records.items) q)))) (sym c.part_rule.ensures ∙ c.in-None.is))
