use Rattle.std.proofs.Common.{Ok, refl, sym, ap, ◌∙◌, [], false}
use Rattle.cx_type_defs.specs.declared.ids.Step.TheVariants as step
use Rattle.cx_state.specs.Conditions as on
use Rattle.cx_state.specs.Steps.{unless, deeper}
use Rattle.cx_records.specs.Records.{forms_in, path_in}
use Rattle.cx_records.proofs.Deeper.{step_part}
use Rattle.cx_records.proofs.store.Records.field_at.Goals as goal

pub part-requires-clause-there : goal.part-requires-clause-there
part-requires-clause-there c = step_part c.args.types.now c.args.self.now.records.items c.args.self.now.live c.args.at (step.Field c.args.index) on.Part [] c.requires.fits c.requires.known c.requires.there refl (sym c.part_rule.ensures ∙ c.in-None.is)

pub returns-in-Some-clause-gives : goal.returns-in-Some-clause-gives
returns-in-Some-clause-gives c = sym (ap (λ o. unless o (deeper (path_in (forms_in c.args.self.now.records.items) c.args.at) (step.Field c.args.index) false)) (sym c.part_rule.ensures ∙ c.in-Some.is))

pub returns-in-None-clause-gives : goal.returns-in-None-clause-gives
returns-in-None-clause-gives c = ap Ok c.part.ensures.gives ∙ sym (ap (λ o. unless o (deeper (path_in (forms_in c.args.self.now.records.items) c.args.at) (step.Field c.args.index) false)) (sym c.part_rule.ensures ∙ c.in-None.is))
