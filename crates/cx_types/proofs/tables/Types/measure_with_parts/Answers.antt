use Rattle.std.proofs.Common.{inr}
use Rattle.cx_type_defs.specs.Questions.{OfClass}
use Rattle.cx_types.specs.Parts.{part_of_field}
use Rattle.cx_types.proofs.Closing.{parts-good, refusal-large, refusal-none, body-told}
use Rattle.cx_types.proofs.tables.Types.measure_with_parts.Goals as goal

pub measured-requires-clause-good_bases : goal.measured-requires-clause-good_bases
measured-requires-clause-good_bases c = parts-good c.args.self.now OfClass c.args.body.now.bases c.args.bases.now c.requires.bases

pub measured-requires-clause-good_fields : goal.measured-requires-clause-good_fields
measured-requires-clause-good_fields c = parts-good c.args.self.now part_of_field c.args.body.now.fields c.args.fields.now c.requires.fields

pub returns-in-None : goal.returns-in-None
returns-in-None c = inr (refusal-large c.args.self.now c.args.key c.args.body.now c.args.bases.now c.args.fields.now c.requires.bases c.requires.fields c.in-None.ensures)

pub returns-in-Some : goal.returns-in-Some
returns-in-Some c = (
  body-told c.args.self.now c.args.key c.args.body.now c.args.bases.now c.args.fields.now c.requires.bases c.requires.fields c.in-Some.measure c.in-Some.ensures.0,
  refusal-none c.args.self.now c.args.key c.args.body.now c.args.bases.now c.args.fields.now c.requires.bases c.requires.fields c.in-Some.ensures.1,
)
