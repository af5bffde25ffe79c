use Rattle.cx_blocks.proofs.Describing.{described_known, described_form}
use Rattle.cx_blocks.proofs.make.describe.Goals as goal

pub returns-clause-known : goal.returns-clause-known
returns-clause-known c = described_known c.args.types.now c.args.ty c.args.count c.args.layouts.now c.add.new.self c.requires.described c.add.result c.add.ensures.number

pub returns-clause-form : goal.returns-clause-form
returns-clause-form c = described_form c.args.types.now c.args.ty c.args.count c.args.layouts.now c.add.new.self c.requires.described c.add.result c.add.ensures.number
