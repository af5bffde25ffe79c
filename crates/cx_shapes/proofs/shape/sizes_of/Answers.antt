use Rattle.std.proofs.Common.{arith, ◌∙◌}
use Rattle.cx_shapes.proofs.Ends.{as_many, all_sizes}
use Rattle.cx_shapes.proofs.shape.sizes_of.Goals as goal

pub before-requires : goal.before-requires
before-requires c = omega (arith, as_many c.args.shapes.now c.args.ends.now c.requires)

pub returns : goal.returns
returns c = c.before-2.ensures ∙ all_sizes c.args.shapes.now c.args.ends.now c.requires
