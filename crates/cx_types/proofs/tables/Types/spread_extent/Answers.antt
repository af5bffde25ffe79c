use Rattle.std.proofs.Common.{None, Some, sym, ap, ◌∙◌, arith}
use Rattle.cx_types.proofs.Extents.{leaf-stands, leaf-known, spread-known, spread-some, spread-fits}
use Rattle.cx_types.proofs.tables.Types.spread_extent.Goals as goal

pub leaf_extent-requires-clause-known : goal.leaf_extent-requires-clause-known
leaf_extent-requires-clause-known c = leaf-known c.args.self.now c.args.id c.args.kept c.requires

pub leaf_extent-requires-clause-leaf : goal.leaf_extent-requires-clause-leaf
leaf_extent-requires-clause-leaf c = leaf-stands c.args.self.now c.args.id c.args.kept c.requires

pub overflow_mul-result : goal.overflow_mul-result
overflow_mul-result c = omega (arith, spread-fits c.args.self.now c.args.id c.args.kept c.requires c.in-Some-Some.leaf c.from.result c.from.ensures (sym c.leaf_extent.ensures ∙ c.in-Some-Some.is ∙ ap Some c.in-Some-Some.field-0-is))

pub returns-in-None : goal.returns-in-None
returns-in-None c = sym (spread-known c.args.self.now c.args.id c.args.kept c.requires None (sym c.leaf_extent.ensures ∙ c.in-None.is))

pub returns-in-Some-None : goal.returns-in-Some-None
returns-in-Some-None c = sym (spread-known c.args.self.now c.args.id c.args.kept c.requires (Some None) (sym c.leaf_extent.ensures ∙ c.in-Some-None.is ∙ ap Some c.in-Some-None.field-0-is))

pub returns-in-Some-Some : goal.returns-in-Some-Some
returns-in-Some-Some c = spread-some c.args.self.now c.args.id c.args.kept c.requires c.in-Some-Some.leaf c.from.result c.from.ensures (sym c.leaf_extent.ensures ∙ c.in-Some-Some.is ∙ ap Some c.in-Some-Some.field-0-is)
