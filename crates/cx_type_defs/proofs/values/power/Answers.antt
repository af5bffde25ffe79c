use Rattle.std.specs.Int.{w128}
use Rattle.std.proofs.Common.{◌∙◌}
use Rattle.std.proofs.lemmas.Int.{to_z-of_z}
use Rattle.cx_type_defs.proofs.Fields.{power_fits, power_small}
use Rattle.cx_type_defs.proofs.values.power.Goals as goal

pub pow-requires : goal.pow-requires
pow-requires c = power_fits c.args.bits c.requires

pub returns-clause-bounded : goal.returns-clause-bounded
returns-clause-bounded c = power_small c.args.bits _ c.requires (to_z-of_z w128 c.pow.result (record { sfits = c.pow.type_inv }) ∙ c.pow.ensures)
