use Rattle.std.proofs.Common.{◌∙◌, []}
use Rattle.cx_type_defs.specs.Levels.{most_steps}
use Rattle.cx_scopes.specs.Arguments.{type_spaces}
use Rattle.cx_scopes.proofs.Associated.{spaces-next}
use Rattle.cx_scopes.proofs.scopes.Scopes.associated.Goals as goal

pub loop-arg-preserved : goal.loop-arg-preserved
loop-arg-preserved c =
    (rw c.most_steps.ensures at c.in_ok-add_type.ensures.ok)
    ∙ spaces-next (type_spaces c.args.self.now c.args.types.now most_steps) [] c.loop-arg.spaces c.args.args.now c.loop-arg.arg-index (record { 0 = 0 }) c.loop-arg-test.true c.loop-arg.invariant
