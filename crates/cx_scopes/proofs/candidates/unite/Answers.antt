use Rattle.std.proofs.Common.{◌∙◌}
use Rattle.cx_scopes.specs.declared.kinds.Entity.TheVariants as entity
use Rattle.cx_scopes.proofs.United.{united-next}
use Rattle.cx_scopes.proofs.candidates.unite.Goals as goal

pub loop-entity-preserved : goal.loop-entity-preserved
loop-entity-preserved c =
    c.in_ok-put_once.ensures.ok
    ∙ united-next c.args.found.now c.loop-entity.found c.as_slice-entity-items.result.now c.loop-entity.entity-index (entity.Function (record { 0 = 0 })) c.loop-entity-test.true c.loop-entity.invariant
