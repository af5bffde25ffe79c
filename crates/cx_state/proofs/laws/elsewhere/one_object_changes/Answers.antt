use Rattle.cx_state.specs.Objects.{Object}
use Rattle.cx_state.proofs.Elsewhere.{release-one, release-leaves, release-over, one-changed, settle-leaves}
use Rattle.cx_state.proofs.laws.elsewhere.one_object_changes.Goals as goal

pub returns-clause-release : goal.returns-clause-release
returns-clause-release c = release-one

pub returns-clause-release_leaves : goal.returns-clause-release_leaves
returns-clause-release_leaves c = release-leaves

pub returns-clause-nothing_left : goal.returns-clause-nothing_left
returns-clause-nothing_left c = release-over

pub returns-clause-settle : goal.returns-clause-settle
returns-clause-settle c = λ os p b. one-changed (λ (o : Object). record o { birth = b }) os p.object

pub returns-clause-settle_leaves : goal.returns-clause-settle_leaves
returns-clause-settle_leaves c = settle-leaves
