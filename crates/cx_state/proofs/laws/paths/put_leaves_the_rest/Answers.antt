use Rattle.cx_state.proofs.Paths.{at-put_aside, put-others}
use Rattle.cx_state.proofs.laws.paths.put_leaves_the_rest.Goals as goal

pub returns-clause-aside : goal.returns-clause-aside
returns-clause-aside c = at-put_aside

pub returns-clause-other_objects : goal.returns-clause-other_objects
returns-clause-other_objects c = put-others
