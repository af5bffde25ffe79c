use Rattle.cx_state.proofs.Paths.{put-still, put-same}
use Rattle.cx_state.proofs.laws.paths.put_looks_at_its_path_alone.Goals as goal

pub returns-clause-still : goal.returns-clause-still
returns-clause-still c = put-still

pub returns-clause-same : goal.returns-clause-same
returns-clause-same c = put-same
