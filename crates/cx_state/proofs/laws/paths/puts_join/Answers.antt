use Rattle.cx_state.proofs.Paths.{put-twice, put-swap}
use Rattle.cx_state.proofs.laws.paths.puts_join.Goals as goal

pub returns-clause-twice : goal.returns-clause-twice
returns-clause-twice c = put-twice

pub returns-clause-either_first : goal.returns-clause-either_first
returns-clause-either_first c = put-swap
