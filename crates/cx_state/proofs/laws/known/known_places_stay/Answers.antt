use Rattle.cx_state.proofs.Known.{put-knows, write-knows, release-knows, settle-knows, make-knows, cut-knows}
use Rattle.cx_state.proofs.laws.known.known_places_stay.Goals as goal

pub returns-clause-write : goal.returns-clause-write
returns-clause-write c = write-knows

pub returns-clause-put : goal.returns-clause-put
returns-clause-put c = put-knows

pub returns-clause-release : goal.returns-clause-release
returns-clause-release c = release-knows

pub returns-clause-settle : goal.returns-clause-settle
returns-clause-settle c = settle-knows

pub returns-clause-make : goal.returns-clause-make
returns-clause-make c = make-knows

pub returns-clause-cut : goal.returns-clause-cut
returns-clause-cut c = cut-knows
