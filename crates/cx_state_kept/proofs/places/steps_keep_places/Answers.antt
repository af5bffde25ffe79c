use Rattle.cx_state_kept.proofs.Keeping.{put_keeps, make_keeps, write_keeps, release_keeps, settle_keeps, cut_keeps}
use Rattle.cx_state_kept.proofs.places.steps_keep_places.Goals as goal

pub returns-clause-put : goal.returns-clause-put
returns-clause-put c = put_keeps

pub returns-clause-make : goal.returns-clause-make
returns-clause-make c = make_keeps

pub returns-clause-release : goal.returns-clause-release
returns-clause-release c = release_keeps

pub returns-clause-settle : goal.returns-clause-settle
returns-clause-settle c = settle_keeps

pub returns-clause-cut : goal.returns-clause-cut
returns-clause-cut c = cut_keeps

pub returns-clause-write : goal.returns-clause-write
returns-clause-write c = write_keeps
