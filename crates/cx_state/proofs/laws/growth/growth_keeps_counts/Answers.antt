use Rattle.cx_state.proofs.Counting.{live-stay, make-stays}
use Rattle.cx_state.proofs.laws.growth.growth_keeps_counts.Goals as goal

pub returns-clause-live : goal.returns-clause-live
returns-clause-live c = live-stay

pub returns-clause-make : goal.returns-clause-make
returns-clause-make c t u g limits os h q e = make-stays t u g limits os q h e
