use Rattle.cx_state_kept.proofs.Keeping.{unchanged, then_keeps}
use Rattle.cx_state_kept.proofs.places.keeping_goes_on.Goals as goal

pub returns-clause-nothing : goal.returns-clause-nothing
returns-clause-nothing c = unchanged

pub returns-clause-further : goal.returns-clause-further
returns-clause-further c = then_keeps
