use Rattle.cx_state_kept.proofs.Holding.{held_path, held_scalar, held_paths, held_scalars}
use Rattle.cx_state_kept.proofs.held.held_places_keep_their_paths.Goals as goal

pub returns-clause-place : goal.returns-clause-place
returns-clause-place g c = held_path

pub returns-clause-scalar : goal.returns-clause-scalar
returns-clause-scalar g c = held_scalar

pub returns-clause-places : goal.returns-clause-places
returns-clause-places g c = held_paths

pub returns-clause-scalars : goal.returns-clause-scalars
returns-clause-scalars g c = held_scalars
