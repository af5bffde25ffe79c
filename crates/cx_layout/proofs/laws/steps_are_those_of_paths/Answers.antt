use Rattle.cx_layout.proofs.Onward.{same_places, same_steps, same_outer}
use Rattle.cx_layout.proofs.laws.steps_are_those_of_paths.Goals as goal

pub returns-clause-places : goal.returns-clause-places
returns-clause-places c t os f p sound s = same_places t sound os f p s

pub returns-clause-steps : goal.returns-clause-steps
returns-clause-steps c t os f at p u answer sound s tells one = same_steps t sound os f at p s tells u answer one

pub returns-clause-outer : goal.returns-clause-outer
returns-clause-outer c t os f at p k sound s tells = same_outer t sound os f at p s tells k
