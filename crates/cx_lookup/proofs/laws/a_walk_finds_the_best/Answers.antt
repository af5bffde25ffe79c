use Rattle.cx_lookup.proofs.Best.{walk}
use Rattle.cx_lookup.proofs.laws.a_walk_finds_the_best.Goals as goal

pub returns : goal.returns
returns c = walk
