use Rattle.std.proofs.Common.{◌≡◌, ◌≤◌, length, drop}
use Rattle.cx_type_names.specs.Names.{type_names}
use Rattle.cx_type_names.specs.Walk.{known_of}
use Rattle.cx_type_names.proofs.places.type_names.Given as goal

abbrev pub invariant-places : goal.invariant-places
invariant-places l = (l.at ≤ length l.tokens) × (l.behind ≡ known_of (drop l.at l.tokens)) × (l.names ≡ type_names (drop l.at l.tokens))

abbrev pub decreases-places : goal.decreases-places
decreases-places l = l.at
