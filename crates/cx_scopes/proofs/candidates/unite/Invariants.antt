use Rattle.std.proofs.Common.{◌≡◌, take}
use Rattle.cx_scopes.specs.Candidates.{united}
use Rattle.cx_scopes.proofs.candidates.unite.Given as goal

abbrev pub invariant-loop-entity : goal.invariant-loop-entity
invariant-loop-entity l = l.found ≡ united l.initial.found (take l.entity-index l.entity-items)
