use Rattle.std.proofs.Common.{◌≡◌, ◌++◌, filter, take}
use Rattle.cx_scopes.specs.Names.{is_function}
use Rattle.cx_scopes.proofs.scopes.Scopes.add_functions.Given as goal

abbrev pub invariant-loop-entity : goal.invariant-loop-entity
invariant-loop-entity l = l.found ≡ l.initial.found ++ filter is_function (take l.entity-index l.entity-items)
