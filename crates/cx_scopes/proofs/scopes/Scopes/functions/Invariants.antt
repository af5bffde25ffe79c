use Rattle.std.proofs.Common.{◌≡◌, take}
use Rattle.std.specs.List.{flat_map}
use Rattle.cx_scopes.specs.Arguments.{functions_in}
use Rattle.cx_scopes.proofs.scopes.Scopes.functions.Given as goal

abbrev pub invariant-loop-i : goal.invariant-loop-i
invariant-loop-i l = l.found ≡ flat_map (functions_in l.self l.name) (take l.i l.spaces)
