use Rattle.std.proofs.Common.{◌≡◌, [], take}
use Rattle.std.specs.List.{flat_map}
use Rattle.cx_type_defs.specs.Levels.{most_steps}
use Rattle.cx_scopes.specs.Arguments.{type_spaces, with_spaces}
use Rattle.cx_scopes.proofs.scopes.Scopes.associated.Given as goal

abbrev pub invariant-loop-arg : goal.invariant-loop-arg
invariant-loop-arg l = l.spaces ≡ with_spaces [] (flat_map (type_spaces l.self l.types most_steps) (take l.arg-index l.args))
