use Rattle.std.proofs.Common.{◌≡◌, ◌-◌, take}
use Rattle.std.specs.List.{flat_map}
use Rattle.cx_scopes.specs.Arguments.{with_spaces, class_spaces}
use Rattle.cx_scopes.proofs.scopes.Scopes.+add_class.Given as goal

abbrev pub decreases-add_class : goal.decreases-add_class
decreases-add_class l = l.levels

abbrev pub invariant-loop-base : goal.invariant-loop-base
invariant-loop-base l = l.spaces ≡ with_spaces l.initial.spaces (flat_map (class_spaces l.self l.types (l.levels - 1)) (take l.base-index l.base-items))
