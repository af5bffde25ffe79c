use Rattle.std.proofs.Common.{◌≡◌, ◌-◌, Some, take}
use Rattle.cx_scopes.specs.Lookup.{said_together, members}
use Rattle.cx_scopes.proofs.scopes.Scopes.+members.Given as goal

abbrev pub decreases-members : goal.decreases-members
decreases-members l = l.levels

abbrev pub invariant-loop-base : goal.invariant-loop-base
invariant-loop-base l = said_together (λ b. members l.self l.sought (l.levels - 1) b l.name) (take l.base-index l.base-items) ≡ Some l.sum
