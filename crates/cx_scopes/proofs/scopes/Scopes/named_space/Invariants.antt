use Rattle.std.proofs.Common.{◌≡◌, drop}
use Rattle.cx_scopes.specs.Arguments.{named_space}
use Rattle.cx_scopes.proofs.scopes.Scopes.named_space.Given as goal

abbrev pub invariant-loop-i : goal.invariant-loop-i
invariant-loop-i l = named_space l.place l.types l.self-inside.types.entries ≡ named_space l.place l.types (drop l.i l.self-inside.types.entries)
