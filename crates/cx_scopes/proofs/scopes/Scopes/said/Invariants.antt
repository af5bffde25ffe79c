use Rattle.std.proofs.Common.{◌≡◌, reverse}
use Rattle.cx_scopes.specs.Lookup.{said_from}
use Rattle.cx_scopes.proofs.scopes.Scopes.said.Given as goal

abbrev pub invariant-loop-entered : goal.invariant-loop-entered
invariant-loop-entered l = said_from l.self l.sought l.self.entered l.name ≡ said_from l.self l.sought (reverse l.entered-iterator.iter.rest.now) l.name
