use Rattle.cx_scopes.proofs.Finding.{found-at-once, found-declared}
use Rattle.cx_scopes.proofs.laws.declared_names_are_found.Goals as goal

pub returns : goal.returns
returns c = record { among = found-declared; found = found-at-once }
