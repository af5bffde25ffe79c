use Rattle.cx_scopes.proofs.Growing.{grows-declared, grows-declared-in-space, grows-known-space, grows-left, grows-on, grows-same, grows-with}
use Rattle.cx_scopes.proofs.laws.declarations_stay.Goals as goal

pub returns : goal.returns
returns c = record { reflexive = grows-same; transitive = grows-on; declare = grows-declared; declare_in_space = grows-declared-in-space; enter = grows-with; enter_known_space = grows-known-space; leave = grows-left }
