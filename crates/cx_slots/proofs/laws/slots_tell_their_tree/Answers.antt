use Rattle.cx_slots.proofs.Lengths.{flat_length}
use Rattle.cx_slots.proofs.Reading.{read, stands}
use Rattle.cx_slots.proofs.laws.slots_tell_their_tree.Goals as goal

pub returns-clause-many : goal.returns-clause-many
returns-clause-many c = flat_length

pub returns-clause-told : goal.returns-clause-told
returns-clause-told c = read

pub returns-clause-stands : goal.returns-clause-stands
returns-clause-stands c = stands
