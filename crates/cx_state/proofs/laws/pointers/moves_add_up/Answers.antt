use Rattle.cx_state.proofs.PointerLaws.{add-nothing, add-twice, add-same_array, add-distance}
use Rattle.cx_state.proofs.laws.pointers.moves_add_up.Goals as goal

pub returns-clause-nothing : goal.returns-clause-nothing
returns-clause-nothing c = add-nothing

pub returns-clause-twice : goal.returns-clause-twice
returns-clause-twice c = add-twice

pub returns-clause-array : goal.returns-clause-array
returns-clause-array c = add-same_array

pub returns-clause-back : goal.returns-clause-back
returns-clause-back c = add-distance
