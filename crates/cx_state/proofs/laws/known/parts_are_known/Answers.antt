use Rattle.cx_state.proofs.Known.{to_field-knows, to_base-knows, to_elem-knows}
use Rattle.cx_state.proofs.laws.known.parts_are_known.Goals as goal

pub returns-clause-field : goal.returns-clause-field
returns-clause-field c = to_field-knows

pub returns-clause-base : goal.returns-clause-base
returns-clause-base c = to_base-knows

pub returns-clause-elem : goal.returns-clause-elem
returns-clause-elem c = to_elem-knows
