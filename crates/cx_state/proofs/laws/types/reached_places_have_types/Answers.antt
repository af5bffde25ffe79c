use Rattle.cx_state.proofs.Known.{to_field-row, to_base-row, to_elem-row}
use Rattle.cx_state.proofs.KnownTypes.{add-types, outer-class_at, dynamic_class-class_at}
use Rattle.cx_state.proofs.laws.types.reached_places_have_types.Goals as goal

pub returns-clause-field : goal.returns-clause-field
returns-clause-field c = to_field-row

pub returns-clause-base : goal.returns-clause-base
returns-clause-base c = to_base-row

pub returns-clause-elem : goal.returns-clause-elem
returns-clause-elem c = to_elem-row

pub returns-clause-add : goal.returns-clause-add
returns-clause-add c = add-types

pub returns-clause-outer : goal.returns-clause-outer
returns-clause-outer c = outer-class_at

pub returns-clause-dynamic : goal.returns-clause-dynamic
returns-clause-dynamic c = dynamic_class-class_at
