use Rattle.cx_type_defs.proofs.Looking.{row-grows, under_at-grows}
use Rattle.cx_type_defs.proofs.Growing.{key-stays, body-stays, base-stays, field-stays, overrider-stays, base_slot-stays, values-stay, complete-stays, pure-stays}
use Rattle.cx_type_defs.proofs.laws.knowledge_stays.Goals as goal

pub returns-clause-row : goal.returns-clause-row
returns-clause-row c = row-grows

pub returns-clause-key : goal.returns-clause-key
returns-clause-key c = key-stays

pub returns-clause-body : goal.returns-clause-body
returns-clause-body c = body-stays

pub returns-clause-base : goal.returns-clause-base
returns-clause-base c = base-stays

pub returns-clause-field : goal.returns-clause-field
returns-clause-field c = field-stays

pub returns-clause-overrider : goal.returns-clause-overrider
returns-clause-overrider c = overrider-stays

pub returns-clause-base_slot : goal.returns-clause-base_slot
returns-clause-base_slot c = base_slot-stays

pub returns-clause-under : goal.returns-clause-under
returns-clause-under c = under_at-grows

pub returns-clause-values : goal.returns-clause-values
returns-clause-values c = values-stay

pub returns-clause-complete : goal.returns-clause-complete
returns-clause-complete c = complete-stays

pub returns-clause-declared : goal.returns-clause-declared
returns-clause-declared c = pure-stays
