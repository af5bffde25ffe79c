use Rattle.cx_table_cases.proofs.Lists.{few}
use Rattle.cx_table_cases.proofs.make.has_room.Goals as goal

pub returns-clause-rows : goal.returns-clause-rows
returns-clause-rows c = λ _. few _ _ c.has_type.ensures c.if-has_type.false

pub returns-clause-classes : goal.returns-clause-classes
returns-clause-classes c = λ _. few _ _ c.has_class.ensures c.if-has_class.false

pub returns-clause-enums : goal.returns-clause-enums
returns-clause-enums c = λ _. few _ _ c.has_enum.ensures c.if-has_enum.false
