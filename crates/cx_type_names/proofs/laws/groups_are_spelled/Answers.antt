use Rattle.cx_type_names.proofs.Spelling.{group-passed, no-group-left, passed-group, passed-groups}
use Rattle.cx_type_names.proofs.laws.groups_are_spelled.Goals as goal

pub returns-clause-group : goal.returns-clause-group
returns-clause-group c = group-passed

pub returns-clause-only : goal.returns-clause-only
returns-clause-only c = passed-group

pub returns-clause-row : goal.returns-clause-row
returns-clause-row c = passed-groups

pub returns-clause-last : goal.returns-clause-last
returns-clause-last c = no-group-left
