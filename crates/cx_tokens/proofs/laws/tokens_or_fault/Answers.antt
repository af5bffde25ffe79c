use Rattle.cx_tokens.proofs.Cuts.{either_told, never_both, one_fault, one_list}
use Rattle.cx_tokens.proofs.EachKind.{end_once, in_range}
use Rattle.cx_tokens.proofs.laws.tokens_or_fault.Goals as goal

pub returns-clause-either : goal.returns-clause-either
returns-clause-either c = either_told

pub returns-clause-never_both : goal.returns-clause-never_both
returns-clause-never_both c = never_both

pub returns-clause-one_list : goal.returns-clause-one_list
returns-clause-one_list c = one_list

pub returns-clause-one_fault : goal.returns-clause-one_fault
returns-clause-one_fault c = one_fault

pub returns-clause-in_range : goal.returns-clause-in_range
returns-clause-in_range c = in_range

pub returns-clause-end_once : goal.returns-clause-end_once
returns-clause-end_once c = end_once
