use Rattle.cx_typed.proofs.Keeping.{never_stuck, judged_keeps}
use Rattle.cx_typed.proofs.laws.judgements_end.Goals as goal

pub returns-clause-never_stuck : goal.returns-clause-never_stuck
returns-clause-never_stuck c = never_stuck

pub returns-clause-kept : goal.returns-clause-kept
returns-clause-kept c = judged_keeps
