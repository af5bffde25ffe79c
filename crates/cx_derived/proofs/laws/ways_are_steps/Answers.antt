use Rattle.cx_derived.proofs.Leading.{none-lead, one-leads}
use Rattle.cx_derived.proofs.laws.ways_are_steps.Goals as goal

pub returns-clause-none : goal.returns-clause-none
returns-clause-none c = none-lead

pub returns-clause-one : goal.returns-clause-one
returns-clause-one c = one-leads
