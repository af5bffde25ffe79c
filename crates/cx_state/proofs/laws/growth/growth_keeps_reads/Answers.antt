use Rattle.std.proofs.Common.{false}
use Rattle.cx_type_defs.specs.declared.ids.Step.TheVariants as step
use Rattle.cx_state.specs.Objects.{at}
use Rattle.cx_state.specs.Places.{row_of}
use Rattle.cx_state.specs.Conditions as on
use Rattle.cx_state.specs.Steps.{deeper, scalar_of, member_of}
use Rattle.cx_state.proofs.Complete.{is_some-true}
use Rattle.cx_state.proofs.Answering.{is-known, rule-stays, elem-stays, outer-stays, dynamic-stays}
use Rattle.cx_state.proofs.laws.growth.growth_keeps_reads.Goals as goal

pub returns-clause-field : goal.returns-clause-field
returns-clause-field c t u g os h p e i = rule-stays t u g os h p e on.Part (deeper p (step.Field i) false)

pub returns-clause-base : goal.returns-clause-base
returns-clause-base c t u g os h p e i = rule-stays t u g os h p e on.Part (deeper p (step.Base i) false)

pub returns-clause-elem : goal.returns-clause-elem
returns-clause-elem c t u g os h p e i = let r = is_some-true (row_of t os p) e in elem-stays t u g os p (is-known t u g os p e) h r.0 i r.1

pub returns-clause-outer : goal.returns-clause-outer
returns-clause-outer c t u g os h p e d = outer-stays t u g os p (is-known t u g os p e) h d

pub returns-clause-dynamic : goal.returns-clause-dynamic
returns-clause-dynamic c t u g os h p e = dynamic-stays t u g os p (is-known t u g os p e) h

pub returns-clause-load : goal.returns-clause-load
returns-clause-load c t u g os h p e = rule-stays t u g os h p e on.Load (scalar_of (at os p))

pub returns-clause-active : goal.returns-clause-active
returns-clause-active c t u g os h p e = rule-stays t u g os h p e on.Which (member_of (at os p))

pub returns-clause-call : goal.returns-clause-call
returns-clause-call c t u g os h p e = rule-stays t u g os h p e on.Call tt
