use Rattle.cx_state.proofs.Rules.{broken-none, none-broken}
use Rattle.cx_state.proofs.laws.rules.no_rule_is_told.Goals as goal

pub returns-clause-none_holds : goal.returns-clause-none_holds
returns-clause-none_holds c = broken-none

pub returns-clause-none_told : goal.returns-clause-none_told
returns-clause-none_told c = none-broken
