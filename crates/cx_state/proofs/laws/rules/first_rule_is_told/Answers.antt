use Rattle.cx_state.proofs.Rules.{broken-first, first-broken, first-one}
use Rattle.cx_state.proofs.laws.rules.first_rule_is_told.Goals as goal

pub returns-clause-only_first : goal.returns-clause-only_first
returns-clause-only_first c = broken-first

pub returns-clause-first : goal.returns-clause-first
returns-clause-first c = first-broken

pub returns-clause-at_most_one : goal.returns-clause-at_most_one
returns-clause-at_most_one c = first-one
