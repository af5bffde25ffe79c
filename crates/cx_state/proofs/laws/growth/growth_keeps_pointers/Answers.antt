use Rattle.cx_state.proofs.Answering.{is-known, add-stays, less-stays, equal-stays}
use Rattle.cx_state.proofs.laws.growth.growth_keeps_pointers.Goals as goal

pub returns-clause-add : goal.returns-clause-add
returns-clause-add c t u g os p e by = add-stays t u g os p (is-known t u g os p e) by

pub returns-clause-less : goal.returns-clause-less
returns-clause-less c t u g os p q e = less-stays t u g os p (is-known t u g os p e) q

pub returns-clause-equal : goal.returns-clause-equal
returns-clause-equal c t u g os p q e = equal-stays t u g os p (is-known t u g os p e) q
