use Rattle.cx_state.proofs.SameTypes.{alike-itself, alike-symmetric, alike-transitive, alike-simple}
use Rattle.cx_state.proofs.Growing.{Alike-grows}
use Rattle.cx_state.proofs.laws.alike.sameness_is_an_equivalence.Goals as goal

pub returns-clause-itself : goal.returns-clause-itself
returns-clause-itself c t id row s e = alike-itself t s id row e

pub returns-clause-symmetric : goal.returns-clause-symmetric
returns-clause-symmetric c = alike-symmetric

pub returns-clause-transitive : goal.returns-clause-transitive
returns-clause-transitive c = alike-transitive

pub returns-clause-alone : goal.returns-clause-alone
returns-clause-alone c = alike-simple

pub returns-clause-grown : goal.returns-clause-grown
returns-clause-grown c t u a b g h = Alike-grows t u g a b h
