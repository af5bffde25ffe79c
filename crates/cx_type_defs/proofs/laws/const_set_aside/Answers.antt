use Rattle.std.proofs.Common.{refl, sym, ◌∙◌}
use Rattle.cx_type_defs.proofs.Forms.{aside-pointers, aside-references, aside-arrays, aside-grows}
use Rattle.cx_type_defs.proofs.laws.const_set_aside.Goals as goal

pub returns-clause-reflexive : goal.returns-clause-reflexive
returns-clause-reflexive c = λ t a. refl

pub returns-clause-symmetric : goal.returns-clause-symmetric
returns-clause-symmetric c = λ t a b e. sym e

pub returns-clause-transitive : goal.returns-clause-transitive
returns-clause-transitive c = λ t a b d e f. e ∙ f

pub returns-clause-pointers : goal.returns-clause-pointers
returns-clause-pointers c = aside-pointers

pub returns-clause-references : goal.returns-clause-references
returns-clause-references c = aside-references

pub returns-clause-arrays : goal.returns-clause-arrays
returns-clause-arrays c = aside-arrays

pub returns-clause-stays : goal.returns-clause-stays
returns-clause-stays c = aside-grows
