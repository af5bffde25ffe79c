use Rattle.std.proofs.Common.{refl}
use Rattle.cx_syntax.proofs.Viable.{goes_on}
use Rattle.cx_syntax_decls.proofs.Viable.{viable_minit, viable_ctor, viable_dtor, viable_base, viable_class, viable_member, viable_space, viable_decl, viable_unit, viable_entity}
use Rattle.cx_syntax_decls.proofs.laws.fronts_go_on.Goals as goal

pub returns-clause-minit : goal.returns-clause-minit
returns-clause-minit c = λ n ts b. let p = goes_on refl (viable_minit n) ts b in (p.more, p.value, p.spelled)

pub returns-clause-ctor : goal.returns-clause-ctor
returns-clause-ctor c = λ n ts b. let p = goes_on refl (viable_ctor n) ts b in (p.more, p.value, p.spelled)

pub returns-clause-dtor : goal.returns-clause-dtor
returns-clause-dtor c = λ n ts b. let p = goes_on refl (viable_dtor n) ts b in (p.more, p.value, p.spelled)

pub returns-clause-base : goal.returns-clause-base
returns-clause-base c = λ n ts b. let p = goes_on refl (viable_base n) ts b in (p.more, p.value, p.spelled)

pub returns-clause-class : goal.returns-clause-class
returns-clause-class c = λ n ts b. let p = goes_on refl (viable_class n) ts b in (p.more, p.value, p.spelled)

pub returns-clause-member : goal.returns-clause-member
returns-clause-member c = λ n ts b. let p = goes_on refl (viable_member n) ts b in (p.more, p.value, p.spelled)

pub returns-clause-space : goal.returns-clause-space
returns-clause-space c = λ n ts b. let p = goes_on refl (viable_space n) ts b in (p.more, p.value, p.spelled)

pub returns-clause-decl : goal.returns-clause-decl
returns-clause-decl c = λ n ts b. let p = goes_on refl (viable_decl n) ts b in (p.more, p.value, p.spelled)

pub returns-clause-unit : goal.returns-clause-unit
returns-clause-unit c = λ n ts b. let p = goes_on refl (viable_unit n) ts b in (p.more, p.value, p.spelled)

pub returns-clause-entity : goal.returns-clause-entity
returns-clause-entity c = λ n ts b. let p = goes_on refl (viable_entity n) ts b in (p.more, p.value, p.spelled)
