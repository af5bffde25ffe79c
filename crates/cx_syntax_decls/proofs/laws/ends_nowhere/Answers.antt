use Rattle.cx_syntax.proofs.Endless.{no_end}
use Rattle.cx_syntax_decls.proofs.Endless.{endless_minit, endless_ctor, endless_dtor, endless_base, endless_class, endless_member, endless_space, endless_decl, endless_entity}
use Rattle.cx_syntax_decls.proofs.laws.ends_nowhere.Goals as goal

pub returns-clause-minit : goal.returns-clause-minit
returns-clause-minit c = λ n ts b. no_end ts ((endless_minit n).begins ts b)

pub returns-clause-ctor : goal.returns-clause-ctor
returns-clause-ctor c = λ n ts b. no_end ts ((endless_ctor n).begins ts b)

pub returns-clause-dtor : goal.returns-clause-dtor
returns-clause-dtor c = λ n ts b. no_end ts ((endless_dtor n).begins ts b)

pub returns-clause-base : goal.returns-clause-base
returns-clause-base c = λ n ts b. no_end ts ((endless_base n).begins ts b)

pub returns-clause-class : goal.returns-clause-class
returns-clause-class c = λ n ts b. no_end ts ((endless_class n).begins ts b)

pub returns-clause-member : goal.returns-clause-member
returns-clause-member c = λ n ts b. no_end ts ((endless_member n).begins ts b)

pub returns-clause-space : goal.returns-clause-space
returns-clause-space c = λ n ts b. no_end ts ((endless_space n).begins ts b)

pub returns-clause-decl : goal.returns-clause-decl
returns-clause-decl c = λ n ts b. no_end ts ((endless_decl n).begins ts b)

pub returns-clause-entity : goal.returns-clause-entity
returns-clause-entity c = λ n ts b. no_end ts ((endless_entity n).begins ts b)
