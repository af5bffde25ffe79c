use Rattle.cx_syntax_decls.proofs.Special.{exactly_minit}
use Rattle.cx_syntax_decls.proofs.Chosen.{exactly_entity_kind}
use Rattle.cx_syntax_decls.proofs.MemberFunctions.{exactly_ctor, exactly_dtor}
use Rattle.cx_syntax_decls.proofs.Classes.{exactly_base}
use Rattle.cx_syntax_decls.proofs.Knots.{exactly_class, exactly_member, exactly_space, exactly_decl, exactly_unit}
use Rattle.cx_syntax.proofs.Single.{one_value}
use Rattle.cx_syntax_decls.proofs.Entities.{exactly_entity}
use Rattle.cx_syntax_decls.proofs.laws.one_tree.Goals as goal

pub returns-clause-minit : goal.returns-clause-minit
returns-clause-minit c = one_value exactly_minit

pub returns-clause-entity_kind : goal.returns-clause-entity_kind
returns-clause-entity_kind c = one_value exactly_entity_kind

pub returns-clause-ctor : goal.returns-clause-ctor
returns-clause-ctor c = one_value exactly_ctor

pub returns-clause-dtor : goal.returns-clause-dtor
returns-clause-dtor c = one_value exactly_dtor

pub returns-clause-base : goal.returns-clause-base
returns-clause-base c = one_value exactly_base

pub returns-clause-class : goal.returns-clause-class
returns-clause-class c = one_value exactly_class

pub returns-clause-member : goal.returns-clause-member
returns-clause-member c = one_value exactly_member

pub returns-clause-space : goal.returns-clause-space
returns-clause-space c = one_value exactly_space

pub returns-clause-decl : goal.returns-clause-decl
returns-clause-decl c = one_value exactly_decl

pub returns-clause-unit : goal.returns-clause-unit
returns-clause-unit c = one_value exactly_unit

pub returns-clause-entity : goal.returns-clause-entity
returns-clause-entity c = λ n m ts a b s z. one_value exactly_entity n m ts a b s.part z.part
