use Rattle.cx_syntax_decls.proofs.Special.{exactly_minit}
use Rattle.cx_syntax_decls.proofs.Chosen.{exactly_entity_kind}
use Rattle.cx_syntax_decls.proofs.MemberFunctions.{exactly_ctor, exactly_dtor}
use Rattle.cx_syntax_decls.proofs.Classes.{exactly_base}
use Rattle.cx_syntax_decls.proofs.Knots.{exactly_class, exactly_member, exactly_space, exactly_decl, exactly_unit}
use Rattle.cx_grammar.proofs.Choices.{right_of}
use Rattle.cx_syntax_decls.specs.Readers as r
use Rattle.cx_syntax_decls.proofs.Entities.{exactly_entity}
use Rattle.cx_syntax_decls.proofs.Members.{entity_right}
use Rattle.cx_syntax_decls.proofs.Which.{not_final}
use Rattle.cx_syntax_decls.proofs.laws.readers_are_exact.Goals as goal

pub returns-clause-minit : goal.returns-clause-minit
returns-clause-minit c = λ levels ts. (exactly_minit levels).at ts

pub returns-clause-entity_kind : goal.returns-clause-entity_kind
returns-clause-entity_kind c = λ levels ts. (exactly_entity_kind levels).at ts

pub returns-clause-ctor : goal.returns-clause-ctor
returns-clause-ctor c = λ levels ts. (exactly_ctor levels).at ts

pub returns-clause-dtor : goal.returns-clause-dtor
returns-clause-dtor c = λ levels ts. (exactly_dtor levels).at ts

pub returns-clause-base : goal.returns-clause-base
returns-clause-base c = λ levels ts. (exactly_base levels).at ts

pub returns-clause-class : goal.returns-clause-class
returns-clause-class c = λ levels ts. (exactly_class levels).at ts

pub returns-clause-member : goal.returns-clause-member
returns-clause-member c = λ levels ts. (exactly_member levels).at ts

pub returns-clause-space : goal.returns-clause-space
returns-clause-space c = λ levels ts. (exactly_space levels).at ts

pub returns-clause-decl : goal.returns-clause-decl
returns-clause-decl c = λ levels ts. (exactly_decl levels).at ts

pub returns-clause-unit : goal.returns-clause-unit
returns-clause-unit c = λ levels ts. (exactly_unit levels).at ts

pub returns-clause-entity : goal.returns-clause-entity
returns-clause-entity c = λ levels ts other. (entity_right levels ts (r.entity levels ts) (not_final ts other) (right_of (exactly_entity levels) ts)).exact
