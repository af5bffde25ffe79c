use Rattle.cx_syntax.proofs.Single.{one_value}
use Rattle.cx_syntax_parts.proofs.Soup.{exactly_attrs, exactly_noex}
use Rattle.cx_syntax_parts.proofs.Words.{exactly_tail, exactly_virt}
use Rattle.cx_syntax_parts.proofs.Declarations.{exactly_assert, exactly_alias, exactly_enums}
use Rattle.cx_syntax_parts.proofs.Enums.{exactly_enum}
use Rattle.cx_syntax_parts.proofs.laws.one_tree.Goals as goal

pub returns-clause-attrs : goal.returns-clause-attrs
returns-clause-attrs c = one_value exactly_attrs

pub returns-clause-noex : goal.returns-clause-noex
returns-clause-noex c = one_value exactly_noex

pub returns-clause-assert : goal.returns-clause-assert
returns-clause-assert c = one_value exactly_assert

pub returns-clause-alias : goal.returns-clause-alias
returns-clause-alias c = one_value exactly_alias

pub returns-clause-enums : goal.returns-clause-enums
returns-clause-enums c = one_value exactly_enums

pub returns-clause-enumeration : goal.returns-clause-enumeration
returns-clause-enumeration c = one_value exactly_enum

pub returns-clause-tail : goal.returns-clause-tail
returns-clause-tail c = one_value exactly_tail

pub returns-clause-virt : goal.returns-clause-virt
returns-clause-virt c = one_value exactly_virt
