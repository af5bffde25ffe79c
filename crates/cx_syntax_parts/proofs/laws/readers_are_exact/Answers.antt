use Rattle.cx_syntax_parts.proofs.Soup.{exactly_soup, exactly_attrs, exactly_noex}
use Rattle.cx_syntax_parts.proofs.Words.{exactly_tail, exactly_virt, exactly_access}
use Rattle.cx_syntax_parts.proofs.Declarations.{exactly_assert, exactly_alias, exactly_enumr, exactly_enums}
use Rattle.cx_syntax_parts.proofs.Enums.{exactly_enum}
use Rattle.cx_syntax_parts.proofs.laws.readers_are_exact.Goals as goal

pub returns-clause-soup : goal.returns-clause-soup
returns-clause-soup c = λ levels ts. (exactly_soup levels).at ts

pub returns-clause-attrs : goal.returns-clause-attrs
returns-clause-attrs c = λ levels ts. (exactly_attrs levels).at ts

pub returns-clause-noex : goal.returns-clause-noex
returns-clause-noex c = λ levels ts. (exactly_noex levels).at ts

pub returns-clause-assert : goal.returns-clause-assert
returns-clause-assert c = λ levels ts. (exactly_assert levels).at ts

pub returns-clause-alias : goal.returns-clause-alias
returns-clause-alias c = λ levels ts. (exactly_alias levels).at ts

pub returns-clause-enumr : goal.returns-clause-enumr
returns-clause-enumr c = λ levels ts. (exactly_enumr levels).at ts

pub returns-clause-enums : goal.returns-clause-enums
returns-clause-enums c = λ levels ts. (exactly_enums levels).at ts

pub returns-clause-enumeration : goal.returns-clause-enumeration
returns-clause-enumeration c = λ levels ts. (exactly_enum levels).at ts

pub returns-clause-tail : goal.returns-clause-tail
returns-clause-tail c = λ levels ts. (exactly_tail levels).at ts

pub returns-clause-virt : goal.returns-clause-virt
returns-clause-virt c = λ levels ts. (exactly_virt levels).at ts

pub returns-clause-access : goal.returns-clause-access
returns-clause-access c = λ levels ts. (exactly_access levels).at ts
