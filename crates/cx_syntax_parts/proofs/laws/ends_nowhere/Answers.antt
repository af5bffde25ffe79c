use Rattle.cx_syntax.proofs.Endless.{no_end}
use Rattle.cx_syntax_parts.proofs.Endless.{endless_attrs, endless_noex, endless_assert, endless_alias, endless_enums, endless_enum, endless_tail, endless_virt}
use Rattle.cx_syntax_parts.proofs.laws.ends_nowhere.Goals as goal

pub returns-clause-attrs : goal.returns-clause-attrs
returns-clause-attrs c = λ n ts b. no_end ts ((endless_attrs n).begins ts b)

pub returns-clause-noex : goal.returns-clause-noex
returns-clause-noex c = λ n ts b. no_end ts ((endless_noex n).begins ts b)

pub returns-clause-assert : goal.returns-clause-assert
returns-clause-assert c = λ n ts b. no_end ts ((endless_assert n).begins ts b)

pub returns-clause-alias : goal.returns-clause-alias
returns-clause-alias c = λ n ts b. no_end ts ((endless_alias n).begins ts b)

pub returns-clause-enums : goal.returns-clause-enums
returns-clause-enums c = λ n ts b. no_end ts ((endless_enums n).begins ts b)

pub returns-clause-enumeration : goal.returns-clause-enumeration
returns-clause-enumeration c = λ n ts b. no_end ts ((endless_enum n).begins ts b)

pub returns-clause-tail : goal.returns-clause-tail
returns-clause-tail c = λ n ts b. no_end ts (endless_tail.begins ts b)

pub returns-clause-virt : goal.returns-clause-virt
returns-clause-virt c = λ n ts b. no_end ts (endless_virt.begins ts b)
