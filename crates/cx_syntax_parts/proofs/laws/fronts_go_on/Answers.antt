use Rattle.std.proofs.Common.{refl}
use Rattle.cx_syntax.proofs.Viable.{goes_on}
use Rattle.cx_syntax_parts.proofs.Viable.{viable_attrs, viable_noex, viable_assert, viable_alias, viable_enums, viable_enum, viable_tail, viable_virt, assert_stays}
use Rattle.cx_syntax_parts.proofs.laws.fronts_go_on.Goals as goal

pub returns-clause-attrs : goal.returns-clause-attrs
returns-clause-attrs c = λ n ts b. let p = goes_on refl (viable_attrs n) ts b in (p.more, p.value, p.spelled)

pub returns-clause-noex : goal.returns-clause-noex
returns-clause-noex c = λ n ts b. let p = goes_on refl (viable_noex n) ts b in (p.more, p.value, p.spelled)

pub returns-clause-assert : goal.returns-clause-assert
returns-clause-assert c = λ n ts b. let p = goes_on (assert_stays n) (viable_assert n) ts b in (p.more, p.value, p.spelled)

pub returns-clause-alias : goal.returns-clause-alias
returns-clause-alias c = λ n ts b. let p = goes_on refl (viable_alias n) ts b in (p.more, p.value, p.spelled)

pub returns-clause-enums : goal.returns-clause-enums
returns-clause-enums c = λ n ts b. let p = goes_on refl (viable_enums n) ts b in (p.more, p.value, p.spelled)

pub returns-clause-enumeration : goal.returns-clause-enumeration
returns-clause-enumeration c = λ n ts b. let p = goes_on refl (viable_enum n) ts b in (p.more, p.value, p.spelled)

pub returns-clause-tail : goal.returns-clause-tail
returns-clause-tail c = λ n ts b. let p = goes_on refl viable_tail ts b in (p.more, p.value, p.spelled)

pub returns-clause-virt : goal.returns-clause-virt
returns-clause-virt c = λ n ts b. let p = goes_on refl viable_virt ts b in (p.more, p.value, p.spelled)
