use Rattle.cx_syntax_parts.proofs.Nested.{attrs_count, noex_count}
use Rattle.cx_syntax_parts.proofs.laws.levels_are_counted.Goals as goal

pub returns-clause-attrs : goal.returns-clause-attrs
returns-clause-attrs c = attrs_count

pub returns-clause-noex : goal.returns-clause-noex
returns-clause-noex c = noex_count
