use Rattle.std.proofs.Common.{rules, arith}
use Rattle.std.proofs.lemmas.Grind.{common_steps}
use Rattle.cx_syntax_parts.specs.Readers as spec
use Rattle.cx_parser_vars.proofs.enums.enumeration.Goals as goal

pub returns-in_err-expect : goal.returns-in_err-expect
unfolding spec.enum
returns-in_err-expect c = first_of (search rules, grind (arith, common_steps))

pub returns-in_err-attrs : goal.returns-in_err-attrs
unfolding spec.enum
returns-in_err-attrs c = first_of (search rules, grind (arith, common_steps))

pub returns : goal.returns
unfolding spec.enum
returns c = first_of (search rules, grind (arith, common_steps))
