use Rattle.std.proofs.Common.{◌∙◌}
use Rattle.cx_unit_parser.proofs.Single.{explained, in_range}
use Rattle.cx_unit_parser.proofs.parsing.parse_unit.Goals as goal

pub placed-requires : goal.placed-requires
placed-requires c = record { range = in_range c.args.tokens c.as_slice-lexemes.result.now c.in-Err-Fault.rule c.in-Err-Fault.left c.requires (c.as_slice-lexemes.ensures ∙ c.in_ok-seen.ensures) (c.in-Err-Fault.ensures c.in-Err-Fault.rule c.in-Err-Fault.left c.in-Err-Fault.field-0-is) }

pub returns-in-Err-Fault-clause-fault : goal.returns-in-Err-Fault-clause-fault
returns-in-Err-Fault-clause-fault c = explained c.args.tokens c.as_slice-lexemes.result.now c.in-Err-Fault.rule c.in-Err-Fault.left c.placed.result c.requires (c.as_slice-lexemes.ensures ∙ c.in_ok-seen.ensures) (c.in-Err-Fault.ensures c.in-Err-Fault.rule c.in-Err-Fault.left c.in-Err-Fault.field-0-is) c.placed.ensures
