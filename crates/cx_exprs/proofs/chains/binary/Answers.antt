use Rattle.std.proofs.Common.{true}
use Rattle.cx_type_defs.specs.Same.{form_of}
use Rattle.cx_typed.specs.Shown.{shown}
use Rattle.cx_exprs.specs.Desks.{types_of}
use Rattle.cx_exprs.proofs.Chained.{binary_made}
use Rattle.cx_exprs.proofs.chains.binary.Goals as goal

pub returns-clause-form : goal.returns-clause-form
returns-clause-form g c =
    binary_made (types_of c.args.elab.now) c.args.operator c.planned-plan.result (shown (types_of c.args.elab.now) c.args.left) (shown (types_of c.args.elab.now) c.args.right) (shown (types_of c.args.elab.now) c.in_ok-left.left) (shown (types_of c.args.elab.now) c.in_ok-operand.operand) _ c.int_type-from.result c.int_type.result c.left_conversion.result (form_of true (types_of c.args.elab.now) c.int_id.result) c.args.span
    c.planned-plan.ensures c.int_type-from.ensures c.int_type.ensures c.in_ok-left.ensures.form c.in_ok-operand.ensures.form c.left_conversion.ensures.converted c.int_id.ensures.form c.in_ok-made.ensures.form
