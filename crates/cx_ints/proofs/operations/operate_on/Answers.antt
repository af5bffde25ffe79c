use Rattle.std.proofs.Common.{ap, sym, ◌∙◌}
use Rattle.cx_ints.specs.declared.operators.UnOp.{UnOp}
use Rattle.cx_ints.specs.Operations.{unary_operation}
use Rattle.cx_ints.proofs.Results.{complement_of}
use Rattle.cx_ints.proofs.operations.operate_on.Goals as goal

pub returns-in-Complement : goal.returns-in-Complement
returns-in-Complement c =
    complement_of c.args.a c.promoted-operand.result c.complement.result c.promoted-operand.ensures.value c.complement.ensures
    ∙ ap (λ (o : UnOp). unary_operation o c.args.a) (sym c.in-Complement.is)
