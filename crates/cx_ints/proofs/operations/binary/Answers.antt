use Rattle.std.proofs.Common.{Result, sym, subst}
use Rattle.cx_base.specs.declared.rule.Rule.{Rule}
use Rattle.cx_ints.specs.declared.int.Int.{Int}
use Rattle.cx_ints.specs.Operations.{result_type}
use Rattle.cx_ints.proofs.Results.{OkOf, operation_of}
use Rattle.cx_ints.proofs.operations.binary.Goals as goal

pub returns-clause-of_type : goal.returns-clause-of_type
returns-clause-of_type c = subst (λ (r : Result Int Rule). OkOf (result_type c.args.op c.args.a.ty c.args.b.ty) r) (sym c.operate.ensures) (operation_of c.args.op c.args.a c.args.b)
