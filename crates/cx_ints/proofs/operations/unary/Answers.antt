use Rattle.std.proofs.Common.{Result, sym, subst}
use Rattle.cx_base.specs.declared.rule.Rule.{Rule}
use Rattle.cx_ints.specs.declared.int.Int.{Int}
use Rattle.cx_ints.specs.Conversions.{promote}
use Rattle.cx_ints.proofs.Results.{OkOf, unary_of}
use Rattle.cx_ints.proofs.operations.unary.Goals as goal

pub returns-clause-of_type : goal.returns-clause-of_type
returns-clause-of_type c = subst (λ (r : Result Int Rule). OkOf (promote c.args.a.ty) r) (sym c.operate_on.ensures) (unary_of c.args.op c.args.a)
