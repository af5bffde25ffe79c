use Rattle.cx_thin_judge.proofs.Telling.{told_expr}
use Rattle.cx_thin_judge.proofs.judging.ThinJudge.found.Goals as goal

pub returns-in-Expr : goal.returns-in-Expr
returns-in-Expr c = λ md. rw c.in-Expr.is (told_expr c.args.self.now c.args.program.now md c.args.full.now.span c.in-Expr.expr c.begun.result c.begun.ensures)
