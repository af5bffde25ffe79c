use Rattle.std.proofs.Common.{◌+◌, ◌++◌, [], ◌∷◌, sym, subst, arith}
use Rattle.cx_shapes.specs.Forms.{AreListed}
use Rattle.cx_shapes.proofs.Ends.{listed_more}
use Rattle.cx_shapes.proofs.build.Listed.add.Goals as goal

pub returns-in-Ok-push-clause-listed : goal.returns-in-Ok-push-clause-listed
returns-in-Ok-push-clause-listed c =
    let xs = c.args.self.now.shapes in
    let es = c.args.self.now.ends in
    let e = c.args.self.now.parts + c.size_of.result in
    subst (λ ys. AreListed ys c.push-in-Ok.new.self e) (sym c.in-Ok.ensures.ok)
    (subst (λ ns. AreListed (xs ++ c.args.shape ∷ []) ns e) (sym c.in-Ok-push.ensures.ok)
    (listed_more xs es c.args.shape e c.args.self.now.parts c.requires.listed (omega arith) (omega arith)))
