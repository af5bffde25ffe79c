use Rattle.std.proofs.Common.{◌+◌, length, sym, subst}
use Rattle.cx_tokens.specs.Marks.{Counts}
use Rattle.cx_tokens.proofs.MarkSteps.{counts_on}
use Rattle.cx_tokens.proofs.step.behind.Goals as goal

pub returns-clause-counted : goal.returns-clause-counted
returns-clause-counted c =
    subst (λ m. Counts m (c.args.here.at + length c.args.piece.now)) (sym c.mark_on.ensures) (counts_on c.args.here.mark c.args.here.at c.args.piece.now c.requires.counted)
