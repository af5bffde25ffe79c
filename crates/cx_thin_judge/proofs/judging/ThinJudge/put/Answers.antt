use Rattle.std.proofs.Common.{◌∙◌}
use Rattle.cx_thin_judge.proofs.Kept.{insert_kept}
use Rattle.cx_thin_judge.proofs.judging.ThinJudge.put.Goals as goal
use Rattle.cx_thin_judge.proofs.judging.ThinJudge.put.Goals.{in-Ok, in-Err}

pub returns-clause-ok : goal.returns-clause-ok
returns-clause-ok c = elim c.match-insert.branch [ in-Ok w ↦ rw (w.result-is, ← c.self.view_is) ((rw w.in-Ok.is at c.insert.ensures.entries) ∙ insert_kept c.self.inside.kept.entries c.args.variable c.args.kept) | in-Err w ↦ rw w.result-is tt ]
