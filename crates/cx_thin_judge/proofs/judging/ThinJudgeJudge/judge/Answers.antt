use Rattle.std.proofs.Common.{◌∙◌, ap}
use Rattle.cx_typed.specs.Shown.{full_shown}
use Rattle.cx_thin_judge.specs.Evaluating.{answered}
use Rattle.cx_thin_judge.proofs.Telling.{judged_value, judged_violation, judged_fits}
use Rattle.cx_thin_judge.proofs.judging.ThinJudgeJudge.judge.Goals as goal

pub returns-in-Ok-keep-clause-judged : goal.returns-in-Ok-keep-clause-judged
returns-in-Ok-keep-clause-judged c = judged_value c.args.self.now c.args.program.now (full_shown c.args.program.now c.args.full.now) c.args.mode _ c.keep.new.self.kept (c.found.ensures c.args.mode ∙ ap answered c.in-Ok.is) (rw c.in-Ok-keep.is at c.keep.ensures.ok)

pub returns-in-Ok-keep-clause-fits : goal.returns-in-Ok-keep-clause-fits
returns-in-Ok-keep-clause-fits c = judged_fits c.args.self.now c.args.program.now (full_shown c.args.program.now c.args.full.now) c.args.mode _ c.keep.new.self.kept c.fits.ensures c.requires.fits c.requires.full.fits
    (judged_value c.args.self.now c.args.program.now (full_shown c.args.program.now c.args.full.now) c.args.mode _ c.keep.new.self.kept (c.found.ensures c.args.mode ∙ ap answered c.in-Ok.is) (rw c.in-Ok-keep.is at c.keep.ensures.ok))

pub returns-in-Err-clause-judged : goal.returns-in-Err-clause-judged
returns-in-Err-clause-judged c = judged_violation c.args.self.now c.args.program.now (full_shown c.args.program.now c.args.full.now) c.args.mode c.in-Err.broken c.new.result (c.found.ensures c.args.mode ∙ ap answered c.in-Err.is) c.new.ensures
