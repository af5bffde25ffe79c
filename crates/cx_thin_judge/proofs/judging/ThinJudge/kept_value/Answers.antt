use Rattle.std.proofs.Common.{◌∙◌}
use Rattle.cx_thin_judge.proofs.Kept.{lookup_kept}
use Rattle.cx_thin_judge.proofs.judging.ThinJudge.kept_value.Goals as goal

pub returns : goal.returns
returns c = rw (← c.self.view_is) (c.copied.ensures ∙ c.get.ensures.value ∙ lookup_kept c.self.inside.kept.entries c.args.variable)
