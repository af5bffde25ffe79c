use Rattle.std.proofs.Common.{sym, ap, ◌∙◌}
use Rattle.cx_ints.specs.Conversions.{promote, common, common_promoted}
use Rattle.cx_ints.proofs.EachType.{common_symmetric, common_promoted_already, common_of_one}
use Rattle.cx_ints.proofs.conversions.common.Goals as goal

pub returns-clause-value : goal.returns-clause-value
unfolding common
returns-clause-value c = c.common_promoted.ensures ∙ (λ i. common_promoted (c.promote.ensures.value i) (c.promote-2.ensures.value i))

pub returns-clause-symmetric : goal.returns-clause-symmetric
returns-clause-symmetric c = returns-clause-value c ∙ common_symmetric c.args.b c.args.a

pub returns-clause-stable : goal.returns-clause-stable
returns-clause-stable c = ap promote (returns-clause-value c) ∙ common_promoted_already c.args.a c.args.b ∙ sym (returns-clause-value c)

pub returns-clause-same : goal.returns-clause-same
returns-clause-same c e = returns-clause-value c ∙ common_of_one c.args.a c.args.b e
