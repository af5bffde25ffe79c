use Rattle.std.proofs.Common.{rules, sym, ◌∙◌}
use denote.Enum.Bare.{same_true, true_same}
use Rattle.cx_base.specs.contracts.rule.Rule.{the_type}
use Rattle.cx_vectors.proofs.ints.is_same_rule.Goals as goal

pub returns : goal.returns
returns c = (
  λ t. same_true the_type (search rules) c.args.rule c.args.wanted (sym c.eq.ensures ∙ t),
  λ e. c.eq.ensures ∙ true_same the_type c.args.rule c.args.wanted e,
)
