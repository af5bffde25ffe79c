use Rattle.std.proofs.Common.{◌∙◌}
use Rattle.cx_base.proofs.Tags.{tags_differ}
use Rattle.cx_base.proofs.table.rule_tag.Goals as goal

pub returns-clause-differ : goal.returns-clause-differ
returns-clause-differ c = λ other e. tags_differ other c.args.rule (e ∙ c.tag_of.ensures)
