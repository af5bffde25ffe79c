use Rattle.std.proofs.Common.{◌∙◌}
use Rattle.cx_records.proofs.Rules.{init_rules, activate_rules}
use Rattle.cx_records.proofs.store.Records.init_rule.Goals as goal

pub returns : goal.returns
returns c = record {
  init = c.first_broken.ensures ∙ init_rules c.args.types.now c.args.self.now.records.items c.args.at c.condition-condition.result c.condition-condition.ensures;
  activate = c.first_broken.ensures ∙ activate_rules c.args.types.now c.args.self.now.records.items c.args.at c.condition-condition.result c.condition-condition.ensures;
}
