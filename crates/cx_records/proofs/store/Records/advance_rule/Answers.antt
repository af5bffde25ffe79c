use Rattle.std.proofs.Common.{◌∙◌, ap, ◌||◌}
use Rattle.cx_records.proofs.Rules.{advance_rules}
use Rattle.cx_records.proofs.Wholes.{advance_before}
use Rattle.cx_records.proofs.store.Records.advance_rule.Goals as goal

pub returns : goal.returns
returns c =
    let rs = c.args.self.now.records.items in
    let t = c.args.types.now in
    let k = c.condition-condition.ensures in
    c.first_broken.ensures ∙ advance_rules t rs c.args.at c.condition-condition.result c.args.to c.both-before.result c.either-late.result k
    (advance_before t rs c.args.self.now.live c.args.at c.condition-condition.result c.args.to c.requires.fits c.requires.known c.requires.class k c.record.result.now c.record.ensures c.phase-phase.result c.phase-phase.ensures c.is_before.result c.both-before.result c.is_before.ensures c.both-before.ensures)
    (c.either-late.ensures ∙ ap (λ b. c.condition-condition.result.dead || b) c.without.ensures)
