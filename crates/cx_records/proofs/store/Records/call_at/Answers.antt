use Rattle.std.proofs.Common.{◌≡◌, Some, None, sym, ap, ◌∙◌}
use Rattle.cx_state.specs.Conditions as on
use Rattle.cx_state.specs.Steps.{unless}
use Rattle.cx_records.specs.Records.{objects_of, forms_in, path_in}
use Rattle.cx_records.proofs.Rules.{call_rules}
use Rattle.cx_records.proofs.store.Records.call_at.Goals as goal

pub returns-in-Some : goal.returns-in-Some
returns-in-Some c =
    let rs = c.args.self.now.records.items in
    let b : on.broken c.args.types.now (objects_of rs) (path_in (forms_in rs) c.args.at) on.Call ≡ Some c.in-Some.rule =
    sym (call_rules c.args.types.now rs c.args.at c.condition-condition.result c.condition-condition.ensures) ∙ sym c.first_broken-broken.ensures ∙ c.in-Some.is in
    record { gives = sym (ap (λ o. unless o tt) b) }

pub returns-in-None : goal.returns-in-None
returns-in-None c =
    let rs = c.args.self.now.records.items in
    let b : on.broken c.args.types.now (objects_of rs) (path_in (forms_in rs) c.args.at) on.Call ≡ None =
    sym (call_rules c.args.types.now rs c.args.at c.condition-condition.result c.condition-condition.ensures) ∙ sym c.first_broken-broken.ensures ∙ c.in-None.is in
    record { gives = sym (ap (λ o. unless o tt) b) }
