use Rattle.std.proofs.Common.{◌≡◌, Some, None, Ok, sym, ap, ◌∙◌}
use Rattle.cx_state.specs.Objects.{at}
use Rattle.cx_state.specs.Conditions as on
use Rattle.cx_state.specs.Steps.{unless, scalar_of}
use Rattle.cx_records.specs.Records.{objects_of, forms_in, path_in}
use Rattle.cx_records.proofs.Rules.{load_rules}
use Rattle.cx_records.proofs.Reading.{value_is, load_nothing, loaded_is}
use Rattle.cx_records.proofs.store.Records.load_at.Goals as goal

pub returns-in-Some : goal.returns-in-Some
returns-in-Some c =
    let rs = c.args.self.now.records.items in
    let k = c.condition-condition.ensures in
    let b : on.broken c.args.types.now (objects_of rs) (path_in (forms_in rs) c.args.at) on.Load ≡ Some c.in-Some.rule =
    sym (load_rules c.args.types.now rs c.args.at c.condition-condition.result c.both-nothing.result k
    (load_nothing c.args.types.now rs c.args.self.now.live c.args.at c.condition-condition.result k c.requires.fits c.requires.known c.requires.scalar c.record.result.now c.record.ensures c.value-value.result c.value-value.ensures c.is_nothing.result c.is_nothing.ensures c.both-nothing.result c.both-nothing.ensures))
    ∙ sym c.first_broken-broken.ensures ∙ c.in-Some.is in
    record { gives = sym (ap (λ o. unless o (scalar_of (at (objects_of rs) (path_in (forms_in rs) c.args.at)))) b) }

pub returns-in-None : goal.returns-in-None
returns-in-None c =
    let rs = c.args.self.now.records.items in
    let k = c.condition-condition.ensures in
    let b : on.broken c.args.types.now (objects_of rs) (path_in (forms_in rs) c.args.at) on.Load ≡ None =
    sym (load_rules c.args.types.now rs c.args.at c.condition-condition.result c.both-nothing.result k
    (load_nothing c.args.types.now rs c.args.self.now.live c.args.at c.condition-condition.result k c.requires.fits c.requires.known c.requires.scalar c.record.result.now c.record.ensures c.value-value.result c.value-value.ensures c.is_nothing.result c.is_nothing.ensures c.both-nothing.result c.both-nothing.ensures))
    ∙ sym c.first_broken-broken.ensures ∙ c.in-None.is in
    record {
      gives = ap Ok (loaded_is rs c.args.at c.condition-condition.result k c.record.result.now c.record.ensures c.value-value.result c.value-value.ensures ∙ sym (value_is c.args.types.now rs c.args.self.now.live c.args.at c.condition-condition.result c.requires.fits c.requires.known c.requires.scalar k b))
          ∙ sym (ap (λ o. unless o (scalar_of (at (objects_of rs) (path_in (forms_in rs) c.args.at)))) b);
    }
