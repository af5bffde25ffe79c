use Rattle.std.proofs.Common.{◌≡◌, Some, None, sym, ap, ◌∙◌, Ok}
use Rattle.cx_state.specs.Objects.{at}
use Rattle.cx_state.specs.Conditions as on
use Rattle.cx_state.specs.Steps.{unless, member_of}
use Rattle.cx_records.specs.Records.{objects_of, forms_in, path_in}
use Rattle.cx_records.proofs.Rules.{which_rules}
use Rattle.cx_records.proofs.Reading.{active_is}
use Rattle.cx_records.proofs.store.Records.active_at.Goals as goal

pub returns-in-Some : goal.returns-in-Some
returns-in-Some c =
    let rs = c.args.self.now.records.items in
    let b : on.broken c.args.types.now (objects_of rs) (path_in (forms_in rs) c.args.at) on.Which ≡ Some c.in-Some.rule =
    sym (which_rules c.args.types.now rs c.args.at c.condition-condition.result c.condition-condition.ensures) ∙ sym c.first_broken-broken.ensures ∙ c.in-Some.is in
    record { gives = sym (ap (λ o. unless o (member_of (at (objects_of rs) (path_in (forms_in rs) c.args.at)))) b) }

pub returns-in-None : goal.returns-in-None
returns-in-None c =
    let rs = c.args.self.now.records.items in
    let m = c.member_at.ensures in
    let b : on.broken c.args.types.now (objects_of rs) (path_in (forms_in rs) c.args.at) on.Which ≡ None =
    sym (which_rules c.args.types.now rs c.args.at c.condition-condition.result c.condition-condition.ensures) ∙ sym c.first_broken-broken.ensures ∙ c.in-None.is in
    record {
      gives = ap Ok (active_is c.args.types.now rs c.args.self.now.live c.args.at m.form m.there m.dead c.member_at.result c.requires.fits c.requires.known c.requires.union m.stands m.is_member b)
          ∙ sym (ap (λ o. unless o (member_of (at (objects_of rs) (path_in (forms_in rs) c.args.at)))) b);
    }
