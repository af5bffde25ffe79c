use Rattle.std.proofs.Common.{refl, sym, ◌∙◌}
use Rattle.cx_records.specs.declared.place.Place.{Place}
use Rattle.cx_records.specs.declared.place.End.TheVariants as end
use Rattle.cx_record_dynamic.proofs.Deciding.{dynamic_rules, dynamic_refused, decides_found, decides_never_none, decides_known}
use Rattle.cx_record_dynamic.proofs.decide.dynamic_class.Goals as goal

pub unreachable-requires : goal.unreachable-requires
unreachable-requires c =
    let rs = c.args.records.now.records.items in
    let t = c.args.types.now in
    let k = c.condition-condition.ensures in
    let i = c.decider_at-decider.ensures in
    let b = sym (dynamic_rules t rs c.args.at c.condition-condition.result c.decider_at-decider.result c.is_missing.result c.without-undecided.result c.either.result k i c.is_missing.ensures c.without-undecided.ensures c.either.ensures) ∙ sym c.first_broken-broken.ensures ∙ c.in-None-None.is-0 in
    decides_never_none t rs c.args.at k.stands.rec k.stands.is_rec c.decider_at-decider.result i b c.requires.class c.in-None-None.is-1

pub returns-in-Some-default-clause-gives : goal.returns-in-Some-default-clause-gives
returns-in-Some-default-clause-gives c =
    let rs = c.args.records.now.records.items in
    let t = c.args.types.now in
    dynamic_refused t rs c.args.at c.in-Some-default.rule
    (sym (dynamic_rules t rs c.args.at c.condition-condition.result c.decider_at-decider.result c.is_missing.result c.without-undecided.result c.either.result c.condition-condition.ensures c.decider_at-decider.ensures c.is_missing.ensures c.without-undecided.ensures c.either.ensures)
    ∙ sym c.first_broken-broken.ensures ∙ c.in-Some-default.is-0)

pub returns-in-None-Some : goal.returns-in-None-Some
returns-in-None-Some c =
    let rs = c.args.records.now.records.items in
    let t = c.args.types.now in
    let k = c.condition-condition.ensures in
    let i = c.decider_at-decider.ensures in
    let b = sym (dynamic_rules t rs c.args.at c.condition-condition.result c.decider_at-decider.result c.is_missing.result c.without-undecided.result c.either.result k i c.is_missing.ensures c.without-undecided.ensures c.either.ensures) ∙ sym c.first_broken-broken.ensures ∙ c.in-None-Some.is-0 in
    let z : Place = record { object = c.args.at.object; part = c.in-None-Some.decider.number; end = end.At } in
    let g = decides_found t rs c.args.at k.stands.rec k.stands.is_rec c.decider_at-decider.result i b c.in-None-Some.decider z c.in-None-Some.is-1 refl refl refl in
    record { gives = g; known = decides_known t rs c.args.at k.stands.rec k.stands.is_rec c.decider_at-decider.result i b c.in-None-Some.decider z g }
