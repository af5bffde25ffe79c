use Rattle.std.proofs.Common.{◌≡◌, None, Some, Ok, sym, subst, ◌∙◌}
use Rattle.cx_state.specs.Conditions as on
use Rattle.cx_state.specs.Steps as steps
use Rattle.cx_state.proofs.Known.{outer-knows}
use Rattle.cx_records.specs.Records.{objects_of, forms_in, path_in}
use Rattle.cx_record_pointers.specs.Enclosing.{IsNearest}
use Rattle.cx_record_pointers.proofs.Enclosing.{outer_rules, outer_broken, outer_is}
use Rattle.cx_record_pointers.proofs.enclose.outer.Goals as goal
use Rattle.cx_record_pointers.proofs.enclose.outer.Goals.{In-Some-nearest}

pub returns-in-Some-clause-gives : goal.returns-in-Some-clause-gives
returns-in-Some-clause-gives c =
    let rs = c.args.store.now.records.items in
    let b : on.broken c.args.types.now (objects_of rs) (path_in (forms_in rs) c.args.at) (on.Outer c.args.to) ≡ Some c.in-Some.rule =
    sym (outer_rules c.args.types.now rs c.args.at c.args.to c.condition-condition.result c.nearest_at-nearest.result c.is_none.result c.condition-condition.ensures c.nearest_at-nearest.ensures c.is_none.ensures)
    ∙ sym c.first_broken-broken.ensures ∙ c.in-Some.is in
    outer_broken c.args.types.now (objects_of rs) (path_in (forms_in rs) c.args.at) c.args.to c.in-Some.rule b

found : (c : In-Some-nearest) → Ok (path_in (forms_in c.args.store.now.records.items) c.in-Some-nearest.place) ≡ steps.outer c.args.types.now (objects_of c.args.store.now.records.items) (path_in (forms_in c.args.store.now.records.items) c.args.at) c.args.to
found c =
    let rs = c.args.store.now.records.items in
    let b : on.broken c.args.types.now (objects_of rs) (path_in (forms_in rs) c.args.at) (on.Outer c.args.to) ≡ None =
    sym (outer_rules c.args.types.now rs c.args.at c.args.to c.condition-condition.result c.nearest_at-nearest.result c.is_none.result c.condition-condition.ensures c.nearest_at-nearest.ensures c.is_none.ensures)
    ∙ sym c.first_broken-broken.ensures ∙ c.in-None.is in
    outer_is c.args.types.now rs c.args.at c.args.to c.condition-condition.result c.in-Some-nearest.place c.condition-condition.ensures
    (subst (IsNearest c.args.types.now rs c.args.at c.args.to) c.in-Some-nearest.is c.nearest_at-nearest.ensures) b

pub returns-in-Some-nearest-clause-gives : goal.returns-in-Some-nearest-clause-gives
returns-in-Some-nearest-clause-gives c = found c

pub returns-in-Some-nearest-clause-known : goal.returns-in-Some-nearest-clause-known
returns-in-Some-nearest-clause-known c =
    outer-knows c.args.types.now (objects_of c.args.store.now.records.items) (path_in (forms_in c.args.store.now.records.items) c.args.at) (path_in (forms_in c.args.store.now.records.items) c.in-Some-nearest.place) c.args.to c.requires.known (sym (found c))
