use Rattle.std.proofs.Common.{◌∙◌, ap, sym}
use Rattle.std.specs.Map.{set_value}
use Rattle.std.proofs.lemmas.Map.Steps.{set_value_same}
use Rattle.std.proofs.lemmas.Result.{on_ok_weaker, on_err_weaker}
use Rattle.cx_scopes.specs.Scopes.{with_name}
use Rattle.cx_scopes.proofs.Equal.{scope_eq, same-scope}
use Rattle.cx_scopes.proofs.Inserted.{tables-written}
use Rattle.cx_scopes.proofs.tables.ScopeNames.add.Goals as goal

pub returns-in-Some-clause-ok : goal.returns-in-Some-clause-ok
returns-in-Some-clause-ok c =
    on_ok_weaker c.add.result
    (λ e. (c.get_mut.follows.holds c.add.new.self).0
    ∙ ap (λ names. set_value (scope_eq c.args.place) c.self.inside.tables.entries names) e
    ∙ tables-written scope_eq same-scope c.self.inside.tables.entries c.args.place c.args.name.now c.in-Some.table.now c.args.entity (sym c.in-Some.ensures.value)
    ∙ ap (λ tables. with_name tables c.args.place c.args.name.now c.args.entity) c.self.view_is)
    c.add.ensures.ok

pub returns-in-Some-clause-err : goal.returns-in-Some-clause-err
returns-in-Some-clause-err c =
    on_err_weaker c.add.result
    (λ e. (c.get_mut.follows.holds c.add.new.self).0
    ∙ ap (λ names. set_value (scope_eq c.args.place) c.self.inside.tables.entries names) e
    ∙ set_value_same (scope_eq c.args.place) c.self.inside.tables.entries c.in-Some.table.now (sym c.in-Some.ensures.value)
    ∙ c.self.view_is)
    c.add.ensures.err
