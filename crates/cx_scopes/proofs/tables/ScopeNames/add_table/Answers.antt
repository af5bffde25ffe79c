use Rattle.std.proofs.Common.{◌≡◌, ◌∙◌, ap, []}
use Rattle.cx_scopes.specs.Names.{with_meaning}
use Rattle.cx_scopes.specs.Scopes.{names_at, with_name}
use Rattle.cx_scopes.proofs.Equal.{scope_eq, same-scope}
use Rattle.cx_scopes.proofs.Inserted.{tables-insert}
use Rattle.cx_scopes.proofs.tables.ScopeNames.add_table.Goals as goal

pub returns-in-Ok-clause-ok : goal.returns-in-Ok-clause-ok
returns-in-Ok-clause-ok c =
    let one : c.add.new.self ≡ with_meaning [] c.args.name.now c.args.entity = c.in_ok-add.ensures.ok ∙ ap (λ names. with_meaning names c.args.name.now c.args.entity) c.new-table.ensures in
    rw one at c.in-Ok.ensures.entries
    ∙ tables-insert scope_eq same-scope c.self.inside.tables.entries c.args.place c.args.name.now c.args.entity (ap (λ tables. names_at tables c.args.place) c.self.view_is ∙ c.requires)
    ∙ ap (λ tables. with_name tables c.args.place c.args.name.now c.args.entity) c.self.view_is
