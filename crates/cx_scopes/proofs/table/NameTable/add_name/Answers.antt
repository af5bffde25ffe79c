use Rattle.std.proofs.Common.{◌≡◌, ◌∙◌, ◌++◌, ◌∷◌, ap, []}
use Rattle.cx_scopes.specs.Names.{meanings, with_meaning}
use Rattle.cx_scopes.proofs.Tabled.{named, named-insert}
use Rattle.cx_scopes.proofs.table.NameTable.add_name.Goals as goal

pub returns-in-Ok-insert-clause-ok : goal.returns-in-Ok-insert-clause-ok
returns-in-Ok-insert-clause-ok c =
    let one : c.push.new.self ≡ c.args.entity ∷ [] = c.in_ok-push.ensures.ok ∙ ap (λ l. l ++ c.args.entity ∷ []) c.new-entities.ensures in
    ap named (rw one at c.in-Ok-insert.ensures.entries)
    ∙ named-insert c.self.inside.names.entries c.in-Ok.key c.args.name.now c.args.entity c.in-Ok.ensures.items
    (ap (λ names. meanings names c.args.name.now) c.self.view_is ∙ c.requires)
    ∙ ap (λ names. with_meaning names c.args.name.now c.args.entity) c.self.view_is
