use Rattle.std.proofs.Common.{◌∙◌, ap, sym}
use Rattle.cx_scopes.specs.Steps.{with_class}
use Rattle.cx_scopes.proofs.Inserted.{insert-kept}
use Rattle.cx_scopes.proofs.kept.keep_class.Goals as goal

pub returns-in-Ok-insert-clause-ok : goal.returns-in-Ok-insert-clause-ok
returns-in-Ok-insert-clause-ok c =
    c.in-Ok-insert.ensures.entries
    ∙ insert-kept _ c.args.class _ c.args.classes.now.entries (sym c.contains_key.ensures ∙ c.if-contains_key.false)
    ∙ ap (λ bases. with_class c.args.classes.now.entries c.args.class bases c.args.space) (c.from_vec.ensures ∙ c.in-Ok.ensures.items)
