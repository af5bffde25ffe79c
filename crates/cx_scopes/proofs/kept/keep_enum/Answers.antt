use Rattle.std.proofs.Common.{◌∙◌, sym}
use Rattle.cx_scopes.proofs.Inserted.{insert-kept}
use Rattle.cx_scopes.proofs.kept.keep_enum.Goals as goal

pub returns-in-Ok-clause-ok : goal.returns-in-Ok-clause-ok
returns-in-Ok-clause-ok c =
    c.in-Ok.ensures.entries
    ∙ insert-kept _ c.args.id c.args.space c.args.enums.now.entries (sym c.contains_key.ensures ∙ c.if-contains_key.false)
