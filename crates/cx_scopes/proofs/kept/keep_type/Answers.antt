use Rattle.std.proofs.Common.{◌∙◌, sym, ap}
use Rattle.cx_scopes.specs.Steps.{types_with}
use Rattle.cx_scopes.proofs.Inserted.{insert-kept, types-named}
use Rattle.cx_scopes.proofs.kept.keep_type.Goals as goal

pub returns-then-not-contains_key : goal.returns-then-not-contains_key
returns-then-not-contains_key c =
    (rw c.unwrap.ensures at c.insert.ensures.entries)
    ∙ insert-kept _ c.in-Named.ty c.args.space c.args.types.now.entries (sym c.contains_key.ensures ∙ c.if-not-contains_key.true)
    ∙ sym (types-named c.args.types.now.entries c.args.place c.in-Named.ty c.args.space c.in_default.not-Enum)
    ∙ ap (λ e. types_with c.args.types.now.entries c.args.place e c.args.space) (sym c.in-Named.is)
