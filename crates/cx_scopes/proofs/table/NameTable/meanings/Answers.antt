use Rattle.std.proofs.Common.{◌∙◌, ap, sym, []}
use Rattle.std.specs.Prelude.{unwrap_or}
use Rattle.cx_scopes.specs.Names.{meanings}
use Rattle.cx_scopes.proofs.Tabled.{meanings-lookup}
use Rattle.cx_scopes.proofs.table.NameTable.meanings.Goals as goal

pub returns-in-Some : goal.returns-in-Some
returns-in-Some c =
    c.as_slice.ensures ∙ ap (λ o. unwrap_or o []) c.in-Some.ensures.value
    ∙ sym (meanings-lookup c.self.inside.names.entries c.args.name.now)
    ∙ ap (λ names. meanings names c.args.name.now) c.self.view_is

pub returns-in-None : goal.returns-in-None
returns-in-None c =
    ap (λ o. unwrap_or o []) c.in-None.ensures.value
    ∙ sym (meanings-lookup c.self.inside.names.entries c.args.name.now)
    ∙ ap (λ names. meanings names c.args.name.now) c.self.view_is
