use Rattle.std.proofs.Common.{◌∙◌, ap, sym, []}
use Rattle.std.specs.Prelude.{unwrap_or}
use Rattle.std.specs.Map.{set_value}
use Rattle.std.proofs.lemmas.Result.{on_ok_weaker, on_err_weaker}
use Rattle.cx_scopes.specs.Names.{meanings, with_meaning}
use Rattle.cx_scopes.proofs.Tabled.{named, has_name, meanings-lookup, named-set_value, named-same}
use Rattle.cx_scopes.proofs.table.NameTable.add.Goals as goal

pub add_name-requires : goal.add_name-requires
add_name-requires c =
    ap (λ m. meanings (named m.entries) c.args.name.now) c.get_mut.follows.holds-at-none
    ∙ meanings-lookup c.self.inside.names.entries c.args.name.now
    ∙ ap (λ o. unwrap_or o []) (sym c.in-None.ensures.value)

pub returns-in-Some-clause-ok : goal.returns-in-Some-clause-ok
returns-in-Some-clause-ok c =
    on_ok_weaker c.push.result
    (λ e. ap named ((c.get_mut.follows.holds c.push.new.self).0)
    ∙ ap (λ es. named (set_value (has_name c.args.name.now) c.self.inside.names.entries es)) e
    ∙ named-set_value c.self.inside.names.entries c.args.name.now c.in-Some.entities.now c.args.entity (sym c.in-Some.ensures.value)
    ∙ ap (λ names. with_meaning names c.args.name.now c.args.entity) c.self.view_is)
    c.push.ensures.ok

pub returns-in-Some-clause-err : goal.returns-in-Some-clause-err
returns-in-Some-clause-err c =
    on_err_weaker c.push.result
    (λ e. ap named ((c.get_mut.follows.holds c.push.new.self).0)
    ∙ ap (λ es. named (set_value (has_name c.args.name.now) c.self.inside.names.entries es)) e
    ∙ named-same c.self.inside.names.entries c.args.name.now c.in-Some.entities.now (sym c.in-Some.ensures.value)
    ∙ c.self.view_is)
    c.push.ensures.err
