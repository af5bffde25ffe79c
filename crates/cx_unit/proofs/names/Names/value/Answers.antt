use Rattle.std.proofs.Common.{◌∙◌, ap}
use Rattle.cx_unit.specs.Names.{value_among}
use Rattle.cx_unit.proofs.NameLookups.{lookup-named}
use Rattle.cx_unit.proofs.names.Names.value.Goals as goal

pub returns : goal.returns
returns g c =
    c.copied.ensures ∙ c.get.ensures.value
    ∙ lookup-named c.self.inside.table.entries c.args.name.now
    ∙ ap (λ entries. value_among entries c.args.name.now) c.self.view_is
