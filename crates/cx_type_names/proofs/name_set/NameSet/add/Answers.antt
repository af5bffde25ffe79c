use Rattle.std.proofs.Common.{◌∙◌, ap, sym}
use Rattle.std.specs.FinSet.{contains}
use Rattle.cx_type_names.proofs.Sets.{has-text, insert-member, insert-named}
use Rattle.cx_type_names.proofs.name_set.NameSet.add.Goals as goal

pub returns-then-contains-clause-ok : goal.returns-then-contains-clause-ok
returns-then-contains-clause-ok c =
    insert-member c.args.self.now c.args.name.now
    (sym (ap (λ names. contains names c.args.name.now) c.self.view_is) ∙ sym (has-text c.self.inside.names.keys c.args.name.now)
    ∙ sym c.contains.ensures ∙ c.if-contains.true)

pub returns-clause-ok : goal.returns-clause-ok
returns-clause-ok c =
    insert-named c.self.inside.names.keys c.in-Ok.key c.args.name.now c.in-Ok.ensures.items (sym c.contains.ensures ∙ c.if-contains.false)
    c.insert.new.self.keys c.in-Ok-insert.ensures.keys c.args.self.now c.self.view_is
