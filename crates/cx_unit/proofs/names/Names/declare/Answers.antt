use Rattle.cx_unit.proofs.NameLookups.{named-insert}
use Rattle.cx_unit.proofs.names.Names.declare.Goals as goal

pub returns-clause-ok : goal.returns-clause-ok
returns-clause-ok g c =
    named-insert c.self.inside.table c.in-Ok.key c.args.value c.insert.new.self.entries c.args.self.now c.args.name.now
    c.self.view_is c.in-Ok.ensures.items c.requires c.in-Ok-insert.ensures.entries
