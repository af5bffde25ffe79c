use Rattle.std.proofs.Common.{◌≡◌}
use Rattle.cx_type_defs.specs.Tables.{Grows as TypesGrow}
use Rattle.cx_typed.proofs.Growth.{types_grown, types_one_more, program_grown, vars_kept}
use Rattle.cx_typed.proofs.program.Program.intern.Goals as goal

pub invariant_of-self : goal.invariant_of-self
invariant_of-self c = program_grown c.self.inside.types c.intern.new.self (types_grown c.intern.result c.self.inside.types c.intern.new.self c.args.row c.intern.ensures.grows c.intern.ensures.err) c.sound.ensures c.self.inside.variables.items c.self.invariant

pub returns-clause-grows : goal.returns-clause-grows
returns-clause-grows c = rw (← c.self.view_is) (types_grown c.intern.result c.self.inside.types c.intern.new.self c.args.row c.intern.ensures.grows c.intern.ensures.err)

pub returns-clause-same : goal.returns-clause-same
returns-clause-same c = rw (← c.self.view_is) (vars_kept c.self.inside.types c.intern.new.self (types_grown c.intern.result c.self.inside.types c.intern.new.self c.args.row c.intern.ensures.grows c.intern.ensures.err) c.sound.ensures c.self.inside.variables.items c.self.invariant.types)

pub returns-clause-one_more : goal.returns-clause-one_more
returns-clause-one_more c = rw (← c.self.view_is) (types_one_more c.intern.result c.self.inside.types c.intern.new.self c.args.row c.intern.ensures.grows c.intern.ensures.err)
