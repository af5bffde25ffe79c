use Rattle.cx_exprs.specs.Desks.{types_of}
use Rattle.cx_exprs.proofs.ObjectForms.{object_int}
use Rattle.cx_exprs.proofs.objects.object_of.Goals as goal

pub returns-in-Int : goal.returns-in-Int
returns-in-Int g c = object_int (types_of c.args.elab.now) c.row-row.ensures.sound c.args.id c.row-row.result c.in-Int.ty c.row-row.ensures.stands c.in-Int.is
