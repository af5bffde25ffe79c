use Rattle.cx_type_defs.specs.declared.kind.TypeKind.TheVariants as kind
use Rattle.cx_store_cases.proofs.Seats.{class-seat, told-as}
use Rattle.cx_store_cases.proofs.parts.class_of.Goals as goal

pub returns-in-Class : goal.returns-in-Class
returns-in-Class g c = class-seat c.args.types.now (g.S.Store.objects c.args.store.now) (g.S.Store.path c.args.store.now) (g.S.Store.fits_objects c.args.store.now c.args.types.now c.requires.fits) c.args.at c.in-Class.class c.requires.seat (told-as c.args.at.kind _ (kind.Class c.in-Class.class) c.in_ok-kind.ensures c.in-Class.is)
