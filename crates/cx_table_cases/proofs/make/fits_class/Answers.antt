use Rattle.std.proofs.Common.{slice_get}
use Rattle.cx_type_defs.proofs.BodyLaws.{key-fits}
use Rattle.cx_table_cases.proofs.make.fits_class.Goals as goal

pub returns : goal.returns
returns c = λ _. key-fits c.args.types.now (slice_get c.args.types.now.classes c.args.class.0) c.key-key.result c.args.body.now (c.fits.ensures c.if-not-fits.false) c.key-key.ensures
