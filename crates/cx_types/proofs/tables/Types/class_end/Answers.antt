use Rattle.std.proofs.Common.{slice_get}
use Rattle.cx_type_defs.proofs.BodyLaws.{fits-key}
use Rattle.cx_types.proofs.tables.Types.class_end.Goals as goal

pub complete_class-requires-clause-fits : goal.complete_class-requires-clause-fits
complete_class-requires-clause-fits c = fits-key c.args.self.now (slice_get c.args.self.now.classes c.args.class.0) c.key-key.result c.args.body c.requires.fits c.key-key.ensures
